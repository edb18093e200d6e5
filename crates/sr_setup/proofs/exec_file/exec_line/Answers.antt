use Rattle.std.proofs.Common.{refl, sym, ◌∙◌, ap}
use Rattle.std.specs.Prelude.{Some}
use Rattle.sr_reader.proofs.LineWords.{is_text, no_text}
use Rattle.sr_setup.proofs.Walks.{text_fault, other_fault}
use Rattle.sr_setup.proofs.exec_file.exec_line.Goals as goal

pub returns-in-Ok-clause-inside : goal.returns-in-Ok-clause-inside
returns-in-Ok-clause-inside c = text_fault c.args.bytes.now (is_text c.args.bytes.now c.args.bytes.now refl c.in-Ok.ensures.cases.1)

pub returns-in-Err-clause-outside : goal.returns-in-Err-clause-outside
returns-in-Err-clause-outside c =
    other_fault c.args.bytes.now (no_text c.args.bytes.now c.in-Err.ensures.cases.0) ∙ ap Some (sym (c.valid_up_to.ensures ∙ c.in-Err.ensures.valid_len))
