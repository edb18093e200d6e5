use Rattle.std.proofs.Common.{◌∙◌, sym}
use Rattle.sr_reader.proofs.Numbers.{place_read}
use Rattle.sr_reader.proofs.parts.place_number.Goals as goal

pub returns : goal.returns
returns c = c.ok.ensures.value ∙ place_read c.args.part.now c.parse.result (sym c.are_digits.ensures ∙ c.if-not-are_digits.false) c.parse.ensures.value.0
