use Rattle.std.proofs.Common.{◌≡◌, ◌++◌, string_bytes, sym, rules, ◌∙◌}
use Rattle.std.specs.Prelude.{codes, decimal}
use Rattle.sr_generate.specs.Script.{line_feed}
use Rattle.sr_script.specs.TraceText.{why_text}
use Rattle.sr_cli.proofs.LoadTexts.{unknown_text, reason_text}
use Rattle.sr_cli.proofs.report.load_line.Goals as goal

pub returns-in_ok-format-in-UnknownTable : goal.returns-in_ok-format-in-UnknownTable
returns-in_ok-format-in-UnknownTable c = c.in_ok-format-in-UnknownTable.ensures.ok ∙ sym (unknown_text c.args.table.now c.args.fault c.in-UnknownTable.is)

pub returns-in_ok-format-in_default : goal.returns-in_ok-format-in_default
returns-in_ok-format-in_default c =
    let said : string_bytes c.in_ok-format-in_default.field-0 ≡ codes "load " ++ (c.args.table.now ++ (codes " " ++ (decimal c.args.fault.at ++ (codes " " ++ (why_text c.args.fault.why ++ line_feed))))) = search rules in
    said ∙ sym (reason_text c.args.table.now c.args.fault c.in_default.not-UnknownTable)
