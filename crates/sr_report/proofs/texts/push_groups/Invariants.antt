use Rattle.std.proofs.Common.{◌≡◌, ◌++◌, drop, string_bytes}
use Rattle.std.specs.Prelude.{flat_map}
use Rattle.sr_report.specs.Texts.{group_text}
use Rattle.sr_report.proofs.texts.push_groups.Given as goal

abbrev pub invariant-loop-row : goal.invariant-loop-row
invariant-loop-row l = string_bytes l.text ++ flat_map (group_text l.number) (drop l.row-index l.groups) ≡ string_bytes l.fn.text ++ flat_map (group_text l.number) l.groups
