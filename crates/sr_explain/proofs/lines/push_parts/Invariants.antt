use Rattle.std.proofs.Common.{◌≡◌, ◌++◌, drop}
use Rattle.std.specs.Prelude.{flat_map}
use Rattle.sr_explain.specs.Telling.{part_lines}
use Rattle.sr_explain.proofs.lines.push_parts.Given as goal

abbrev pub invariant-loop-part : goal.invariant-loop-part
invariant-loop-part l = l.lines ++ flat_map part_lines (drop l.part-index l.parts) ≡ l.fn.lines ++ flat_map part_lines l.parts
