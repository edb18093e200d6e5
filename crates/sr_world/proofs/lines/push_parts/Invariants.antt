use Rattle.std.proofs.Common.{◌≡◌, ◌++◌, drop, map}
use Rattle.sr_runs.specs.Lines.{part_line}
use Rattle.sr_world.proofs.lines.push_parts.Given as goal

abbrev pub invariant-loop-part : goal.invariant-loop-part
invariant-loop-part l = l.lines ++ map part_line (drop l.part-index l.parts) ≡ l.fn.lines ++ map part_line l.parts
