use Rattle.std.proofs.Common.{◌≡◌, ◌++◌, drop, take}
use Rattle.sr_lines.specs.Script.{part_of}
use Rattle.sr_summary.proofs.count.part_of.Given as goal

abbrev pub invariant-loop-i : goal.invariant-loop-i
invariant-loop-i l = part_of l.line ≡ take l.i l.line ++ part_of (drop l.i l.line)
