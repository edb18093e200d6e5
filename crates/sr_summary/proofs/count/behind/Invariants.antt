use Rattle.std.proofs.Common.{◌≡◌, drop}
use Rattle.sr_lines.specs.Script.{behind}
use Rattle.sr_summary.proofs.count.behind.Given as goal

abbrev pub invariant-loop-i : goal.invariant-loop-i
invariant-loop-i l = behind l.line ≡ behind (drop l.i l.line)
