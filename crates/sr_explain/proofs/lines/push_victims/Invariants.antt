use Rattle.std.proofs.Common.{◌≡◌, ◌++◌, ◌+◌, drop}
use Rattle.sr_explain.specs.Telling.{victim_lines}
use Rattle.sr_explain.proofs.lines.push_victims.Given as goal

abbrev pub invariant-loop-before : goal.invariant-loop-before
invariant-loop-before l = l.lines ++ victim_lines (l.before + 1) (drop l.before l.victims) ≡ l.fn.lines ++ victim_lines 1 l.victims
