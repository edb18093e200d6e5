use Rattle.std.proofs.Common.{◌≡◌, ◌+◌, ◌≤◌, length}
use Rattle.sr_lines.specs.Lines.{lines_of}
use Rattle.sr_summary.proofs.count.count_lines.Given as goal

abbrev pub invariant-lines : goal.invariant-lines
invariant-lines l = record {
  counted : length (lines_of l.fn.text) ≡ l.count + length (lines_of l.rest);
  few : l.count + length l.rest ≤ length l.fn.text;
}

abbrev pub decreases-lines : goal.decreases-lines
decreases-lines l = length l.rest
