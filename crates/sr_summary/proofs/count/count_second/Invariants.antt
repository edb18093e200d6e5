use Rattle.std.proofs.Common.{◌≡◌, ◌+◌, ◌≤◌, length}
use Rattle.sr_summary.specs.Summary.{count_of}
use Rattle.sr_summary.proofs.count.count_second.Given as goal

abbrev pub invariant-lines : goal.invariant-lines
invariant-lines l = record {
  counted : count_of l.word l.fn.text ≡ l.count + count_of l.word l.rest;
  few : l.count + length l.rest ≤ length l.fn.text;
}

abbrev pub decreases-lines : goal.decreases-lines
decreases-lines l = length l.rest
