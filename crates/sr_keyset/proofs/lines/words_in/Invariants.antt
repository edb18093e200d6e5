use Rattle.std.proofs.Common.{◌≡◌, ◌+◌, ◌≤◌, ◌++◌, length, map}
use Rattle.sr_keyset.specs.Follows.{line_seen}
use Rattle.sr_keyset.specs.Lines.{words_from, words_in}
use Rattle.sr_lines.specs.Lines.{lines_of}
use Rattle.sr_keyset.proofs.lines.words_in.Given as goal

abbrev pub invariant-lines : goal.invariant-lines
invariant-lines l = record {
  words : map line_seen l.found ++ words_from l.number (lines_of l.rest) ≡ words_in l.fn.script;
  few : length l.found + length l.rest ≤ length l.fn.script;
  counted : l.number + length l.rest ≤ length l.fn.script + 1;
}

abbrev pub decreases-lines : goal.decreases-lines
decreases-lines l = length l.rest
