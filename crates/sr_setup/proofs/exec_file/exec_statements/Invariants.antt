use Rattle.std.proofs.Common.{◌≡◌, ◌+◌, ◌≤◌, ◌++◌, length}
use Rattle.sr_lines.specs.Lines.{lines_of}
use Rattle.sr_setup.specs.Files.{exec_fault, statements_of}
use Rattle.sr_setup.proofs.Walks.{Judged}
use Rattle.sr_setup.proofs.exec_file.exec_statements.Given as goal

abbrev pub invariant-lines : goal.invariant-lines
invariant-lines l = record {
  judged : Judged exec_fault l.fn.bytes l.number l.rest;
  read : statements_of (lines_of l.fn.bytes) ≡ l.statements ++ statements_of (lines_of l.rest);
  few : length l.statements + length l.rest ≤ length l.fn.bytes;
}

abbrev pub decreases-lines : goal.decreases-lines
decreases-lines l = length l.rest
