use Rattle.std.proofs.Common.{length}
use Rattle.sr_cell.specs.Clients.{most_clients}
use Rattle.sr_reader.specs.Lined.{IsLine}
use Rattle.sr_setup.specs.Files.{schema_fault}
use Rattle.sr_setup.proofs.Walks.{Judged, LinesBefore}
use Rattle.sr_setup.proofs.schema_file.schema_lines.Given as goal

abbrev pub invariant-lines : goal.invariant-lines
invariant-lines l = record {
  judged : Judged schema_fault l.fn.bytes l.number l.rest;
  read : LinesBefore (IsLine most_clients) l.fn.bytes l.rest l.lines;
}

abbrev pub decreases-lines : goal.decreases-lines
decreases-lines l = length l.rest
