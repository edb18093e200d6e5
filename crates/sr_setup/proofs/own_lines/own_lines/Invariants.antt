use Rattle.std.proofs.Common.{length}
use Rattle.sr_setup.proofs.Walks.{Judged, LinesBefore}
use Rattle.sr_setup.proofs.own_lines.own_lines.Given as goal

abbrev pub invariant-lines : goal.invariant-lines
invariant-lines g l = record {
  judged : Judged (g.L.OwnLine.fault l.fn.id) l.fn.bytes l.number l.rest;
  read : LinesBefore g.L.OwnLine.says l.fn.bytes l.rest l.lines;
}

abbrev pub decreases-lines : goal.decreases-lines
decreases-lines g l = length l.rest
