use Rattle.std.proofs.Common.{length}
use Rattle.sr_reader.proofs.Stages.{Cut}
use Rattle.sr_reader.proofs.lines.read_lines.Given as goal

abbrev pub invariant-lines : goal.invariant-lines
invariant-lines l = Cut l.fn.clients l.fn.bytes l.number l.rest l.running l.lines

abbrev pub decreases-lines : goal.decreases-lines
decreases-lines l = length l.rest
