use Rattle.sr_union.proofs.Free.{IsTidied}
use Rattle.sr_union.proofs.tidy.settle_all.Given as goal

abbrev pub invariant-loop-column : goal.invariant-loop-column
invariant-loop-column l = IsTidied l.columns l.keep l.column l.rects l.settled
