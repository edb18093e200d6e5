use Rattle.sr_serve.proofs.ExecLemmas.{SoFar}
use Rattle.sr_serve.proofs.exec.exec_all.Given as goal

abbrev pub invariant-loop-at : goal.invariant-loop-at
invariant-loop-at g l = SoFar _ g.K.Outside.reading g.K.Outside.writing g.K.Outside.linking g.K.Outside.held g.K.Outside.complaints g.K.Outside.IsSteady l.texts l.initial.sink l.sink l.initial.server l.server l.at
