use Rattle.sr_talk.proofs.SomeLemmas.{SomeSoFar}
use Rattle.sr_talk.proofs.rounds.serve_some.Given as goal

abbrev pub invariant-loop-done : goal.invariant-loop-done
invariant-loop-done g l = SomeSoFar g.S.Serves.gives _ _ g.H.Outside.reading g.H.Outside.writing g.H.Outside.linking g.H.Outside.held g.H.Outside.complaints g.H.Outside.IsSteady g.S.Serves.is_of g.S.Serves.room l.initial.host l.host l.initial.server l.server l.done l.faulty
