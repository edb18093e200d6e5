use Rattle.sr_talk.proofs.ReadLemmas.{ReadSoFar}
use Rattle.sr_talk.proofs.frames.next_frame.Given as goal

abbrev pub invariant-loop : goal.invariant-loop
invariant-loop g l = ReadSoFar _ g.L.Outside.reading g.L.Outside.writing g.L.Outside.linking g.L.Outside.held g.L.Outside.complaints g.L.Outside.IsSteady l.initial.link l.link l.initial.feed l.feed l.counter
