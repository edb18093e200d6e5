use Rattle.sr_talk.proofs.SendLemmas.{SentSoFar}
use Rattle.sr_talk.proofs.serve.send_messages.Given as goal

abbrev pub invariant-loop-message : goal.invariant-loop-message
invariant-loop-message g l = SentSoFar _ g.L.Outside.reading g.L.Outside.writing g.L.Outside.linking g.L.Outside.held g.L.Outside.complaints g.L.Outside.IsSteady l.initial.link l.link l.messages l.message-index
