use Rattle.sr_dial.proofs.SoFarLemmas.{WaitedSoFar, left_to_take}
use Rattle.sr_dial.proofs.waiting.await_answer.Given as goal

abbrev pub decreases-frames : goal.decreases-frames
decreases-frames g l = left_to_take l.count

abbrev pub invariant-frames : goal.invariant-frames
invariant-frames g l = WaitedSoFar _ _ g.H.Outside.reading g.H.Outside.writing g.H.Outside.linking g.H.Outside.held g.H.Outside.complaints g.H.Outside.IsSteady g.C.Asks.stands g.C.Asks.lent g.C.Peer.is_of g.C.Hearer.has_told g.C.Asks.setting g.C.Asks.room l.schema l.number
    l.initial.host l.host l.initial.feed l.feed l.initial.client l.client l.count
