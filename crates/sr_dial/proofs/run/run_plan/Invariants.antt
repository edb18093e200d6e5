use Rattle.sr_dial.proofs.SoFarLemmas.{RunSoFar}
use Rattle.sr_dial.proofs.run.run_plan.Given as goal

abbrev pub decreases-loop-job : goal.decreases-loop-job
decreases-loop-job g l = g.P.Plans.depth l.plans

abbrev pub invariant-loop-job : goal.invariant-loop-job
invariant-loop-job g l = RunSoFar _ _ _ g.H.Outside.reading g.H.Outside.writing g.H.Outside.linking g.H.Outside.held g.H.Outside.complaints g.H.Outside.IsSteady g.C.Asks.stands g.C.Asks.lent g.C.Peer.is_of g.C.Hearer.has_told g.C.Asks.setting g.C.Asks.room g.P.Plans.follows g.P.Plans.depth l.fn.schema l.fn.address
    l.initial.plans l.plans l.fn.failed l.failed l.initial.host l.host l.initial.feed l.feed l.initial.client l.client
