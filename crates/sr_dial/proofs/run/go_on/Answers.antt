use Rattle.std.proofs.Common.{false, subst}
use Rattle.sr_dial.specs.Courses.{EndsLine}
use Rattle.sr_dial.proofs.SoFarLemmas.{early}
use Rattle.sr_dial.proofs.run.go_on.Goals as goal

pub returns-in-Done-clause-ended : goal.returns-in-Done-clause-ended
returns-in-Done-clause-ended g c k first s steady ahead at same schema ends follows =
    c.run_plan.ensures.ended k first s steady ahead 0 at same schema (subst (λ x. EndsLine _ g.C.Asks.stands g.C.Asks.lent g.C.Peer.is_of g.C.Hearer.has_told k x s ahead 0 false (g.H.Outside.linking c.args.host.now) (g.H.Outside.writing c.args.host.now) c.args.feed.now c.args.client.now) c.in-Done.is ends) follows

pub returns-in-Failed-clause-ended : goal.returns-in-Failed-clause-ended
returns-in-Failed-clause-ended g c k first s steady ahead at same schema ends follows =
    c.run_plan-in-Failed.ensures.ended k first s steady ahead 0 at same schema (subst (λ x. EndsLine _ g.C.Asks.stands g.C.Asks.lent g.C.Peer.is_of g.C.Hearer.has_told k x s ahead 0 false (g.H.Outside.linking c.args.host.now) (g.H.Outside.writing c.args.host.now) c.args.feed.now c.args.client.now) c.in-Failed.is ends) follows

pub returns-in-Ends-clause-ended : goal.returns-in-Ends-clause-ended
returns-in-Ends-clause-ended g c k first s steady ahead at same schema ends follows =
    let e = subst (λ x. EndsLine _ g.C.Asks.stands g.C.Asks.lent g.C.Peer.is_of g.C.Hearer.has_told k x s ahead 0 false (g.H.Outside.linking c.args.host.now) (g.H.Outside.writing c.args.host.now) c.args.feed.now c.args.client.now) c.in-Ends.is ends in
    early _ g.C.Asks.stands g.C.Asks.lent g.C.Peer.is_of g.C.Hearer.has_told k s c.in-Ends.ending _ _ _ _ e.0 e.1

pub returns-in-Done-clause-broken_off : goal.returns-in-Done-clause-broken_off
returns-in-Done-clause-broken_off g c k first s steady ahead at same schema ends follows =
    c.run_plan.ensures.broken_off k first s steady ahead 0 at same schema (subst (λ x. EndsLine _ g.C.Asks.stands g.C.Asks.lent g.C.Peer.is_of g.C.Hearer.has_told k x s ahead 0 false (g.H.Outside.linking c.args.host.now) (g.H.Outside.writing c.args.host.now) c.args.feed.now c.args.client.now) c.in-Done.is ends) follows

pub returns-in-Failed-clause-broken_off : goal.returns-in-Failed-clause-broken_off
returns-in-Failed-clause-broken_off g c k first s steady ahead at same schema ends follows =
    c.run_plan-in-Failed.ensures.broken_off k first s steady ahead 0 at same schema (subst (λ x. EndsLine _ g.C.Asks.stands g.C.Asks.lent g.C.Peer.is_of g.C.Hearer.has_told k x s ahead 0 false (g.H.Outside.linking c.args.host.now) (g.H.Outside.writing c.args.host.now) c.args.feed.now c.args.client.now) c.in-Failed.is ends) follows
