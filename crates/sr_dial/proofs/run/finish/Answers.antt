use Rattle.std.proofs.Common.{subst}
use Rattle.sr_dial.specs.Courses.{Hands}
use Rattle.sr_dial.specs.Runs.{none_taken}
use Rattle.sr_dial.proofs.run.finish.Goals as goal

pub returns-in-Whole-clause-ended : goal.returns-in-Whole-clause-ended
returns-in-Whole-clause-ended g c k first s steady ahead failed same schema hands =
    c.settle.ensures.ended k first s steady ahead failed same schema (subst (λ x. Hands _ g.C.Asks.stands g.C.Asks.lent g.C.Peer.is_of g.C.Hearer.has_told k x s ahead c.args.number none_taken failed (g.H.Outside.linking c.args.host.now) (g.H.Outside.writing c.args.host.now) c.args.feed.now c.args.client.now) c.in-Whole.is hands)

pub returns-in-Broken-clause-ended : goal.returns-in-Broken-clause-ended
returns-in-Broken-clause-ended g c k first s steady ahead failed same schema hands =
    c.failed.ensures.ended k first s steady ahead failed c.args.feed.now same schema (subst (λ x. Hands _ g.C.Asks.stands g.C.Asks.lent g.C.Peer.is_of g.C.Hearer.has_told k x s ahead c.args.number none_taken failed (g.H.Outside.linking c.args.host.now) (g.H.Outside.writing c.args.host.now) c.args.feed.now c.args.client.now) c.in-Broken.is hands)

pub returns-in-Unwritten-clause-ended : goal.returns-in-Unwritten-clause-ended
returns-in-Unwritten-clause-ended g c k first s steady ahead failed same schema hands =
    (subst (λ x. Hands _ g.C.Asks.stands g.C.Asks.lent g.C.Peer.is_of g.C.Hearer.has_told k x s ahead c.args.number none_taken failed (g.H.Outside.linking c.args.host.now) (g.H.Outside.writing c.args.host.now) c.args.feed.now c.args.client.now) c.in-Unwritten.is hands, tt)

pub returns-in-Whole-clause-broken_off : goal.returns-in-Whole-clause-broken_off
returns-in-Whole-clause-broken_off g c k first s steady ahead failed same schema hands =
    c.settle.ensures.broken_off k first s steady ahead failed same schema (subst (λ x. Hands _ g.C.Asks.stands g.C.Asks.lent g.C.Peer.is_of g.C.Hearer.has_told k x s ahead c.args.number none_taken failed (g.H.Outside.linking c.args.host.now) (g.H.Outside.writing c.args.host.now) c.args.feed.now c.args.client.now) c.in-Whole.is hands)

pub returns-in-Broken-clause-broken_off : goal.returns-in-Broken-clause-broken_off
returns-in-Broken-clause-broken_off g c k first s steady ahead failed same schema hands =
    c.failed.ensures.broken_off k first s steady ahead failed c.args.feed.now same schema (subst (λ x. Hands _ g.C.Asks.stands g.C.Asks.lent g.C.Peer.is_of g.C.Hearer.has_told k x s ahead c.args.number none_taken failed (g.H.Outside.linking c.args.host.now) (g.H.Outside.writing c.args.host.now) c.args.feed.now c.args.client.now) c.in-Broken.is hands)
