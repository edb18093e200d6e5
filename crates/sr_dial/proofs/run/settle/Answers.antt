use Rattle.std.proofs.Common.{◌∙◌, subst}
use Rattle.sr_dial.specs.Courses.{Waits}
use Rattle.sr_talk.proofs.MoveLemmas.{so-in-err}
use Rattle.sr_dial.proofs.run.settle.Goals as goal

pub returns-in-Free-clause-ended : goal.returns-in-Free-clause-ended
returns-in-Free-clause-ended g c k first s steady ahead failed same schema at =
    subst (λ how. Waits _ g.C.Asks.stands g.C.Asks.lent g.C.Peer.is_of g.C.Hearer.has_told k how s ahead c.args.number failed (g.H.Outside.linking c.await_answer.new.host) (g.H.Outside.writing c.await_answer.new.host) c.await_answer.new.feed c.await_answer.new.client) c.in-Free.is (c.in_ok-await_answer.ensures.awaited k first s steady ahead failed same schema at)

pub returns-in-Failed-clause-ended : goal.returns-in-Failed-clause-ended
returns-in-Failed-clause-ended g c k first s steady ahead failed same schema at =
    c.failed.ensures.ended k first s (λ z. c.await_answer.ensures.stays.stays_steady (steady z)) ahead failed c.await_answer.new.feed (c.await_answer.ensures.setting ∙ same) schema
    (subst (λ how. Waits _ g.C.Asks.stands g.C.Asks.lent g.C.Peer.is_of g.C.Hearer.has_told k how s ahead c.args.number failed (g.H.Outside.linking c.await_answer.new.host) (g.H.Outside.writing c.await_answer.new.host) c.await_answer.new.feed c.await_answer.new.client) c.in-Failed.is (c.in_ok-await_answer.ensures.awaited k first s steady ahead failed same schema at))

pub returns-in-Unwritten-clause-ended : goal.returns-in-Unwritten-clause-ended
returns-in-Unwritten-clause-ended g c k first s steady ahead failed same schema at =
    (subst (λ how. Waits _ g.C.Asks.stands g.C.Asks.lent g.C.Peer.is_of g.C.Hearer.has_told k how s ahead c.args.number failed (g.H.Outside.linking c.await_answer.new.host) (g.H.Outside.writing c.await_answer.new.host) c.await_answer.new.feed c.await_answer.new.client) c.in-Unwritten.is (c.in_ok-await_answer.ensures.awaited k first s steady ahead failed same schema at), tt)

pub returns-in-Spoiled-clause-ended : goal.returns-in-Spoiled-clause-ended
returns-in-Spoiled-clause-ended g c k first s steady ahead failed same schema at =
    (subst (λ how. Waits _ g.C.Asks.stands g.C.Asks.lent g.C.Peer.is_of g.C.Hearer.has_told k how s ahead c.args.number failed (g.H.Outside.linking c.await_answer.new.host) (g.H.Outside.writing c.await_answer.new.host) c.await_answer.new.feed c.await_answer.new.client) c.in-Spoiled.is (c.in_ok-await_answer.ensures.awaited k first s steady ahead failed same schema at), tt)

pub returns-in-Bad-clause-ended : goal.returns-in-Bad-clause-ended
returns-in-Bad-clause-ended g c k first s steady ahead failed same schema at =
    (subst (λ how. Waits _ g.C.Asks.stands g.C.Asks.lent g.C.Peer.is_of g.C.Hearer.has_told k how s ahead c.args.number failed (g.H.Outside.linking c.await_answer.new.host) (g.H.Outside.writing c.await_answer.new.host) c.await_answer.new.feed c.await_answer.new.client) c.in-Bad.is (c.in_ok-await_answer.ensures.awaited k first s steady ahead failed same schema at), tt)

pub returns-in-Limit-clause-ended : goal.returns-in-Limit-clause-ended
returns-in-Limit-clause-ended g c k first s steady ahead failed same schema at =
    (subst (λ how. Waits _ g.C.Asks.stands g.C.Asks.lent g.C.Peer.is_of g.C.Hearer.has_told k how s ahead c.args.number failed (g.H.Outside.linking c.await_answer.new.host) (g.H.Outside.writing c.await_answer.new.host) c.await_answer.new.feed c.await_answer.new.client) c.in-Limit.is (c.in_ok-await_answer.ensures.awaited k first s steady ahead failed same schema at), tt)

pub returns-in_err-await_answer-clause-broken_off : goal.returns-in_err-await_answer-clause-broken_off
returns-in_err-await_answer-clause-broken_off g c k first s steady ahead failed same schema at =
    so-in-err c.from_residual.result (c.in_err-await_answer.ensures.broken_off k first s steady ahead failed same schema at)

pub returns-in-Failed-clause-broken_off : goal.returns-in-Failed-clause-broken_off
returns-in-Failed-clause-broken_off g c k first s steady ahead failed same schema at =
    c.failed.ensures.broken_off k first s (λ z. c.await_answer.ensures.stays.stays_steady (steady z)) ahead failed c.await_answer.new.feed (c.await_answer.ensures.setting ∙ same) schema
    (subst (λ how. Waits _ g.C.Asks.stands g.C.Asks.lent g.C.Peer.is_of g.C.Hearer.has_told k how s ahead c.args.number failed (g.H.Outside.linking c.await_answer.new.host) (g.H.Outside.writing c.await_answer.new.host) c.await_answer.new.feed c.await_answer.new.client) c.in-Failed.is (c.in_ok-await_answer.ensures.awaited k first s steady ahead failed same schema at))
