use Rattle.std.proofs.Common.{sym, subst}
use Rattle.sr_dial.specs.Courses.{EndsLine}
use Rattle.sr_dial.proofs.SomeLemmas.{ends-failed}
use Rattle.sr_talk.proofs.MoveLemmas.{so-in-err}
use Rattle.sr_dial.proofs.run.failed.Goals as goal

pub returns-clause-ended : goal.returns-clause-ended
returns-clause-ended g c k first s steady ahead failed feed same schema broken =
    subst (λ end. EndsLine _ g.C.Asks.stands g.C.Asks.lent g.C.Peer.is_of g.C.Hearer.has_told k end s ahead c.args.number failed (g.H.Outside.linking c.fail.new.host) (g.H.Outside.writing c.fail.new.host) feed c.fail.new.client) (sym c.end_of.ensures)
    (ends-failed _ g.C.Asks.stands g.C.Asks.lent g.C.Peer.is_of g.C.Hearer.has_told k s ahead c.args.number failed _ _ feed _ c.in_ok-said.said (c.in_ok-said.ensures.failed k first s steady ahead feed same schema broken))

pub returns-in_err-said-clause-broken_off : goal.returns-in_err-said-clause-broken_off
returns-in_err-said-clause-broken_off g c k first s steady ahead failed feed same schema broken =
    so-in-err c.from_residual.result (c.in_err-said.ensures.broken_off k first s steady ahead feed same schema broken)
