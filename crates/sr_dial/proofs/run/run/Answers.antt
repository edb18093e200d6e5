use Rattle.std.proofs.Common.{refl, sym, subst}
use Rattle.sr_links.specs.Steps.{Resumed}
use Rattle.sr_plan.specs.Plans.{Next}
use Rattle.sr_dial.specs.Calls.{Do}
use Rattle.sr_dial.specs.Courses.{Start}
use Rattle.sr_dial.specs.Runs.{RanSteadily}
use Rattle.sr_dial.proofs.RunLemmas.{finishes-ran}
use Rattle.sr_dial.proofs.SomeLemmas.{unbegun}
use Rattle.sr_talk.proofs.MoveLemmas.{so-in-err}
use Rattle.sr_dial.proofs.run.run.Goals as goal

pub returns-clause-ran : goal.returns-clause-ran
returns-clause-ran g c past ahead stands cut out follows =
    let k = g.C.Asks.setting c.args.client.now in
    let s : Start _ (g.H.Outside.IsSteady c.args.host.now) = record { linking = g.H.Outside.linking c.args.host.now; writing = g.H.Outside.writing c.args.host.now; code = c.args.client.now; past = past; address = c.args.address.now; plan = Next 0 (Do Resumed) ahead } in
    let first = c.in_ok-end.ensures.ended k c.args.host.now s (λ z. z) ahead refl refl c.requires.schema refl (unbegun _ g.C.Asks.stands g.C.Asks.lent g.C.Peer.is_of g.C.Hearer.has_told k s stands cut out c.requires.fresh) in
    let rest = c.in_ok-ending.ensures.ended k c.args.host.now s (λ z. c.first_line.ensures.stays.stays_steady z) ahead refl c.first_line.ensures.setting c.requires.schema first (subst (λ x. g.P.Plans.follows x c.args.plans.now ahead) c.requires.schema follows) in
    subst (λ w. RanSteadily _ (g.H.Outside.IsSteady c.args.host.now) g.C.Asks.stands g.C.Peer.is_of g.C.Hearer.has_told k c.args.client.now past c.args.address.now (Next 0 (Do Resumed) ahead) c.in_ok-ending.ending (g.H.Outside.linking c.args.host.now) (g.H.Outside.linking c.hang_up.new.self) (g.H.Outside.writing c.args.host.now) w c.go_on.new.client) (sym c.hang_up.ensures.writing_stays)
    (finishes-ran _ g.C.Asks.stands g.C.Asks.lent g.C.Peer.is_of g.C.Hearer.has_told k s _ (g.H.Outside.linking c.hang_up.new.self) _ _ _ c.hang_up.ensures.over c.in_ok-ending.ending rest)

pub returns-in_err-end-clause-broken_off : goal.returns-in_err-end-clause-broken_off
returns-in_err-end-clause-broken_off g c past ahead stands cut out follows =
    let k = g.C.Asks.setting c.args.client.now in
    let s : Start _ (g.H.Outside.IsSteady c.args.host.now) = record { linking = g.H.Outside.linking c.args.host.now; writing = g.H.Outside.writing c.args.host.now; code = c.args.client.now; past = past; address = c.args.address.now; plan = Next 0 (Do Resumed) ahead } in
    so-in-err c.from_residual.result (c.in_err-end.ensures.broken_off k c.args.host.now s (λ z. z) ahead refl refl c.requires.schema refl (unbegun _ g.C.Asks.stands g.C.Asks.lent g.C.Peer.is_of g.C.Hearer.has_told k s stands cut out c.requires.fresh))

pub returns-in_err-ending-clause-broken_off : goal.returns-in_err-ending-clause-broken_off
returns-in_err-ending-clause-broken_off g c past ahead stands cut out follows =
    let k = g.C.Asks.setting c.args.client.now in
    let s : Start _ (g.H.Outside.IsSteady c.args.host.now) = record { linking = g.H.Outside.linking c.args.host.now; writing = g.H.Outside.writing c.args.host.now; code = c.args.client.now; past = past; address = c.args.address.now; plan = Next 0 (Do Resumed) ahead } in
    let first = c.in_ok-end.ensures.ended k c.args.host.now s (λ z. z) ahead refl refl c.requires.schema refl (unbegun _ g.C.Asks.stands g.C.Asks.lent g.C.Peer.is_of g.C.Hearer.has_told k s stands cut out c.requires.fresh) in
    so-in-err c.from_residual-in_err-ending.result (c.in_err-ending.ensures.broken_off k c.args.host.now s (λ z. c.first_line.ensures.stays.stays_steady z) ahead refl c.first_line.ensures.setting c.requires.schema first (subst (λ x. g.P.Plans.follows x c.args.plans.now ahead) c.requires.schema follows))
