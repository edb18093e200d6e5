use Rattle.std.proofs.Common.{◌≡◌, ◌+◌, ◌≤◌, true, List, ℕ, None, inr, refl, sym, ap, subst, ◌∙◌}
use Rattle.std.specs.Prelude.{◌*◌, IfOk, OnErr}
use Rattle.std.proofs.lemmas.Result.{IfOk-weaker, on_err_weaker}
use Rattle.sr_cell.specs.declared.table.Table.{Table}
use Rattle.sr_links.specs.Steps.{Resumed}
use Rattle.sr_plan.specs.Plans.{Next}
use Rattle.sr_dial.specs.Calls.{Do}
use Rattle.sr_dial.specs.Following.{Ahead}
use Rattle.sr_calls.specs.ClientEnds.{End, Stands, room_of}
use Rattle.sr_calls.specs.Runs.{RanNewSteadily, RanOff, RanSteadilyFrom, new_end, new_past}
use Rattle.sr_calls.proofs.RunLemmas.{broke_new, new_room, new_stands, ran_new_steadily}
use Rattle.sr_cli.proofs.kinds.run_new.Goals as goal

pub run_plan-requires-clause-schema : goal.run_plan-requires-clause-schema
run_plan-requires-clause-schema g c = c.as_slice.ensures ∙ sym (ap (λ (e : End). e.client.schema) c.in_ok-end.ensures)

pub run_plan-requires-clause-asks : goal.run_plan-requires-clause-asks
run_plan-requires-clause-asks g c =
    let asks = c.requires.asks in
    (asks.0, subst (λ (s : List Table). g.P.Plans.follows s c.args.plans.now asks.0) (sym c.as_slice.ensures) asks.1)

pub run_plan-requires-clause-room : goal.run_plan-requires-clause-room
run_plan-requires-clause-room g c =
    let words = c.args.words.now in
    subst (λ (e : End). 4000004 * (g.P.Plans.depth c.args.plans.now + 1) ≤ room_of e.client) (sym c.in_ok-end.ensures)
    (new_room words.id c.args.schema.now words.limits (g.P.Plans.depth c.args.plans.now) c.requires.few)

pub run_plan-requires-clause-fresh : goal.run_plan-requires-clause-fresh
run_plan-requires-clause-fresh g c = ap (λ (e : End). e.answer) c.in_ok-end.ensures

pub returns-clause-ran : goal.returns-clause-ran
returns-clause-ran g c = λ ahead follows.
    let words = c.args.words.now in
    let schema = c.args.schema.now in
    let old = g.H.Outside.linking c.args.host.now in
    let new = g.H.Outside.linking c.run_plan.new.host in
    let before = g.H.Outside.writing c.args.host.now in
    let after = g.H.Outside.writing c.run_plan.new.host in
    let left = c.run_plan.new.end in
    let is = c.in_ok-end.ensures in
    let stands = subst (λ (e : End). Stands e new_past) (sym is) (new_stands words.id schema words.limits c.args.keeps true c.requires.tables) in
    let there = subst (λ (s : List Table). g.P.Plans.follows s c.args.plans.now ahead) (sym c.as_slice.ensures) follows in
    let ran = c.run_plan.ensures.ran new_past ahead stands refl refl there in
    IfOk-weaker c.run_plan.result (λ ended. RanSteadilyFrom (g.H.Outside.IsSteady c.args.host.now) (new_end words.id schema words.limits c.args.keeps true) new_past words.address (Next 0 (Do Resumed) ahead) ended old new before after left)
    (λ ended. RanNewSteadily (g.H.Outside.IsSteady c.args.host.now) words.id words.address schema words.limits c.args.keeps true (Next 0 (Do Resumed) ahead) ended old new before after)
    (λ ended from. ran_new_steadily (g.H.Outside.IsSteady c.args.host.now) words.id words.address schema words.limits c.args.keeps true (Next 0 (Do Resumed) ahead) ended old new before after left c.requires.tables from)
    (subst (λ (e : End). IfOk c.run_plan.result (λ ended. RanSteadilyFrom (g.H.Outside.IsSteady c.args.host.now) e new_past words.address (Next 0 (Do Resumed) ahead) ended old new before after left)) is
    (subst (λ (a : List ℕ). IfOk c.run_plan.result (λ ended. RanSteadilyFrom (g.H.Outside.IsSteady c.args.host.now) c.in_ok-end.end new_past a (Next 0 (Do Resumed) ahead) ended old new before after left)) c.as_str-address.ensures ran))

pub returns-clause-broken_off : goal.returns-clause-broken_off
returns-clause-broken_off g c = λ ahead follows.
    let words = c.args.words.now in
    let schema = c.args.schema.now in
    let old = g.H.Outside.linking c.args.host.now in
    let new = g.H.Outside.linking c.run_plan.new.host in
    let before = g.H.Outside.writing c.args.host.now in
    let after = g.H.Outside.writing c.run_plan.new.host in
    let is = c.in_ok-end.ensures in
    let stands = subst (λ (e : End). Stands e new_past) (sym is) (new_stands words.id schema words.limits c.args.keeps true c.requires.tables) in
    let there = subst (λ (s : List Table). g.P.Plans.follows s c.args.plans.now ahead) (sym c.as_slice.ensures) follows in
    let off = c.run_plan.ensures.broken_off new_past ahead stands refl refl there in
    on_err_weaker c.run_plan.result
    (λ (part : RanOff (new_end words.id schema words.limits c.args.keeps true) new_past words.address (Next 0 (Do Resumed) ahead) old new before after).
    inr (broke_new words.id words.address schema words.limits c.args.keeps true (Next 0 (Do Resumed) ahead) old new before after c.requires.tables part))
    (subst (λ (e : End). OnErr c.run_plan.result (RanOff e new_past words.address (Next 0 (Do Resumed) ahead) old new before after)) is
    (subst (λ (a : List ℕ). OnErr c.run_plan.result (RanOff c.in_ok-end.end new_past a (Next 0 (Do Resumed) ahead) old new before after)) c.as_str-address.ensures off))
