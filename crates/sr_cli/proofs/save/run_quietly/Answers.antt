use Rattle.std.proofs.Common.{◌+◌, ◌≤◌, false, List, ℕ, inr, refl, sym, ap, subst, ◌∙◌}
use Rattle.std.specs.Prelude.{◌*◌}
use Rattle.sr_cell.specs.declared.table.Table.{Table}
use Rattle.sr_links.specs.Steps.{Resumed}
use Rattle.sr_plan.specs.Plans.{Next}
use Rattle.sr_dial.specs.Calls.{Do}
use Rattle.sr_dial.specs.Known.{Setting}
use Rattle.sr_calls.specs.ClientEnds.{End, Stands, room_of}
use Rattle.sr_calls.specs.Runs.{RanOff, RanSteadilyFrom, new_past}
use Rattle.sr_calls.proofs.RunLemmas.{broke_new, new_room, new_stands, ran_new_steadily}
use Rattle.sr_cli.proofs.ImageLemmas.{saves-nothing}
use Rattle.sr_cli.proofs.save.run_quietly.Goals as goal

pub run_plan-requires-clause-schema : goal.run_plan-requires-clause-schema
run_plan-requires-clause-schema g c = c.as_slice.ensures ∙ sym (ap (λ (e : End). e.client.schema) c.in_ok-end.ensures)

pub run_plan-requires-clause-asks : goal.run_plan-requires-clause-asks
run_plan-requires-clause-asks g c =
    let asks = c.requires.asks in
    (asks.0, subst (λ (s : List Table). g.P.Plans.follows s c.args.plans.now asks.0) (sym c.as_slice.ensures) asks.1)

pub run_plan-requires-clause-room : goal.run_plan-requires-clause-room
run_plan-requires-clause-room g c =
    let words = c.args.words.now in
    subst (λ (e : End). 4000004 * (g.P.Plans.depth c.args.plans.now + 1) ≤ room_of e.client) (sym c.in_ok-end.ensures)
    (new_room words.id c.args.schema.now words.limits (g.P.Plans.depth c.args.plans.now) c.requires.few)

pub run_plan-requires-clause-fresh : goal.run_plan-requires-clause-fresh
run_plan-requires-clause-fresh g c = ap (λ (e : End). e.answer) c.in_ok-end.ensures

pub returns-in-Ok-clause-ran : goal.returns-in-Ok-clause-ran
returns-in-Ok-clause-ran g c = λ ahead follows.
    let words = c.args.words.now in
    let schema = c.args.schema.now in
    let ending = c.in-Ok.ending in
    let old = g.H.Outside.linking c.args.host.now in
    let new = g.H.Outside.linking c.run_plan.new.host in
    let before = g.H.Outside.writing c.args.host.now in
    let after = g.H.Outside.writing c.run_plan.new.host in
    let left = c.run_plan.new.end in
    let is = c.in_ok-end.ensures in
    let stands = subst (λ (e : End). Stands e new_past) (sym is) (new_stands words.id schema words.limits false false c.requires.tables) in
    let there = subst (λ (s : List Table). g.P.Plans.follows s c.args.plans.now ahead) (sym c.as_slice.ensures) follows in
    let steady = g.H.Outside.IsSteady c.args.host.now in
    let from = subst (λ (e : End). RanSteadilyFrom steady e new_past words.address (Next 0 (Do Resumed) ahead) ending old new before after left) is
    (subst (λ (a : List ℕ). RanSteadilyFrom steady c.in_ok-end.end new_past a (Next 0 (Do Resumed) ahead) ending old new before after left) c.as_str-address.ensures
    (c.in-Ok.ensures.ran new_past ahead stands refl refl there)) in
    let known = ran_new_steadily steady words.id words.address schema words.limits false false (Next 0 (Do Resumed) ahead) ending old new before after left c.requires.tables from in
    record { ran = record { run = record { begins = known.run.begins; left = left; ran = from.to }; steady_links = from.steady_links }; is = refl }

pub returns-in-Ok-clause-limits : goal.returns-in-Ok-clause-limits
returns-in-Ok-clause-limits g c = ap (λ (k : Setting). k.limits) c.run_plan.ensures.setting ∙ ap (λ (e : End). e.client.store.limits) c.in_ok-end.ensures

pub returns-in-Err-clause-broken_off : goal.returns-in-Err-clause-broken_off
returns-in-Err-clause-broken_off g c = λ ahead follows.
    let words = c.args.words.now in
    let schema = c.args.schema.now in
    let old = g.H.Outside.linking c.args.host.now in
    let new = g.H.Outside.linking c.run_plan.new.host in
    let before = g.H.Outside.writing c.args.host.now in
    let after = g.H.Outside.writing c.run_plan.new.host in
    let is = c.in_ok-end.ensures in
    let stands = subst (λ (e : End). Stands e new_past) (sym is) (new_stands words.id schema words.limits false false c.requires.tables) in
    let there = subst (λ (s : List Table). g.P.Plans.follows s c.args.plans.now ahead) (sym c.as_slice.ensures) follows in
    let part = broke_new words.id words.address schema words.limits false false (Next 0 (Do Resumed) ahead) old new before after c.requires.tables
    (subst (λ (e : End). RanOff e new_past words.address (Next 0 (Do Resumed) ahead) old new before after) is
    (subst (λ (a : List ℕ). RanOff c.in_ok-end.end new_past a (Next 0 (Do Resumed) ahead) old new before after) c.as_str-address.ensures
    (c.in-Err.ensures.broken_off new_past ahead stands refl refl there))) in
    inr (saves-nothing words schema ahead old new before after part)
