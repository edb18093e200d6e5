use Rattle.std.proofs.Common.{◌≡◌, List, refl, sym, subst, ◌∙◌}
use Rattle.std.specs.Prelude.{Some}
use Rattle.std.proofs.lemmas.Result.{on_ok_weaker, IfErr-weaker}
use Rattle.sr_cell.specs.declared.table.Table.{Table}
use Rattle.sr_dial.specs.declared.ending.Ending.{Ending}
use Rattle.sr_cli.specs.Client.{ending_of}
use Rattle.sr_cli.specs.Image.{RanOn, StopsOn}
use Rattle.sr_cli.specs.declared.report.Refusal.TheVariants.{Write}
use Rattle.sr_cli.specs.declared.stop.Stop.TheVariants.{Refused}
use Rattle.sr_cli.proofs.ClientLemmas.{stops_written}
use Rattle.sr_cli.proofs.ImageLemmas.{stops-ended}
use Rattle.sr_cli.proofs.LeavesLemmas.{err-of}
use Rattle.sr_cli.proofs.warm.warm_on.Goals as goal

pub run_plan-requires-clause-schema : goal.run_plan-requires-clause-schema
run_plan-requires-clause-schema g c = c.as_slice.ensures ∙ sym c.requires.schema

pub run_plan-requires-clause-asks : goal.run_plan-requires-clause-asks
run_plan-requires-clause-asks g c =
    let asks = c.requires.asks in
    (asks.0, subst (λ (s : List Table). g.P.Plans.follows s c.args.plans.now asks.0) (sym c.as_slice.ensures) asks.1)

pub returns-in-Ok-clause-whole : goal.returns-in-Ok-clause-whole
returns-in-Ok-clause-whole g c = λ past ahead stands down free follows.
    let there = subst (λ (s : List Table). g.P.Plans.follows s c.args.plans.now ahead) (sym c.as_slice.ensures) follows in
    let ran = rw c.as_str-address.ensures at (c.in-Ok.ensures.ran past ahead stands down free there) in
    on_ok_weaker c.end_by.result
    (λ is. subst (λ (e : Ending). RanOn _ g.H.Outside.linking g.H.Outside.writing g.H.Outside.IsSteady c.args.host.now c.run_plan.new.host c.args.end.now past c.args.words.now.address ahead c.run_plan.new.end e) is ran)
    c.end_by.ensures.whole

pub returns-in-Ok-clause-stopped : goal.returns-in-Ok-clause-stopped
returns-in-Ok-clause-stopped g c = λ past ahead stands down free follows.
    let there = subst (λ (s : List Table). g.P.Plans.follows s c.args.plans.now ahead) (sym c.as_slice.ensures) follows in
    let ran = rw c.as_str-address.ensures at (c.in-Ok.ensures.ran past ahead stands down free there) in
    IfErr-weaker c.end_by.result (λ why. ending_of why ≡ Some c.in-Ok.ending)
    (StopsOn _ g.H.Outside.linking g.H.Outside.writing g.H.Outside.IsSteady c.args.host.now c.run_plan.new.host c.args.end.now past c.args.words.now.address ahead c.run_plan.new.end)
    (λ why is. stops-ended (RanOn _ g.H.Outside.linking g.H.Outside.writing g.H.Outside.IsSteady c.args.host.now c.run_plan.new.host c.args.end.now past c.args.words.now.address ahead c.run_plan.new.end) _ _ _ c.in-Ok.ending why is ran) c.end_by.ensures.stopped

pub returns-in-Err-clause-stopped : goal.returns-in-Err-clause-stopped
returns-in-Err-clause-stopped g c = λ past ahead stands down free follows.
    let there = subst (λ (s : List Table). g.P.Plans.follows s c.args.plans.now ahead) (sym c.as_slice.ensures) follows in
    rw c.as_str-address.ensures at (c.in-Err.ensures.broken_off past ahead stands down free there)

pub returns-in-Ok-clause-steady_writes : goal.returns-in-Ok-clause-steady_writes
returns-in-Ok-clause-steady_writes g c = λ steady failed.
    stops_written c.in-Ok.ending (Refused Write) (c.in-Ok.ensures.steady_writes steady)
    (err-of (λ why. ending_of why ≡ Some c.in-Ok.ending) c.end_by.result (Refused Write) c.end_by.ensures.stopped failed) refl

pub returns-in-Err-clause-steady_writes : goal.returns-in-Err-clause-steady_writes
returns-in-Err-clause-steady_writes g c = λ steady failed. cc
