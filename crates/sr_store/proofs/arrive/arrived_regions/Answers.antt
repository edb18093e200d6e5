use Rattle.std.proofs.Common.{◌≡◌, ◌∷◌, ◌++◌, [], sym, subst, arith}
use Rattle.std.specs.List.{All, AllZip}
use Rattle.std.specs.Vec.Iter.{into_iter_items}
use Rattle.std.proofs.lemmas.Grind.{common_steps}
use Rattle.std.proofs.lemmas.List.Elements.{All-rest}
use Rattle.sr_union.proofs.Once.{err_same}
use Rattle.sr_store.specs.Renewing.{IsArrived}
use Rattle.sr_store.specs.Making.{FitsSchema}
use Rattle.sr_store.proofs.Making.{completes_more, completes_all}
use Rattle.sr_store.proofs.Refusals.{IsCome, all_come, heavy_come}
use Rattle.sr_store.proofs.arrive.arrived_regions.Goals as goal

pub loop-arrival-init : goal.loop-arrival-init
loop-arrival-init c =
    let schema = c.args.schema.now in
    let items = into_iter_items c.into_iter-arrival-iterator.result in
    let same : items ≡ c.args.arrivals = grind (arith, common_steps) in
    record {
      made = λ more h. subst (λ made. AllZip (IsArrived schema c.args.number) c.args.arrivals (made ++ more)) (sym c.new-regions.ensures) (subst (λ rs. AllZip (IsArrived schema c.args.number) rs more) same h);
      fit = subst (All (FitsSchema schema)) (sym same) c.requires.fit;
      come = λ old parts. subst (All (IsCome schema old parts c.args.arrivals)) (sym same) (all_come schema old parts c.args.arrivals c.requires.fit);
    }

pub loop-arrival-preserved : goal.loop-arrival-preserved
loop-arrival-preserved c =
    let turn : into_iter_items c.loop-arrival.arrival-iterator ≡ c.in-Some.arrival ∷ into_iter_items c.next.new.self = c.in-Some.ensures.steps.0 in
    record {
      made = completes_more (AllZip (IsArrived c.args.schema.now c.args.number)) c.args.arrivals c.loop-arrival.regions (c.in-Ok.region ∷ []) c.push.new.self
          c.in-Some.arrival (into_iter_items c.loop-arrival.arrival-iterator) (into_iter_items c.next.new.self) turn c.in_ok-push-in-Ok.ensures.pushed
          (λ more h. (c.in-Ok.ensures.arrived, h)) c.loop-arrival.invariant.made;
      fit = All-rest (FitsSchema c.args.schema.now) c.in-Some.arrival (into_iter_items c.next.new.self) (into_iter_items c.loop-arrival.arrival-iterator) turn c.loop-arrival.invariant.fit;
      come = λ old parts. All-rest (IsCome c.args.schema.now old parts c.args.arrivals) c.in-Some.arrival (into_iter_items c.next.new.self) (into_iter_items c.loop-arrival.arrival-iterator) turn
          (c.loop-arrival.invariant.come old parts);
    }

pub returns-in-Err-clause-over : goal.returns-in-Err-clause-over
returns-in-Err-clause-over c = λ old parts e.
    heavy_come c.args.schema.now old parts c.args.arrivals c.in-Some.arrival (into_iter_items c.next.new.self) (into_iter_items c.loop-arrival.arrival-iterator)
    c.in-Some.ensures.steps.0 (c.loop-arrival.invariant.come old parts) (c.in-Err.ensures.over (err_same c.in-Err.no _ e))

pub returns-clause-arrived : goal.returns-clause-arrived
returns-clause-arrived c =
    let none : into_iter_items c.loop-arrival.arrival-iterator ≡ [] = grind (arith, common_steps) in
    completes_all (AllZip (IsArrived c.args.schema.now c.args.number)) c.args.arrivals c.loop-arrival.regions (into_iter_items c.loop-arrival.arrival-iterator) none tt c.loop-arrival.invariant.made
