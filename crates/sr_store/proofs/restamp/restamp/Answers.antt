use Rattle.std.proofs.Common.{◌≡◌, ◌∷◌, ◌++◌, [], sym, subst, arith}
use Rattle.std.specs.List.{All}
use Rattle.std.specs.Vec.Iter.{into_iter_items}
use Rattle.std.proofs.lemmas.Grind.{common_steps}
use Rattle.std.proofs.lemmas.List.Elements.{All-rest}
use Rattle.sr_union.proofs.Once.{err_same}
use Rattle.sr_store.specs.Stores.{IsOfSchema}
use Rattle.sr_store.specs.Renewing.{IsRestamped}
use Rattle.sr_store.specs.Making.{ComesFrom}
use Rattle.sr_store.proofs.Making.{completes_more, completes_all}
use Rattle.sr_store.proofs.Refusals.{heavy_first}
use Rattle.sr_store.proofs.Restamping.{restamped_append, restamped_nothing}
use Rattle.sr_store.proofs.restamp.restamp.Goals as goal

pub loop-region-init : goal.loop-region-init
loop-region-init c =
    let schema = c.args.schema.now in
    let parts = c.args.parts.now in
    let items = into_iter_items c.into_iter-region-iterator.result in
    let same : items ≡ c.args.regions = grind (arith, common_steps) in
    record {
      made = λ more h. subst (λ made. IsRestamped schema c.args.number parts c.args.regions (made ++ more)) (sym c.new-pieces.ensures) (subst (λ gs. IsRestamped schema c.args.number parts gs more) same h);
      each = subst (All (IsOfSchema schema)) (sym same) c.requires.each;
      come = λ old arrivals come. subst (All (ComesFrom schema old parts arrivals)) (sym same) come;
    }

pub loop-region-preserved : goal.loop-region-preserved
loop-region-preserved c =
    let schema = c.args.schema.now in
    let parts = c.args.parts.now in
    let region = c.in-Some.region in
    let left = into_iter_items c.next.new.self in
    let turn : into_iter_items c.loop-region.region-iterator ≡ region ∷ left = c.in-Some.ensures.steps.0 in
    let new = c.in-Ok.ensures.restamped in
    record {
      made = completes_more (IsRestamped schema c.args.number parts) c.args.regions c.loop-region.pieces new.0 c.restamp_one.new.pieces region
          (into_iter_items c.loop-region.region-iterator) left turn new.1
          (λ more h. restamped_append schema c.args.number parts (region ∷ []) new.0 left more new.2 h) c.loop-region.invariant.made;
      each = All-rest (IsOfSchema schema) region left (into_iter_items c.loop-region.region-iterator) turn c.loop-region.invariant.each;
      come = λ old arrivals come.
          All-rest (ComesFrom schema old parts arrivals) region left (into_iter_items c.loop-region.region-iterator) turn (c.loop-region.invariant.come old arrivals come);
    }

pub returns-in-Err-clause-over : goal.returns-in-Err-clause-over
returns-in-Err-clause-over c = λ old arrivals come e.
    heavy_first c.args.schema.now old c.args.parts.now arrivals c.in-Some.region (into_iter_items c.next.new.self) (into_iter_items c.loop-region.region-iterator)
    c.in-Some.ensures.steps.0 c.loop-region.invariant.each (c.loop-region.invariant.come old arrivals come) c.requires.fit (c.in-Err.ensures.over (err_same c.in-Err.no _ e))

pub returns-clause-restamped : goal.returns-clause-restamped
returns-clause-restamped c =
    let none : into_iter_items c.loop-region.region-iterator ≡ [] = grind (arith, common_steps) in
    completes_all (IsRestamped c.args.schema.now c.args.number c.args.parts.now) c.args.regions c.loop-region.pieces (into_iter_items c.loop-region.region-iterator) none
    (restamped_nothing c.args.schema.now c.args.number c.args.parts.now) c.loop-region.invariant.made
