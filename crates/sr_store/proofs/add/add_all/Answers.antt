use Rattle.std.proofs.Common.{◌≡◌, ◌∷◌, ◌∙◌, ap, sym, subst}
use Rattle.std.specs.Vec.Iter.{into_iter_items}
use Rattle.sr_store.specs.Classes.{ascends}
use Rattle.sr_store.specs.Renewing.{with_region, with_regions}
use Rattle.sr_store.specs.Making.{CanJoin}
use Rattle.sr_store.proofs.Joining.{join_one, join_more}
use Rattle.sr_store.proofs.Adding.{with_region-ascends}
use Rattle.sr_store.proofs.add.add_all.Goals as goal

pub add-requires-clause-join : goal.add-requires-clause-join
add-requires-clause-join c =
    let turn : into_iter_items c.loop-region.region-iterator ≡ c.in-Some.region ∷ into_iter_items c.next.new.self = c.in-Some.ensures.steps.0 in
    join_one c.loop-region.regions c.in-Some.region (into_iter_items c.next.new.self) (subst (CanJoin c.loop-region.regions) turn c.loop-region.invariant.join)

pub loop-region-preserved : goal.loop-region-preserved
loop-region-preserved c =
    let turn : into_iter_items c.loop-region.region-iterator ≡ c.in-Some.region ∷ into_iter_items c.next.new.self = c.in-Some.ensures.steps.0 in
    let added : c.add.new.regions ≡ with_region c.loop-region.regions c.in-Some.region = c.in_ok-add.ensures in
    record {
      same = ap (λ gs. with_regions gs (into_iter_items c.next.new.self)) added ∙ ap (with_regions c.loop-region.regions) (sym turn) ∙ c.loop-region.invariant.same;
      order = ap ascends added ∙ with_region-ascends c.loop-region.regions c.in-Some.region c.loop-region.invariant.order;
      join = subst (λ gs. CanJoin gs (into_iter_items c.next.new.self)) (sym added)
          (join_more c.loop-region.regions c.in-Some.region (into_iter_items c.next.new.self) (subst (CanJoin c.loop-region.regions) turn c.loop-region.invariant.join));
    }
