use Rattle.std.proofs.Common.{◌≡◌, ◌<◌, [], ◌∷◌, ◌++◌, ◌∙◌, length, ap, sym, subst, append_assoc}
use Rattle.std.specs.List.{All}
use Rattle.std.specs.Vec.Iter.{into_iter_items}
use Rattle.std.proofs.lemmas.List.Elements.{All-tail}
use Rattle.sr_store.specs.declared.start.Kept.{Kept}
use Rattle.sr_store.specs.Starting.{region_of, regions_of}
use Rattle.sr_store.proofs.start.regions_of.Goals as goal

pub loop-part-preserved : goal.loop-part-preserved
loop-part-preserved c =
    let schema = c.args.schema.now in
    let rest = into_iter_items c.next.new.self in
    let turn : into_iter_items c.loop-part.part-iterator ≡ c.in-Some.part ∷ rest = c.in-Some.ensures.steps.0 in
    let own = region_of schema c.in-Some.part in
    let pushed = c.in_ok-push.ensures.pushed ∙ ap (λ g. c.loop-part.regions ++ g ∷ []) c.region_of.ensures in
    record {
      made = ap (λ gs. gs ++ regions_of schema rest) pushed ∙ append_assoc c.loop-part.regions (own ∷ []) (regions_of schema rest)
          ∙ ap (λ ks. c.loop-part.regions ++ regions_of schema ks) (sym turn) ∙ c.loop-part.invariant.made;
      within = All-tail (λ (k : Kept). k.table < length schema) c.in-Some.part rest (subst (All (λ (k : Kept). k.table < length schema)) turn c.loop-part.invariant.within);
    }
