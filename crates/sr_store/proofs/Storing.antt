-- A store stays one when it is told which rows keys have.
use Rattle.std.proofs.Common.{List, map, subst, arith}
use Rattle.std.specs.List.{All}
use Rattle.std.proofs.lemmas.List.Elements.{All-weaker, All-map}
use Rattle.sr_cell.specs.declared.table.Table.{Table}
use Rattle.sr_message.specs.declared.message.Tell.{Tell}
use Rattle.sr_region.specs.declared.region.Region.{Region}
use Rattle.sr_store.specs.Brought.{tells_all}
use Rattle.sr_store.specs.Told.{Told, IsTold, AreTrueOf}
use Rattle.sr_store.specs.Stores.{IsOfSchema, IsStore, IsSettled, IsAbsorbedIn}
use Rattle.sr_store.specs.Noticed.{told_to, IsTellOf}
use Rattle.sr_store.proofs.Chunks.{IsChunk, region-chunk, lies-occurs, some-telling, regions-keys}
use Rattle.sr_store.proofs.Settled.{settled_less}
use Rattle.sr_store.proofs.Telling.{only-rows, occurs-told, rects-told, ascends-told, told-all, each-told, true-each}

module _ (schema : List Table) where
  -- the regions of a store have the rows of some telling
  store-telling : (regions : List Region) → IsStore schema regions → (told : Told) × IsTold schema told × AreTrueOf told regions
  store-telling regions h =
      some-telling schema regions (All-weaker (IsOfSchema schema) (IsChunk schema) (region-chunk schema) regions h.each)
      (λ t a p point. let x = lies-occurs regions t a p in let y = h.once t a p point in omega (arith, x, y)) h.keys

  pub store-told : (told : List Tell) (regions : List Region) → IsStore schema regions → All (IsTellOf schema) told → IsStore schema (map (told_to told) regions)
  store-told told regions h all =
      let few = h.few in
      let telling = store-telling regions h in
      let each = each-told schema told regions all h.each in
      record {
        each = each;
        order = ascends-told told regions h.order;
        once = λ t a p point. let e = occurs-told told regions t a p in let le = h.once t a p point in omega (arith, e, le);
        keys = regions-keys schema (tells_all schema told telling.0) (told-all schema told telling.0 all telling.1) (map (told_to told) regions) each
            (true-each schema told telling.0 regions all telling.1 h.each telling.2)
            (λ t a p point. let e = occurs-told told regions t a p in let le = h.once t a p point in omega (arith, e, le));
        few = let e = rects-told told regions in omega (arith, e, few);
      }

  -- and none is absorbed that was not
  pub settled-told : (told : List Tell) (regions : List Region) → IsSettled schema regions → IsSettled schema (map (told_to told) regions)
  settled-told told regions all =
      All-map (λ g. IsAbsorbedIn schema (map (told_to told) regions) g → ⊥) (told_to told) regions
      (All-weaker (λ g. IsAbsorbedIn schema (map (told_to told) regions) g → ⊥) (λ g. IsAbsorbedIn schema (map (told_to told) regions) (told_to told g) → ⊥)
      (λ g stays by. stays (subst (IsAbsorbedIn schema (map (told_to told) regions)) (only-rows told g) by)) regions
      (settled_less schema (map (told_to told) regions) regions regions (λ t a p point. let e = occurs-told told regions t a p in omega (arith, e)) all))
