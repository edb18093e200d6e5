-- What an answer makes of a store, from the regions that it leaves as they are and those that it makes.
use Rattle.std.proofs.Common.{◌≡◌, ℕ, ◌+◌, ◌<◌, ◌≤◌, Bool, true, false, List, [], ◌++◌, map, length, refl, sym, ap, subst, ◌∙◌, arith}
use Rattle.std.specs.List.{list_all, All}
use Rattle.std.proofs.lemmas.List.Elements.{All-nil, All-weaker, All-map}
use Rattle.sr_cell.specs.declared.cause.Cause.TheVariants.{Absorbed, Pieces}
use Rattle.sr_cell.specs.declared.table.Table.{Table}
use Rattle.sr_cell.specs.Columns.{table_at}
use Rattle.sr_query.specs.declared.query.Part.{Part}
use Rattle.sr_query.specs.Bound.{is_table}
use Rattle.sr_region.specs.declared.region.Region.{Region}
use Rattle.sr_store.specs.declared.answer.Answer.{Answer}
use Rattle.sr_store.specs.declared.answer.News.{News}
use Rattle.sr_store.specs.declared.store.Arrival.{Arrival}
use Rattle.sr_store.specs.Classes.{ascends}
use Rattle.sr_store.specs.Told.{Told, IsTold, IsTrueOf, AreTrueOf}
use Rattle.sr_store.specs.Stores.{IsOfSchema, IsStore, IsSettled, count_rects, drop_of, IsAbsorbedIn}
use Rattle.sr_store.specs.Answered.{IsArrival, AreApart, HaveArrived, held_of, AreFlags, flagged, IsHeavy}
use Rattle.sr_store.specs.Renewing.{IsRenewal, with_regions}
use Rattle.sr_store.specs.Making.{IsKeyed, HasKey, CanJoin, without_rows, AreParted, IsStill, AreNews, IsAbsorbedBy, IsAnswerOf}
use Rattle.sr_store.proofs.Chunks.{regions-keys}
use Rattle.sr_store.proofs.Dropping.{flagged_all, flagged_ascends, flagged_fewer, flagged_fewer_keys, flagged_few}
use Rattle.sr_store.proofs.Given.{FitsPart}
use Rattle.sr_store.proofs.Heavy.{heavy_many}
use Rattle.sr_store.proofs.Merging.{flags_both, count_both, drops_sifted}
use Rattle.sr_store.proofs.Refusals.{left_cut}
use Rattle.sr_store.proofs.Settled.{settled_less, flags_none, flags_same, absorbed_both}
use Rattle.sr_store.proofs.Together.{still_order, together, news_classes}

has-key : (schema : List Table) (gs : List Region) → All (IsOfSchema schema) gs → All (HasKey (λ t. (table_at schema t).key)) gs
has-key schema gs all = All-weaker (IsOfSchema schema) (HasKey (λ t. (table_at schema t).key)) (λ g is. is.1.area.key) gs all

-- regions of tables of a schema can be joined
pub can_join_both : (schema : List Table) (hs gs : List Region) → All (IsOfSchema schema) hs → All (IsOfSchema schema) gs → CanJoin hs gs
can_join_both schema hs gs own all = record {
  key = λ t. (table_at schema t).key;
  keys = has-key schema hs own;
  keyed = All-weaker (IsOfSchema schema) (IsKeyed (λ t. (table_at schema t).key)) (λ g is. (is.1.area.key, is.1.ascending)) gs all;
}

pub can_join : (schema : List Table) (gs : List Region) → All (IsOfSchema schema) gs → CanJoin [] gs
can_join schema gs all = can_join_both schema [] gs (All-nil (IsOfSchema schema)) all

-- and so can those of which some have no rows
pub can_join_bare : (schema : List Table) (hs gs : List Region) → All (IsOfSchema schema) hs → All (IsOfSchema schema) gs → CanJoin hs (map without_rows gs)
can_join_bare schema hs gs own all = record {
  key = λ t. (table_at schema t).key;
  keys = has-key schema hs own;
  keyed = All-map (IsKeyed (λ t. (table_at schema t).key)) without_rows gs
      (All-weaker (IsOfSchema schema) (λ g. IsKeyed (λ t. (table_at schema t).key) (without_rows g)) (λ g is. (is.1.area.key, refl)) gs all);
}

-- some of two lists of regions can be joined where all can
pub can_join_some : (hs gs : List Region) (b : Bool) (fs es : List Bool) → CanJoin hs gs → CanJoin (flagged b fs hs) (flagged b es gs)
can_join_some hs gs b fs es can = record {
  key = can.key;
  keys = flagged_all (HasKey can.key) b fs hs can.keys;
  keyed = flagged_all (IsKeyed can.key) b es gs can.keyed;
}

-- none of the regions that stay is absorbed, where none is at all or where none stay
pub still_settled : (schema : List Table) (old still : List Region) (settled : Bool) (flags : List Bool) → (settled ≡ true → IsSettled schema old) → still ≡ flagged false flags old
    → (settled ≡ false → still ≡ []) → All (λ g. IsAbsorbedIn schema old g → ⊥) still
still_settled schema old still true flags none are all = subst (All (λ g. IsAbsorbedIn schema old g → ⊥)) (sym are) (flagged_all (λ g. IsAbsorbedIn schema old g → ⊥) false flags old (none refl))
still_settled schema old still false flags none are all = subst (All (λ g. IsAbsorbedIn schema old g → ⊥)) (sym (all refl)) (All-nil (λ g. IsAbsorbedIn schema old g → ⊥))

-- regions parted by their flags
pub parted_are : (schema : List Table) (number : ℕ) (parts : List Part) (arrivals : List Arrival) (old still changed : List Region) → All (IsOfSchema schema) old → ascends old ≡ true
    → All (λ g. IsAbsorbedIn schema old g → ⊥) still → AreApart schema old arrivals → (told : Told) × IsTold schema told × AreTrueOf told old × HaveArrived told arrivals
    → (flags : List Bool) × (length flags ≡ length old) × (still ≡ flagged false flags old) × (changed ≡ flagged true flags old) × All (IsStill number parts) still
    → AreParted schema number parts arrivals old still changed
parted_are schema number parts arrivals old still changed each order settled apart told flags = record {
  each = each;
  order = order;
  settled = settled;
  apart = apart;
  told = told.0;
  is_told = told.1;
  old_true = told.2;
  rows = told.3;
  flags = flags.0;
  long = flags.1;
  still_are = flags.2;
  changed_are = flags.3;
  are_still = flags.4;
}

module _ (schema : List Table) (number : ℕ) (parts : List Part) (arrivals : List Arrival) (old still changed : List Region) (fit : All (FitsPart schema) parts)
    (are : All (IsArrival schema parts) arrivals) (p : AreParted schema number parts arrivals old still changed) (news : News) (n : AreNews schema number parts arrivals still changed news) where
  abbrev all : List Region
  all = with_regions still news.regions

  renewal : IsRenewal schema number parts arrivals old all
  renewal = together schema number parts arrivals old still changed p news.regions n.renewal

  -- flags of all regions
  flags : (ds : List Bool) × AreFlags (IsAbsorbedBy schema still news.regions) ds all
      × ((b : Bool) → flagged b ds all ≡ with_regions (flagged b news.still_absorbed still) (flagged b news.absorbed news.regions))
  flags =
      flags_both (IsAbsorbedBy schema still news.regions) still news.regions news.still_absorbed news.absorbed (still_order schema number parts arrivals old still changed p) n.renewal.order
      (news_classes schema number parts arrivals old still changed p news.regions n.renewal) n.still_absorbed n.absorbed

  absorbed : AreFlags (IsAbsorbedIn schema all) flags.0 all
  absorbed = flags_same (IsAbsorbedBy schema still news.regions) (IsAbsorbedIn schema all) (absorbed_both schema still news.regions) flags.0 all flags.1

  abbrev left : List Region
  left = flagged false flags.0 all

  left-true : (told : Told) → IsTold schema told → AreTrueOf told old → HaveArrived told arrivals → AreTrueOf told left
  left-true told is_told old_true rows = flagged_all (IsTrueOf told) false flags.0 all (renewal.are_true told is_told old_true rows)

  left-store : IsStore schema left
  left-store = record {
    each = flagged_all (IsOfSchema schema) false flags.0 all renewal.each;
    order = flagged_ascends false flags.0 all renewal.order;
    once = λ t a q point. let x = flagged_fewer false flags.0 all t a q in let y = renewal.once t a q point in omega (arith, x, y);
    keys = λ t a k.
        let x = flagged_fewer_keys false flags.0 all t a k in
        let y = regions-keys schema p.told p.is_told all renewal.each (renewal.are_true p.told p.is_told p.old_true p.rows) renewal.once t a k in
        omega (arith, x, y);
    few =
        let same = ap count_rects (flags.2 false) ∙ count_both (flagged false news.still_absorbed still) (flagged false news.absorbed news.regions) in
        subst (λ m. m ≤ 16384) (sym same) n.few;
  }

  left-settled : IsSettled schema left
  left-settled = settled_less schema left all left (λ t a q point. flagged_fewer false flags.0 all t a q) (flags_none (IsAbsorbedIn schema all) flags.0 all absorbed)

  -- what is put together is the answer
  pub put_answer : (answer : Answer) → answer.regions ≡ with_regions (flagged false news.still_absorbed still) (flagged false news.absorbed news.regions)
      → answer.marks ≡ map held_of arrivals ++ map (drop_of Absorbed) (with_regions (flagged true news.still_absorbed still) (flagged true news.absorbed news.regions))
      → IsAnswerOf schema number parts arrivals old answer
  put_answer answer regions_are marks_are =
      let is : answer.regions ≡ left = regions_are ∙ sym (flags.2 false) in
      record {
        renewed = record {
          all = all;
          each = renewal.each;
          order = renewal.order;
          keeps = renewal.keeps;
          flags = flags.0;
          absorbed = absorbed;
          left = is;
          marks_are = marks_are ∙ ap (λ gs. map held_of arrivals ++ map (drop_of Absorbed) gs) (sym (flags.2 true));
        };
        store = subst (IsStore schema) (sym is) left-store;
        settled = subst (IsSettled schema) (sym is) left-settled;
        true_still = λ told is_told old_true rows. subst (AreTrueOf told) (sym is) (left-true told is_told old_true rows);
        cuts = left_cut schema number parts arrivals old all p.each fit are renewal answer.regions flags.0 is;
      }

-- too many rects
pub news_heavy : (schema : List Table) (number : ℕ) (parts : List Part) (arrivals : List Arrival) (old still changed news : List Region) (fs es : List Bool) → list_all is_table schema ≡ true
    → All (FitsPart schema) parts → All (IsArrival schema parts) arrivals → AreParted schema number parts arrivals old still changed → IsRenewal schema number parts arrivals changed news
    → (count_rects (flagged false fs still) + count_rects (flagged false es news) ≤ 16384 → ⊥) → IsHeavy schema old parts arrivals
news_heavy schema number parts arrivals old still changed news fs es tables fit are p r many =
    heavy_many schema number parts arrivals old (with_regions still news) tables p.each fit are (together schema number parts arrivals old still changed p news r)
    (above (count_rects (with_regions still news)) (count_rects still) (count_rects news) (count_rects (flagged false fs still)) (count_rects (flagged false es news))
    (count_both still news) (flagged_few false fs still) (flagged_few false es news) many)
  where
    above : (c s n f e : ℕ) → c ≡ s + n → f ≤ s → e ≤ n → (f + e ≤ 16384 → ⊥) → 16384 < c
    above c s n f e is x y no_few = omega (arith, is, x, y, no_few)

-- the drops of the regions that stay and of the changed ones are those of all
pub drops_parted : (schema : List Table) (number : ℕ) (parts : List Part) (arrivals : List Arrival) (old still changed : List Region) → AreParted schema number parts arrivals old still changed
    → map (drop_of Pieces) (with_regions still (map without_rows changed)) ≡ map (drop_of Pieces) old
drops_parted schema number parts arrivals old still changed p =
    ap (λ gs. map (drop_of Pieces) (with_regions gs (map without_rows changed))) p.still_are
    ∙ ap (λ gs. map (drop_of Pieces) (with_regions (flagged false p.flags old) (map without_rows gs))) p.changed_are ∙ drops_sifted Pieces p.flags old p.order p.long
