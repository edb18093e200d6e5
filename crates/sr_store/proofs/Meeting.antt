-- What is dropped from regions so that they fit is what the budgets demand of the marks behind them.
use Rattle.std.proofs.Common.{◌≡◌, ℕ, ◌<◌, ◌≤◌, zero, suc, true, false, List, [], ◌∷◌, length, map, refl, sym, ap, subst, ◌∙◌, arith}
use Rattle.std.specs.Prelude.{Bool, ◌&&◌, ◌||◌, ◌==◌, Some, slice_get}
use Rattle.std.specs.List.{list_all, list_any, All, AllZip}
use Rattle.std.proofs.lemmas.Bool.Decides.{nat_tests}
use Rattle.std.proofs.lemmas.List.{length-map}
use Rattle.std.proofs.lemmas.List.Elements.{All-head, All-tail}
use Rattle.std.proofs.lemmas.Option.{slice_get_within, get_or_from_slice_get}
use Rattle.sr_cell.specs.declared.cause.Cause.{Cause}
use Rattle.sr_cell.specs.declared.cause.Cause.TheVariants.{Rows, Regions}
use Rattle.sr_cell.specs.declared.table.Table.{Table}
use Rattle.sr_cell.specs.Columns.{table_at}
use Rattle.sr_box.specs.Corners.{have_first}
use Rattle.sr_query.specs.Bound.{is_table}
use Rattle.sr_policy.specs.declared.policy.Limits.{Limits}
use Rattle.sr_policy.specs.declared.policy.ClassView.{ClassView}
use Rattle.sr_policy.specs.declared.policy.Last.{Last}
use Rattle.sr_policy.specs.Order.{goes_before}
use Rattle.sr_history.specs.declared.mark.Mark.{Mark}
use Rattle.sr_history.specs.Marks.{is_held, with_marks}
use Rattle.sr_history.specs.Classes.{Numbered, stamp, Class, same_class, AreClasses}
use Rattle.sr_history.specs.Drops.{IsDropOf}
use Rattle.sr_history.specs.Kept.{kept}
use Rattle.sr_history.specs.Victims.{AreLast, last_parts, IsSeen, IsVictim}
use Rattle.sr_history.specs.Budgets.{DropsForRows, DropsForRegions, MeetsBudgets}
use Rattle.sr_history.proofs.Marking.{with_marks-append}
use Rattle.sr_region.specs.declared.region.Region.{Region}
use Rattle.sr_store.specs.Classes.{occurs, Keeps}
use Rattle.sr_store.specs.Told.{Told, told_of, IsTrueOf, AreTrueOf}
use Rattle.sr_store.specs.Stores.{IsOfSchema, IsStore, drop_of}
use Rattle.sr_store.specs.Fitted.{count_rows, without, IsViewOf, IsFirstOut, DropsWhile, IsFitted}
use Rattle.sr_store.specs.Laws.{FittedMeetsBudgets}
use Rattle.sr_store.specs.Brought.{kept_told, FittedMeetsToldBudgets}
use Rattle.sr_store.specs.Past.{class_of}
use Rattle.sr_store.proofs.Tables.{tables_first}
use Rattle.sr_store.proofs.Dropping.{evicted_all, evicted_store, evicted_keeps}
use Rattle.sr_store.proofs.Covering.{held_less, keeps_same}
use Rattle.sr_store.proofs.Classing.{IsSolid, all_solid, are_classes, HasClass, have_classes}
use Rattle.sr_store.proofs.KeptRows.{kept_rows}
use Rattle.sr_store.proofs.KeptTold.{kept_told_rows}

all-at : (P : Region → Type 0) (gs : List Region) (n : ℕ) (g : Region) → slice_get gs n ≡ Some g → All P gs → P g
all-at P gs n g is h = subst P (get_or_from_slice_get gs n g g is) (h n g (slice_get_within gs n g is))

-- ---- a region's view is that of its class

abbrev class_from : ℕ → ℕ → ℕ → Class
class_from t a s = record { table = t; attrs = a; stamp = s }

same-class : (k : Class) (g : Region) → same_class k (class_of g) ≡ true → class_of g ≡ k
same-class k g e =
    let t : g.table ≡ k.table = grind (arith, nat_tests, e) in
    let a : g.attrs ≡ k.attrs = grind (arith, nat_tests, e) in
    let s : g.stamp ≡ k.stamp = grind (arith, nat_tests, e) in
    ap (λ t. class_from t g.attrs g.stamp) t ∙ ap (λ a. class_from k.table a g.stamp) a ∙ ap (class_from k.table k.attrs) s

one-seen : (schema : List Table) (marks : List Mark) (queries : List Numbered) (g : Region) (view : ClassView) → IsOfSchema schema g → HasClass schema marks queries g → IsViewOf schema g view
    → IsSeen schema marks queries (class_of g) view
one-seen schema marks queries g view of has v = record { table = v.table; attrs = v.attrs; stamp = v.stamp; centre = (g.rects, of.1.area.fit, has, v.centre) }

view-at : (schema : List Table) (gs : List Region) (views : List ClassView) (n : ℕ) (g : Region) (view : ClassView) → AllZip (IsViewOf schema) gs views → slice_get gs n ≡ Some g
    → slice_get views n ≡ Some view → IsViewOf schema g view
view-at schema [] views n g view zip is there = absurd (cc)
view-at schema (h ∷ gs) [] n g view zip is there = absurd zip
view-at schema (h ∷ gs) (v ∷ views) zero g view zip is there =
    let e : h ≡ g = cc in let f : v ≡ view = cc in subst (λ w. IsViewOf schema g w) f (subst (λ r. IsViewOf schema r v) e zip.0)
view-at schema (h ∷ gs) (v ∷ views) (suc n) g view zip is there = view-at schema gs views n g view zip.1 is there

-- each class of the regions has a view among these
class-seen : (schema : List Table) (marks : List Mark) (queries : List Numbered) (Q : ClassView → Type 0) (gs : List Region) (views : List ClassView) (k : Class) → All (IsOfSchema schema) gs
    → All (HasClass schema marks queries) gs → AllZip (IsViewOf schema) gs views → All Q views → list_any (same_class k) (map class_of gs) ≡ true
    → (view : ClassView) × IsSeen schema marks queries k view × Q view
class-seen schema marks queries Q [] views k each has zip all some = absurd (grind arith)
class-seen schema marks queries Q (g ∷ gs) [] k each has zip all some = absurd zip
class-seen schema marks queries Q (g ∷ gs) (v ∷ views) k each has zip all some =
    go (same_class k (class_of g)) refl some
    (class-seen schema marks queries Q gs views k (All-tail (IsOfSchema schema) g gs each) (All-tail (HasClass schema marks queries) g gs has) zip.1 (All-tail Q v views all))
  where
    go : (b : Bool) → same_class k (class_of g) ≡ b → (b || list_any (same_class k) (map class_of gs)) ≡ true
        → (list_any (same_class k) (map class_of gs) ≡ true → (view : ClassView) × IsSeen schema marks queries k view × Q view) → (view : ClassView) × IsSeen schema marks queries k view × Q view
    go true e o ih = (
      v,
      subst (λ c. IsSeen schema marks queries c v) (same-class k g e)
          (one-seen schema marks queries g v (All-head (IsOfSchema schema) g gs each) (All-head (HasClass schema marks queries) g gs has) zip.0),
      All-head Q v views all,
    )
    go false e o ih = ih o

-- ---- regions that are the classes of some marks, with the rows of a telling

record AreBehind (schema : List Table) (told : Told) (queries : List Numbered) (marks : List Mark) (gs : List Region) : Type 0 where
  store : IsStore schema gs
  keeps : Keeps schema (is_held marks) (stamp queries) gs
  rows : AreTrueOf told gs

-- so many rows are counted under the marks as such regions have
abbrev Counts : List Table → Told → List Numbered → (List Mark → ℕ) → Type 0
Counts schema told queries count = (marks : List Mark) (gs : List Region) → AreBehind schema told queries marks gs → All (IsSolid schema) gs → count marks ≡ count_rows gs

module _ (schema : List Table) (told : Told) (limits : Limits) (queries : List Numbered) (last : List Last)
    (sound : list_all is_table schema ≡ true) (are_last : AreLast schema (last_parts queries) last) (count : List Mark → ℕ) (counts : Counts schema told queries count) where
  first : (t : ℕ) → have_first (table_at schema t).columns ≡ true
  first t = tables_first schema t sound

  solid : (marks : List Mark) (gs : List Region) → AreBehind schema told queries marks gs → All (IsSolid schema) gs
  solid marks gs b = all_solid schema gs first b.store.each

  classes : (marks : List Mark) (gs : List Region) → AreBehind schema told queries marks gs → AreClasses schema marks queries (map class_of gs)
  classes marks gs b = are_classes schema marks queries gs first b.store.each b.store.order b.keeps

  own-class : (marks : List Mark) (gs : List Region) → AreBehind schema told queries marks gs → All (HasClass schema marks queries) gs
  own-class marks gs b = have_classes schema marks queries gs b.store.order b.keeps

  victim : (marks : List Mark) (gs : List Region) (n : ℕ) (g : Region) → AreBehind schema told queries marks gs → IsFirstOut schema limits.policy last gs n g
      → IsVictim limits.policy schema marks queries (class_of g)
  victim marks gs n g b f =
      let of = all-at (IsOfSchema schema) gs n g f.there b.store.each in
      let has = all-at (HasClass schema marks queries) gs n g f.there (own-class marks gs b) in
      let point = all-at (IsSolid schema) gs n g f.there (solid marks gs b) in
      record {
        last = last;
        are_last = are_last;
        view = f.victim.class;
        seen = one-seen schema marks queries g f.victim.class of has (view-at schema gs f.views n g f.victim.class f.seen f.there f.victim.there);
        some = (point.0, point.1, sym (has point.0 point.1) ∙ point.2);
        first = λ other is.
            class-seen schema marks queries (λ view. goes_before limits.policy last view f.victim.class ≡ false) gs f.views other b.store.each (own-class marks gs b) f.seen f.victim.first
            (((classes marks gs b).each other).1 is);
      }

  drop-is : (cause : Cause) (marks : List Mark) (gs : List Region) (n : ℕ) (g : Region) → AreBehind schema told queries marks gs → IsFirstOut schema limits.policy last gs n g
      → IsDropOf schema marks queries cause (class_of g) (drop_of cause g)
  drop-is cause marks gs n g b f =
      let of = all-at (IsOfSchema schema) gs n g f.there b.store.each in
      (refl, refl, refl, refl, of.1.area.fit, all-at (HasClass schema marks queries) gs n g f.there (own-class marks gs b))

  -- without the region, and with its drop
  one-less : (cause : Cause) (marks : List Mark) (gs : List Region) (n : ℕ) (g : Region) (d : Mark) → AreBehind schema told queries marks gs → slice_get gs n ≡ Some g → d ≡ drop_of cause g
      → AreBehind schema told queries (d ∷ marks) (without n gs)
  one-less cause marks gs n g d b there is = record {
    store = evicted_store schema n gs b.store;
    keeps = keeps_same schema (λ t a p. is_held marks t a p && occurs (g ∷ []) t a p == 0) (is_held (d ∷ marks)) (stamp queries) (stamp queries) (without n gs)
        (λ t a p point. sym (held_less cause marks (g ∷ []) t a p) ∙ ap (λ m. is_held (m ∷ marks) t a p) (sym is))
        (λ t a p point. refl)
        (evicted_keeps schema (is_held marks) (stamp queries) n gs g there b.keeps);
    rows = evicted_all (IsTrueOf told) n gs b.rows;
  }

  kept-is : (marks : List Mark) (gs : List Region) → AreBehind schema told queries marks gs → count marks ≡ count_rows gs
  kept-is marks gs b = counts marks gs b (solid marks gs b)

  for-rows : (marks : List Mark) (old mid : List Region) (drops : List Mark) → AreBehind schema told queries marks old
      → DropsWhile schema limits.policy last Rows count_rows limits.rows old mid drops
      → DropsForRows schema limits count queries marks drops × AreBehind schema told queries (with_marks marks drops) mid
  for-rows marks old mid [] b h = (subst (λ n. n ≤ limits.rows) (sym (kept-is marks old b)) h.0, subst (AreBehind schema told queries marks) (sym h.1) b)
  for-rows marks old mid (d ∷ drops) b (more, n, g, f, is, h) =
      let rest = for-rows (d ∷ marks) (without n old) mid drops (one-less Rows marks old n g d b f.there is) h in (
        (
          subst (λ n. limits.rows < n) (sym (kept-is marks old b)) more,
          class_of g,
          victim marks old n g b f,
          subst (IsDropOf schema marks queries Rows (class_of g)) (sym is) (drop-is Rows marks old n g b f),
          rest.0,
        ),
        rest.1,
      )

  for-regions : (marks : List Mark) (mid new : List Region) (drops : List Mark) → AreBehind schema told queries marks mid
      → DropsWhile schema limits.policy last Regions length limits.regions mid new drops
      → DropsForRegions schema limits queries marks drops × AreBehind schema told queries (with_marks marks drops) new
  for-regions marks mid new [] b h =
      ((map class_of mid, classes marks mid b, subst (λ n. n ≤ limits.regions) (sym (length-map mid class_of)) h.0), subst (AreBehind schema told queries marks) (sym h.1) b)
  for-regions marks mid new (d ∷ drops) b (more, n, g, f, is, h) =
      let rest = for-regions (d ∷ marks) (without n mid) new drops (one-less Regions marks mid n g d b f.there is) h in (
        (
          map class_of mid,
          classes marks mid b,
          subst (λ n. limits.regions < n) (sym (length-map mid class_of)) more,
          class_of g,
          victim marks mid n g b f,
          subst (IsDropOf schema marks queries Regions (class_of g)) (sym is) (drop-is Regions marks mid n g b f),
          rest.0,
        ),
        rest.1,
      )

  fitted-meets : (marks : List Mark) (old new : List Region) (drops : List Mark) → AreBehind schema told queries marks old → IsFitted schema limits last old new drops
      → MeetsBudgets schema limits count queries marks drops × Keeps schema (is_held (with_marks marks drops)) (stamp queries) new
  fitted-meets marks old new drops b h =
      let one = for-rows marks old h.mid h.rows b h.for_rows in
      let two = for-regions (with_marks marks h.rows) h.mid new h.regions one.1 h.for_regions in (
        record { rows = h.rows; regions = h.regions; for_rows = one.0; for_regions = two.0; all = h.all },
        subst (λ ms. Keeps schema (is_held ms) (stamp queries) new) (sym (with_marks-append marks h.rows h.regions) ∙ ap (with_marks marks) (sym h.all)) two.1.keeps,
      )

pub fitted_meets_budgets : FittedMeetsBudgets
fitted_meets_budgets schema tables limits marks queries last old new drops sound are_tables store keeps rows are_last h =
    fitted-meets schema (told_of tables) limits queries last sound are_last (kept tables)
    (λ ms gs b solid. kept_rows schema tables ms (stamp queries) gs are_tables b.store.each solid b.keeps b.rows) marks old new drops (record { store = store; keeps = keeps; rows = rows }) h

pub fitted_meets_told_budgets : FittedMeetsToldBudgets
fitted_meets_told_budgets schema told limits marks queries last old new drops sound is_told store keeps rows are_last h =
    (fitted-meets schema told limits queries last sound are_last (kept_told schema told)
    (λ ms gs b solid. kept_told_rows schema told ms (stamp queries) gs (λ t. tables_first schema t sound) is_told b.store.each solid b.keeps b.rows) marks old new drops (record { store = store; keeps = keeps; rows = rows }) h).0
