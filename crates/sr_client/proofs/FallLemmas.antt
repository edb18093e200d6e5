-- Regions that are dropped one after another are the victims of the marks behind them.
use Rattle.std.proofs.Common.{◌≡◌, ℕ, zero, suc, ◌+◌, ◌<◌, ◌≤◌, List, [], ◌∷◌, ◌++◌, length, take, drop, map, refl, sym, ◌∙◌, ap, subst, arith, Some, append_assoc, append-nil, true, cond, false, Bool}
use Rattle.std.specs.Prelude.{slice_get, count_by, filter, ◌&&◌, ◌==◌}
use Rattle.std.specs.List.{All, AllZip, list_all}
use Rattle.std.proofs.lemmas.List.{length-map}
use Rattle.std.proofs.lemmas.Option.{slice_get_within, get_or_from_slice_get}
use Rattle.std.proofs.lemmas.List.Elements.{All-nil, All-head, All-cons, All-tail}
use Rattle.std.proofs.lemmas.List.Sums.{sum_by-cons}
use Rattle.std.proofs.lemmas.Bool.Decides.{nat_tests}
use Rattle.sr_box.specs.Points.{Rect, rect_fits, in_any, constrains_only}
use Rattle.sr_model.specs.Statements.{Tables}
use Rattle.sr_model.specs.Queries.{rows_at}
use Rattle.sr_query.specs.Bound.{is_table}
use Rattle.sr_cell.specs.declared.cause.Cause.TheVariants.{Regions}
use Rattle.sr_cell.specs.declared.table.Table.{Table}
use Rattle.sr_cell.specs.Columns.{table_at, is_point}
use Rattle.sr_cell.specs.declared.table.Column.{Column}
use Rattle.sr_cell.specs.Cells.{Row}
use Rattle.sr_cell.specs.Attrs.{project}
use Rattle.sr_policy.specs.declared.policy.Policy.{Policy}
use Rattle.sr_policy.specs.declared.policy.ClassView.{ClassView}
use Rattle.sr_policy.specs.declared.policy.Last.{Last}
use Rattle.sr_policy.specs.Order.{IsVictim}
use Rattle.sr_policy.specs.declared.policy.Limits.{Limits}
use Rattle.sr_history.specs.declared.mark.Mark.{Mark}
use Rattle.sr_history.specs.Classes.{Class, stamp, Numbered, in_class, AreClasses}
use Rattle.sr_history.specs.Budgets.{DropsForRegions, DropsForRows}
use Rattle.sr_history.specs.Victims.{AreLast, last_parts}
use Rattle.sr_history.specs.Marks.{is_held, with_marks, HoldsNothing}
use Rattle.sr_history.specs.Kept.{kept}
use Rattle.sr_history.specs.Drops.{IsDropOf}
use Rattle.sr_region.specs.declared.region.Region.{Region}
use Rattle.sr_region.specs.Applied.{AreTables}
use Rattle.sr_region.proofs.Parts.{is_in-point}
use Rattle.sr_region.specs.Regions.{is_in}
use Rattle.sr_store.specs.Past.{class_of}
use Rattle.sr_store.specs.Stores.{drop_of, IsStore, IsOfSchema}
use Rattle.sr_store.specs.Fitted.{without, IsViewOf, DropsWhile, count_rows}
use Rattle.sr_store.proofs.Dropping.{evicted_all}
use Rattle.sr_store.proofs.Views.{zip_none, zip_without, victim_within}
use Rattle.sr_store.specs.Told.{told_of, AreTrueOf, IsTrueOf}
use Rattle.sr_store.proofs.Classing.{have_classes, HasClass}
use Rattle.sr_store.specs.Classes.{Keeps}
use Rattle.sr_store.proofs.Meeting.{fitted_meets_budgets}
use Rattle.sr_explain.specs.declared.explanation.Victim.{Victim}
use Rattle.sr_explain.specs.Explained.{count_in, AreVictims}
use Rattle.sr_client.specs.Explaining.{victim_of, Fall}
use Rattle.sr_explain.specs.Explained as explain
use Rattle.sr_history.specs.Victims as history

-- ---- one after another

others-map : {X Y : Type 0} (f : X → Y) (n : ℕ) (xs : List X) → take n (map f xs) ++ drop (suc n) (map f xs) ≡ map f (take n xs ++ drop (suc n) xs)
others-map f zero [] = refl
others-map f (suc n) [] = refl
others-map f zero (x ∷ xs) = refl
others-map f (suc n) (x ∷ xs) = ap (λ ys. f x ∷ ys) (others-map f n xs)

without-map : {X Y : Type 0} (f : X → Y) (n : ℕ) (xs : List X) → take n (map f xs) ++ drop (n + 1) (map f xs) ≡ map f (take n xs ++ drop (n + 1) xs)
without-map f n xs = let e : suc n ≡ n + 1 = omega arith in subst (λ m. take n (map f xs) ++ drop m (map f xs) ≡ map f (take n xs ++ drop m xs)) e (others-map f n xs)

record IsMapped {X Y : Type 0} (f : X → Y) (xs : List X) (n : ℕ) (y : Y) : Type 0 where
  item : X
  there : slice_get xs n ≡ Some item
  is : y ≡ f item

get-map : {X Y : Type 0} (f : X → Y) (xs : List X) (n : ℕ) (y : Y) → slice_get (map f xs) n ≡ Some y → IsMapped f xs n y
get-map f [] n y e = absurd (cc)
get-map f (x ∷ xs) zero y e = record { item = x; there = refl; is = cc }
get-map f (x ∷ xs) (suc n) y e = let h = get-map f xs n y e in record { item = h.item; there = h.there; is = h.is }

-- What fell so far: whatever falls then stands behind it. The views and the entries are those of the regions that are left.
pub record FallsSoFar (schema : List Table) (policy : Policy) (last : List Last) (regions : List Region) (views : List ClassView) (left fallen : List Victim) : Type 0 where
  pub mid : List Region
  pub seen : AllZip (IsViewOf schema) mid views
  pub own : left ≡ map victim_of mid
  pub whole : (more : List Victim) → Fall schema policy last mid more → Fall schema policy last regions (fallen ++ more)

module _ (schema : List Table) (policy : Policy) (last : List Last) (regions : List Region) where
  pub none-fell : (views : List ClassView) (given : List Region) (left fallen : List Victim) → given ≡ regions → AllZip (IsViewOf schema) given views → left ≡ map victim_of given → fallen ≡ []
      → FallsSoFar schema policy last regions views left fallen
  none-fell views given left fallen same seen own none = record {
    mid = regions;
    seen = subst (λ gs. AllZip (IsViewOf schema) gs views) same seen;
    own = own ∙ ap (map victim_of) same;
    whole = λ more falls. subst (λ vs. Fall schema policy last regions (vs ++ more)) (sym none) falls;
  }

  pub left-within : (views others : List ClassView) (left fallen : List Victim) (n : ℕ) → FallsSoFar schema policy last regions views left fallen → others ≡ views → IsVictim policy last others n → n < length left
  left-within views others left fallen n h same v =
      let below = victim_within policy last views others n same v in
      let long = zip-long h.mid views h.seen in
      let own = ap length h.own ∙ length-map h.mid victim_of in
      omega (arith, below, long, own)
    where
      zip-long : (gs : List Region) (vs : List ClassView) → AllZip (IsViewOf schema) gs vs → length vs ≡ length gs
      zip-long [] [] h = refl
      zip-long [] (v ∷ vs) h = absurd h
      zip-long (g ∷ gs) [] h = absurd h
      zip-long (g ∷ gs) (v ∷ vs) h = ap suc (zip-long gs vs h.1)

  pub one-fell : (views others next : List ClassView) (left later fallen : List Victim) (n : ℕ) (v : Victim) → FallsSoFar schema policy last regions views left fallen
      → others ≡ views → IsVictim policy last others n → next ≡ take n views ++ drop (n + 1) views
      → slice_get left n ≡ Some v → later ≡ take n left ++ drop (n + 1) left
      → FallsSoFar schema policy last regions next later (fallen ++ v ∷ [])
  one-fell views others next left later fallen n v h same victim removed taken left_removed =
      let g = get-map victim_of h.mid n v (subst (λ vs. slice_get vs n ≡ Some v) h.own taken) in
      record {
        mid = without n h.mid;
        seen = subst (AllZip (IsViewOf schema) (without n h.mid)) (sym removed) (zip_without (IsViewOf schema) h.mid views n h.seen);
        own = left_removed ∙ (ap (λ vs. take n vs ++ drop (n + 1) vs) h.own ∙ without-map victim_of n h.mid);
        whole = λ more falls. subst (Fall schema policy last regions) (sym (append_assoc fallen (v ∷ []) more))
            (h.whole (v ∷ more) (n, g.item, record { there = g.there; views = views; seen = h.seen; victim = subst (λ vs. IsVictim policy last vs n) same victim }, g.is, falls));
      }

  pub all-fell : (views others : List ClassView) (left fallen : List Victim) → FallsSoFar schema policy last regions views left fallen → others ≡ views → others ≡ [] → Fall schema policy last regions fallen
  all-fell views others left fallen h same none =
      subst (Fall schema policy last regions) (append-nil fallen) (h.whole [] (zip_none (IsViewOf schema) h.mid views h.seen (sym same ∙ none)))

-- ---- how many

one-less : {X : Type 0} (n : ℕ) (xs : List X) → n < length xs → length xs ≡ suc (length (take n xs ++ drop (suc n) xs))
one-less n [] within = absurd (omega (arith, within))
one-less zero (x ∷ xs) within = refl
one-less (suc n) (x ∷ xs) within = ap suc (one-less n xs (omega (arith, within)))

-- one item less
pub one-fewer : {X : Type 0} (n : ℕ) (xs next : List X) → n < length xs → next ≡ take n xs ++ drop (n + 1) xs → length next < length xs
one-fewer n xs next within is =
    let e : suc n ≡ n + 1 = omega arith in
    let less : length xs ≡ suc (length (take n xs ++ drop (n + 1) xs)) = subst (λ m. length xs ≡ suc (length (take n xs ++ drop m xs))) e (one-less n xs within) in
    let same : length next ≡ length (take n xs ++ drop (n + 1) xs) = ap length is in
    omega (arith, less, same)

pub fall-length : (schema : List Table) (policy : Policy) (last : List Last) (regions : List Region) (victims : List Victim) → Fall schema policy last regions victims → length victims ≡ length regions
fall-length schema policy last regions [] none = sym (ap length none)
fall-length schema policy last regions (v ∷ victims) (n, g, first, is, fall) =
    let within = slice_get_within regions n g first.there in
    let e : suc n ≡ n + 1 = omega arith in
    let less : length regions ≡ suc (length (without n regions)) = subst (λ m. length regions ≡ suc (length (take n regions ++ drop m regions))) e (one-less n regions within) in
    let ih = fall-length schema policy last (without n regions) victims fall in
    ap suc ih ∙ sym less

-- ---- the rows of a region

count-rows : (columns : List Column) (a : ℕ) (rects : List Rect) (test : Row → Bool) (rows : List Row) → list_all (rect_fits columns) rects ≡ true → list_all (constrains_only a 0) rects ≡ true
    → ((p : Row) → is_point columns p ≡ true → in_any rects p ≡ test p) → list_all (is_point columns) rows ≡ true
    → length (filter (is_in a rects) (map (project a) rows)) ≡ count_by test rows
count-rows columns a rects test [] fits only same points = refl
count-rows columns a rects test (p ∷ rows) fits only same points =
    let point : is_point columns p ≡ true = grind arith in
    go (is_in a rects (project a p)) (is_in-point columns a rects p fits only point ∙ same p point) (count-rows columns a rects test rows fits only same (grind arith))
    ∙ sym (sum_by-cons (λ p. cond (test p) 1 0) p rows)
  where
    go : (b : Bool) → b ≡ test p → length (filter (is_in a rects) (map (project a) rows)) ≡ count_by test rows
        → length (cond b (project a p ∷ filter (is_in a rects) (map (project a) rows)) (filter (is_in a rects) (map (project a) rows))) ≡ cond (test p) 1 0 + count_by test rows
    go true e ih = let one : cond (test p) (suc zero) zero ≡ suc zero = ap (λ b. cond b (suc zero) zero) (sym e) in omega (arith, one, ih)
    go false e ih = let none : cond (test p) (suc zero) zero ≡ zero = ap (λ b. cond b (suc zero) zero) (sym e) in omega (arith, none, ih)

-- the size of the region is that of its class
abbrev IsSized : (Class → ℕ) → Region → Type 0
IsSized size g = length g.rows ≡ size (class_of g)

-- ---- victims of marks

one-sized : (schema : List Table) (tables : Tables) (marks : List Mark) (queries : List Numbered) (g : Region) → AreTables schema tables → IsOfSchema schema g → HasClass schema marks queries g
    → IsTrueOf (told_of tables) g → IsSized (count_in tables marks queries) g
one-sized schema tables marks queries g are of has tells =
    ap length tells
    ∙ count-rows (table_at schema g.table).columns g.attrs g.rects (in_class marks queries (class_of g)) (rows_at tables g.table) of.1.area.fit of.1.area.only has (are.points g.table)

all-sized : (schema : List Table) (tables : Tables) (marks : List Mark) (queries : List Numbered) (gs : List Region) → AreTables schema tables → All (IsOfSchema schema) gs → All (HasClass schema marks queries) gs
    → AreTrueOf (told_of tables) gs → All (IsSized (count_in tables marks queries)) gs
all-sized schema tables marks queries [] are of has tells = All-nil (IsSized (count_in tables marks queries))
all-sized schema tables marks queries (g ∷ gs) are of has tells =
    All-cons (IsSized (count_in tables marks queries)) g gs
    (one-sized schema tables marks queries g are (All-head (IsOfSchema schema) g gs of) (All-head (HasClass schema marks queries) g gs has) (All-head (IsTrueOf (told_of tables)) g gs tells))
    (all-sized schema tables marks queries gs are (All-tail (IsOfSchema schema) g gs of) (All-tail (HasClass schema marks queries) g gs has) (All-tail (IsTrueOf (told_of tables)) g gs tells))

-- the region that fell, and its drop
record FellAs (size : Class → ℕ) (v : Victim) (d : Mark) : Type 0 where
  region : Region
  victim : v ≡ victim_of region
  drop_is : d ≡ drop_of Regions region
  sized : IsSized size region

falls : (schema : List Table) (policy : Policy) (last : List Last) (size : Class → ℕ) (regions : List Region) (victims : List Victim) → All (IsSized size) regions → Fall schema policy last regions victims
    → (ds : List Mark) × DropsWhile schema policy last Regions length 0 regions [] ds × AllZip (FellAs size) victims ds
falls schema policy last size regions [] sized none = ([], (subst (λ gs. length gs ≤ 0) (sym none) (omega arith), sym none), tt)
falls schema policy last size regions (v ∷ victims) sized (n, g, first, is, fall) =
    let within = slice_get_within regions n g first.there in
    let own = subst (IsSized size) (get_or_from_slice_get regions n g g first.there) (sized n g within) in
    let rest = falls schema policy last size (without n regions) victims (evicted_all (IsSized size) n regions sized) fall in
    (drop_of Regions g ∷ rest.0, (omega (arith, within), n, g, first, refl, rest.1), (record { region = g; victim = is; drop_is = refl; sized = own }, rest.2))

-- without classes nothing is held
none-held : (schema : List Table) (marks : List Mark) (queries : List Numbered) → AreClasses schema marks queries [] → HoldsNothing schema marks
none-held schema marks queries are table attrs p point = go (is_held marks table attrs p) refl
  where
    go : (b : Bool) → is_held marks table attrs p ≡ b → b ≡ false
    go false e = refl
    go true e =
        let same : (stamp queries table attrs p == stamp queries table attrs p) ≡ true = grind (arith, nat_tests) in
        let inside : (is_held marks table attrs p && stamp queries table attrs p == stamp queries table attrs p) ≡ true = rw (e, same) refl in
        absurd (let none : false ≡ true = (are.each (record { table = table; attrs = attrs; stamp = stamp queries table attrs p })).1 (p, point, inside) in cc)

no-classes : (schema : List Table) (marks : List Mark) (queries : List Numbered) (classes : List Class) → AreClasses schema marks queries classes → length classes ≤ 0 → HoldsNothing schema marks
no-classes schema marks queries [] are few = none-held schema marks queries are
no-classes schema marks queries (k ∷ classes) are few = absurd (omega (arith, few))

abbrev class_from : ℕ → ℕ → ℕ → Class
class_from t a s = record { table = t; attrs = a; stamp = s }

dropped-class : (schema : List Table) (marks : List Mark) (queries : List Numbered) (k : Class) (g : Region) → IsDropOf schema marks queries Regions k (drop_of Regions g) → class_of g ≡ k
dropped-class schema marks queries k g (why, t, a, s, fits, same) = ap (λ t. class_from t g.attrs g.stamp) t ∙ (ap (λ a. class_from k.table a g.stamp) a ∙ ap (class_from k.table k.attrs) s)

to-victims : (schema : List Table) (limits : Limits) (size : Class → ℕ) (queries : List Numbered) (marks : List Mark) (victims : List Victim) (ds : List Mark) → limits.regions ≡ 0
    → DropsForRegions schema limits queries marks ds → AllZip (FellAs size) victims ds → AreVictims limits.policy schema size queries marks victims
to-victims schema limits size queries marks [] [] zero_is (classes, are, few) zip = no-classes schema marks queries classes are (omega (arith, few, zero_is))
to-victims schema limits size queries marks [] (d ∷ ds) zero_is h zip = absurd zip
to-victims schema limits size queries marks (v ∷ victims) [] zero_is h zip = absurd zip
to-victims schema limits size queries marks (v ∷ victims) (d ∷ ds) zero_is (classes, are, many, k, victim, is_drop, rest) (fell, zip) =
    let g = fell.region in
    let own : class_of g ≡ k = dropped-class schema marks queries k g (subst (IsDropOf schema marks queries Regions k) fell.drop_is is_drop) in
    let same : explain.class_of v ≡ class_of g = ap explain.class_of fell.victim in
    let back : k ≡ explain.class_of v = sym own ∙ sym same in (
      subst (history.IsVictim limits.policy schema marks queries) back victim,
      ap (λ (v : Victim). v.rows) fell.victim ∙ (fell.sized ∙ ap size (sym same)),
      d,
      subst (λ k. IsDropOf schema marks queries Regions k d) back is_drop,
      to-victims schema limits size queries (d ∷ marks) victims ds zero_is rest zip,
    )

-- limits that all regions exceed, and none by its rows
abbrev all_out : Tables → List Mark → Policy → List Region → Limits
all_out tables marks policy regions = record { rows = kept tables marks + count_rows regions; regions = 0; policy = policy }

pub are-victims : (schema : List Table) (tables : Tables) (policy : Policy) (marks : List Mark) (queries : List Numbered) (last : List Last) (regions : List Region) (victims : List Victim)
    → list_all is_table schema ≡ true → AreTables schema tables → IsStore schema regions → Keeps schema (is_held marks) (stamp queries) regions → AreTrueOf (told_of tables) regions
    → AreLast schema (last_parts queries) last → Fall schema policy last regions victims → AreVictims policy schema (count_in tables marks queries) queries marks victims
are-victims schema tables policy marks queries last regions victims sound are store keeps tells are_last fall =
    let has = have_classes schema marks queries regions store.order keeps in
    let fell = falls schema policy last (count_in tables marks queries) regions victims (all-sized schema tables marks queries regions are store.each has tells) fall in
    let met = fitted_meets_budgets schema tables (all_out tables marks policy regions) marks queries last regions [] fell.0 sound are store keeps tells are_last
    (record { mid = regions; rows = []; regions = fell.0; for_rows = (within, refl); for_regions = fell.1; all = refl }) in
    by fell.0 fell.2 met.0.rows met.0.regions met.0.for_rows met.0.for_regions met.0.all
  where
    within : count_rows regions ≤ kept tables marks + count_rows regions
    within = omega arith

    by : (ds : List Mark) → AllZip (FellAs (count_in tables marks queries)) victims ds → (rows others : List Mark) → DropsForRows schema (all_out tables marks policy regions) (kept tables) queries marks rows
        → DropsForRegions schema (all_out tables marks policy regions) queries (with_marks marks rows) others → ds ≡ rows ++ others → AreVictims policy schema (count_in tables marks queries) queries marks victims
    by ds zip [] others for_rows for_regions all =
        to-victims schema (all_out tables marks policy regions) (count_in tables marks queries) queries marks victims ds refl (subst (DropsForRegions schema (all_out tables marks policy regions) queries marks) (sym all) for_regions) zip
    by ds zip (d ∷ rows) others (above, k, victim, drop, more) for_regions all = absurd (omega (arith, above))
