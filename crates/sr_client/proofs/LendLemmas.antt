-- Rows that are lent of the parts of a query.
use Rattle.std.proofs.Common.{◌≡◌, ℕ, zero, suc, ◌+◌, ◌<◌, ◌≤◌, true, false, List, [], ◌∷◌, ◌++◌, length, get_or, refl, ap, subst, ◌∙◌, sym, arith, Some}
use Rattle.std.specs.Prelude.{Bool, ◌&&◌, ◌||◌, ◌==◌, nat_lt, filter, map, slice_get, if◌then◌else◌}
use Rattle.std.specs.List.{list_all, list_any, All, AllZip}
use Rattle.std.proofs.lemmas.Bool.Decides.{nat_tests}
use Rattle.std.proofs.lemmas.List.{map-append}
use Rattle.std.proofs.lemmas.List.Elements.{All-nil, All-cons, All-head, All-tail}
use Rattle.std.proofs.lemmas.List.Folds.{list_any-append}
use Rattle.std.specs.Cmp.{first_so, second_so}
use Rattle.std.proofs.lemmas.Bool.{eqb-true}
use Rattle.std.proofs.Math.Bool.{or-false}
use Rattle.sr_cell.specs.declared.table.Table.{Table}
use Rattle.sr_cell.specs.Attrs.{includes, project}
use Rattle.sr_cell.specs.Cells.{Row}
use Rattle.sr_cell.specs.Columns.{table_at, is_point}
use Rattle.sr_cell.proofs.Lists.{AllZip-push}
use Rattle.sr_box.specs.Points.{Rect, in_any, rect_fits, constrains_only}
use Rattle.sr_box.proofs.Constrained.{all-constrains_only-more}
use Rattle.sr_model.specs.Statements.{Tables}
use Rattle.sr_model.specs.Queries as model
use Rattle.sr_model.specs.Queries.{rows_at, points_of}
use Rattle.sr_query.specs.Bound.{IsPart}
use Rattle.sr_query.specs.declared.query.Part.{Part}
use Rattle.sr_query.specs.declared.query.Query.{Query}
use Rattle.sr_region.specs.declared.region.Region.{Region}
use Rattle.sr_region.specs.Coming.{Coming}
use Rattle.sr_region.specs.Regions.{is_in}
use Rattle.sr_store.specs.declared.store.Arrival.{Arrival}
use Rattle.sr_store.specs.Told.{told_of, IsTrueOf}
use Rattle.sr_store.specs.Stores.{serves, cover_of, IsOfSchema}
use Rattle.sr_join.specs.declared.runs.Run.{Run}
use Rattle.sr_join.specs.Lent.{shown_of, rows_for, AreLent, LendFrom, IsJoinable}
use Rattle.sr_join.specs.Shown.{Shown, Shows, AreShown}
use Rattle.sr_client.specs.Answering.{is_kept, is_new, IsPartOver, BringRows, Suits, LendsMore, IsThere}
use Rattle.sr_client.proofs.ToldLemmas.{told-both}
use Rattle.sr_client.proofs.Covers.{cover-more}

abbrev Test : Type 0
Test = Row → Bool

-- ---- tests that tell the same

each-same : (f g : Test) → ((p : Row) → f p ≡ g p) → (all : List Row) → All (λ p. f p ≡ g p) all
each-same f g same [] = All-nil (λ p. f p ≡ g p)
each-same f g same (p ∷ all) = All-cons (λ p. f p ≡ g p) p all (same p) (each-same f g same all)

-- of points
points-same : (columns : Row → Bool) (f g : Test) (all : List Row) → list_all columns all ≡ true → ((p : Row) → columns p ≡ true → f p ≡ g p) → All (λ p. f p ≡ g p) all
points-same columns f g [] points same = All-nil (λ p. f p ≡ g p)
points-same columns f g (p ∷ all) points same =
    All-cons (λ p. f p ≡ g p) p all (same p (first_so (columns p) (list_all columns all) points)) (points-same columns f g all (second_so (columns p) (list_all columns all) points) same)

then-same : (f g h : Test) (all : List Row) → All (λ p. f p ≡ g p) all → All (λ p. g p ≡ h p) all → All (λ p. f p ≡ h p) all
then-same f g h [] one two = All-nil (λ p. f p ≡ h p)
then-same f g h (p ∷ all) one two =
    All-cons (λ p. f p ≡ h p) p all (All-head (λ p. f p ≡ g p) p all one ∙ All-head (λ p. g p ≡ h p) p all two)
    (then-same f g h all (All-tail (λ p. f p ≡ g p) p all one) (All-tail (λ p. g p ≡ h p) p all two))

or-same : (f g h k : Test) (all : List Row) → All (λ p. f p ≡ g p) all → ((p : Row) → h p ≡ (f p || k p)) → All (λ p. h p ≡ (g p || k p)) all
or-same f g h k [] one two = All-nil (λ p. h p ≡ (g p || k p))
or-same f g h k (p ∷ all) one two =
    All-cons (λ p. h p ≡ (g p || k p)) p all (two p ∙ ap (λ b. b || k p) (All-head (λ p. f p ≡ g p) p all one)) (or-same f g h k all (All-tail (λ p. f p ≡ g p) p all one) two)

lent-same : (need : ℕ) (all : List Row) (f g : Test) (lists : List (List Shown)) → All (λ p. f p ≡ g p) all → AreLent need all f lists → AreLent need all g lists
lent-same need all f g lists same lent = record { tests = lent.tests; each = lent.each; just = then-same (λ p. list_any (λ t. t p) lent.tests) f g all lent.just same }

-- ---- one list more

none-shown : (need : ℕ) (all : List Row) → AreShown need all (λ p. false) []
none-shown need [] = tt
none-shown need (p ∷ all) = none-shown need all

lent-more : (need : ℕ) (all : List Row) (test g : Test) (lists : List (List Shown)) (shown : List Shown) → AreLent need all test lists → AreShown need all g shown
    → AreLent need all (λ p. test p || g p) (lists ++ shown ∷ [])
lent-more need all test g lists shown lent own = record {
  tests = lent.tests ++ g ∷ [];
  each = AllZip-push (λ t shown. AreShown need all t shown) lent.tests lists g shown lent.each own;
  just = or-same (λ p. list_any (λ t. t p) lent.tests) test (λ p. list_any (λ t. t p) (lent.tests ++ g ∷ [])) g all lent.just
      (λ p. list_any-append (λ (t : Test). t p) lent.tests (g ∷ []) ∙ ap (λ b. list_any (λ t. t p) lent.tests || b) (alone (g p)));
}
  where
    alone : (b : Bool) → (b || false) ≡ b
    alone true = refl
    alone false = refl

-- rows that are of these columns are shown
shown-are : (need attrs : ℕ) (ps : List Row) → includes attrs need ≡ true → AllZip (Shows need) ps (map (λ cells. record { attrs = attrs; cells = cells }) (map (project attrs) ps))
shown-are need attrs [] inc = tt
shown-are need attrs (p ∷ ps) inc = (record { columns = inc; cells = refl }, shown-are need attrs ps inc)

-- ---- one run after another

-- the same rows more
pub lends-same : (number need : ℕ) (all : List Row) (f g : Test) (old new : List Run) → ((p : Row) → f p ≡ g p) → LendsMore number need all f old new → LendsMore number need all g old new
lends-same number need all f g old new same lends = record {
  own = λ test lent. lent-same need all (λ p. test p || f p) (λ p. test p || g p) (map (rows_for number) new)
      (each-same (λ p. test p || f p) (λ p. test p || g p) (λ p. ap (λ b. test p || b) (same p)) all) (lends.own test lent);
  others = lends.others;
}

-- nothing more
lends-nothing : (number need : ℕ) (all : List Row) (more : Test) (runs : List Run) → ((p : Row) → more p ≡ false) → LendsMore number need all more runs runs
lends-nothing number need all more runs none = record {
  own = λ test lent. lent-same need all test (λ p. test p || more p) (map (rows_for number) runs)
      (each-same test (λ p. test p || more p) (λ p. sym (ap (λ b. test p || b) (none p) ∙ or-false (test p))) all) lent;
  others = λ i also rows test other lent. lent;
}

and-false : (b : Bool) → (b && false) ≡ false
and-false true = refl
and-false false = refl

-- nothing is kept in no regions, and nothing arrives with no arrivals
pub lends-no_region : (number : ℕ) (part : Part) (all : List Row) (runs : List Run) → LendsMore number part.need all (is_kept part []) runs runs
lends-no_region number part all runs = lends-nothing number part.need all (is_kept part []) runs (λ p. and-false (in_any part.rects p))

pub lends-no_arrival : (number : ℕ) (part : Part) (all : List Row) (runs : List Run) → LendsMore number part.need all (is_new part []) runs runs
lends-no_arrival number part all runs = lends-nothing number part.need all (is_new part []) runs (λ p. and-false (in_any part.rects p))

-- a run more
lends-run : (number need : ℕ) (all : List Row) (f g h : Test) (first old : List Run) (shown : List Shown) → AreShown need all g shown → ((p : Row) → (f p || g p) ≡ h p) → LendsMore number need all f first old
    → LendsMore number need all h first (old ++ record { part = number; rows = shown } ∷ [])
lends-run number need all f g h first old shown are same lends = record {
  own = λ test lent.
      subst (AreLent need all (λ p. test p || h p)) (sym (runs-own old))
      (lent-same need all (λ p. (test p || f p) || g p) (λ p. test p || h p) (map (rows_for number) old ++ shown ∷ [])
      (each-same (λ p. (test p || f p) || g p) (λ p. test p || h p) (λ p. nested (test p) (f p) (g p) ∙ ap (λ b. test p || b) (same p)) all)
      (lent-more need all (λ p. test p || f p) g (map (rows_for number) old) shown (lends.own test lent) are));
  others = λ i also rows test other lent.
      subst (AreLent also rows test) (sym (runs-other old i other))
      (lent-same also rows (λ p. test p || false) test (map (rows_for i) old ++ [] ∷ []) (each-same (λ p. test p || false) test (λ p. or-false (test p)) rows)
      (lent-more also rows test (λ p. false) (map (rows_for i) old) [] (lends.others i also rows test other lent) (none-shown also rows)));
}
  where
    nested : (a b c : Bool) → ((a || b) || c) ≡ (a || (b || c))
    nested true b c = refl
    nested false b c = refl

    runs-own : (old : List Run) → map (rows_for number) (old ++ record { part = number; rows = shown } ∷ []) ≡ map (rows_for number) old ++ shown ∷ []
    runs-own old =
        let same : (number == number) ≡ true = grind (arith, nat_tests) in
        map-append (rows_for number) old (record { part = number; rows = shown } ∷ []) ∙ ap (λ b. map (rows_for number) old ++ (if b then shown else []) ∷ []) same

    runs-other : (old : List Run) (i : ℕ) → (i ≡ number → ⊥) → map (rows_for i) (old ++ record { part = number; rows = shown } ∷ []) ≡ map (rows_for i) old ++ [] ∷ []
    runs-other old i other =
        let apart : (number == i) ≡ false = grind (arith, nat_tests, other) in
        map-append (rows_for i) old (record { part = number; rows = shown } ∷ []) ∙ ap (λ b. map (rows_for i) old ++ (if b then shown else []) ∷ []) apart

-- ---- rows in some rects of the part's table, as far as they lie in the part

rows-both : (schema : List Table) (tables : Tables) (part : Part) (attrs : ℕ) (rects : List Rect) → IsPartOver schema tables part → includes attrs part.need ≡ true
    → list_all (rect_fits (table_at schema part.table).columns) rects ≡ true → list_all (constrains_only attrs 0) rects ≡ true
    → filter (is_in attrs part.rects) (filter (is_in attrs rects) (told_of tables part.table attrs)) ≡ map (project attrs) (filter (λ p. in_any rects p && in_any part.rects p) (rows_at tables part.table))
rows-both schema tables part attrs rects o inc fit only =
    told-both (table_at schema part.table).columns attrs rects part.rects (rows_at tables part.table) fit only o.fit (all-constrains_only-more attrs part.need part.rects inc o.only) o.points

both-shown : (schema : List Table) (tables : Tables) (part : Part) (coming : Coming) (rects : List Rect) (rows : List Row) → IsPartOver schema tables part → includes coming.attrs part.need ≡ true
    → list_all (rect_fits (table_at schema part.table).columns) rects ≡ true → list_all (constrains_only coming.attrs 0) rects ≡ true
    → rows ≡ filter (is_in coming.attrs rects) (told_of tables part.table coming.attrs) → coming.rows ≡ filter (is_in coming.attrs part.rects) rows
    → AreShown part.need (rows_at tables part.table) (λ p. in_any rects p && in_any part.rects p) (shown_of coming)
both-shown schema tables part coming rects rows o inc fit only rows_are come =
    let all = come ∙ (ap (filter (is_in coming.attrs part.rects)) rows_are ∙ rows-both schema tables part coming.attrs rects o inc fit only) in
    subst (λ rows. AllZip (Shows part.need) (filter (λ p. in_any rects p && in_any part.rects p) (rows_at tables part.table)) (map (λ cells. record { attrs = coming.attrs; cells = cells }) rows)) (sym all)
    (shown-are part.need coming.attrs (filter (λ p. in_any rects p && in_any part.rects p) (rows_at tables part.table)) inc)

-- ---- regions

-- the rows of a region that serves the part
pub lent-region : (schema : List Table) (tables : Tables) (number : ℕ) (part : Part) (gs : List Region) (region : Region) (coming : Coming) (first old : List Run) → IsPartOver schema tables part
    → IsOfSchema schema region → IsTrueOf (told_of tables) region → serves part region ≡ true → coming.attrs ≡ region.attrs → coming.rows ≡ filter (is_in region.attrs part.rects) region.rows
    → LendsMore number part.need (rows_at tables part.table) (is_kept part gs) first old
    → LendsMore number part.need (rows_at tables part.table) (is_kept part (gs ++ region ∷ [])) first (old ++ record { part = number; rows = shown_of coming } ∷ [])
lent-region schema tables number part gs region coming first old o each is_true serve attrs come lends =
    let table : region.table ≡ part.table = eqb-true region.table part.table (first_so (region.table == part.table) (includes region.attrs part.need) serve) in
    let inc = second_so (region.table == part.table) (includes region.attrs part.need) serve in
    let fit = subst (λ t. list_all (rect_fits (table_at schema t).columns) region.rects ≡ true) table each.1.area.fit in
    let rows : region.rows ≡ filter (is_in region.attrs region.rects) (told_of tables part.table region.attrs) =
    subst (λ t. region.rows ≡ filter (is_in region.attrs region.rects) (told_of tables t region.attrs)) table is_true in
    let are = both-shown schema tables part coming region.rects region.rows o (subst (λ a. includes a part.need ≡ true) (sym attrs) inc) fit
    (subst (λ a. list_all (constrains_only a 0) region.rects ≡ true) (sym attrs) each.1.area.only)
    (subst (λ a. region.rows ≡ filter (is_in a region.rects) (told_of tables part.table a)) (sym attrs) rows)
    (subst (λ a. coming.rows ≡ filter (is_in a part.rects) region.rows) (sym attrs) come) in
    lends-run number part.need (rows_at tables part.table) (is_kept part gs) (λ p. in_any region.rects p && in_any part.rects p) (is_kept part (gs ++ region ∷ [])) first old (shown_of coming) are
    (λ p. rw (cover-more part gs region p, serve) (by (in_any part.rects p) (in_any (cover_of part gs) p) (in_any region.rects p))) lends
  where
    by : (i c r : Bool) → ((i && c) || (r && i)) ≡ (i && (c || r))
    by i c r = grind arith

-- a region that does not serve the part has nothing for it
pub passed-region : (schema : List Table) (tables : Tables) (number : ℕ) (part : Part) (gs : List Region) (region : Region) (first old : List Run) → serves part region ≡ false
    → LendsMore number part.need (rows_at tables part.table) (is_kept part gs) first old → LendsMore number part.need (rows_at tables part.table) (is_kept part (gs ++ region ∷ [])) first old
passed-region schema tables number part gs region first old serve lends =
    lends-same number part.need (rows_at tables part.table) (is_kept part gs) (is_kept part (gs ++ region ∷ [])) first old
    (λ p. rw (cover-more part gs region p, serve) (by (in_any part.rects p) (in_any (cover_of part gs) p))) lends
  where
    by : (i c : Bool) → (i && c) ≡ (i && (c || false))
    by i c = grind arith

-- a region whose points are away from the part's has nothing for it
pub apart-region : (schema : List Table) (tables : Tables) (number : ℕ) (part : Part) (gs : List Region) (region : Region) (first old : List Run) → serves part region ≡ true
    → ((p : Row) → (in_any region.rects p && in_any part.rects p) ≡ false)
    → LendsMore number part.need (rows_at tables part.table) (is_kept part gs) first old → LendsMore number part.need (rows_at tables part.table) (is_kept part (gs ++ region ∷ [])) first old
apart-region schema tables number part gs region first old serve apart lends =
    lends-same number part.need (rows_at tables part.table) (is_kept part gs) (is_kept part (gs ++ region ∷ [])) first old
    (λ p. rw (cover-more part gs region p, serve) (by (in_any part.rects p) (in_any (cover_of part gs) p) (in_any region.rects p) (apart p))) lends
  where
    by : (i c r : Bool) → (r && i) ≡ false → (i && c) ≡ (i && (c || r))
    by i c r apart = grind (arith, apart)

-- ---- arrivals

new-more : (part : Part) (rs : List Arrival) (r : Arrival) (p : Row)
    → list_any (λ (r : Arrival). r.table == part.table && in_any r.rects p) (rs ++ r ∷ []) ≡ (list_any (λ (r : Arrival). r.table == part.table && in_any r.rects p) rs || (r.table == part.table && in_any r.rects p))
new-more part rs r p =
    list_any-append (λ (r : Arrival). r.table == part.table && in_any r.rects p) rs (r ∷ [])
    ∙ ap (λ b. list_any (λ (r : Arrival). r.table == part.table && in_any r.rects p) rs || b) (or-false (r.table == part.table && in_any r.rects p))

-- the rows that arrive of the part's table
pub lent-arrival : (schema : List Table) (tables : Tables) (number : ℕ) (part : Part) (rs : List Arrival) (r : Arrival) (coming : Coming) (first old : List Run) → IsPartOver schema tables part
    → Suits schema part r → r.rows ≡ filter (is_in r.attrs r.rects) (told_of tables r.table r.attrs) → (r.table == part.table) ≡ true → coming.attrs ≡ r.attrs
    → coming.rows ≡ filter (is_in r.attrs part.rects) r.rows → LendsMore number part.need (rows_at tables part.table) (is_new part rs) first old
    → LendsMore number part.need (rows_at tables part.table) (is_new part (rs ++ r ∷ [])) first (old ++ record { part = number; rows = shown_of coming } ∷ [])
lent-arrival schema tables number part rs r coming first old o suits is_true own attrs come lends =
    let table : r.table ≡ part.table = eqb-true r.table part.table own in
    let inc = suits.need table in
    let fit = subst (λ t. list_all (rect_fits (table_at schema t).columns) r.rects ≡ true) table suits.fit in
    let rows : r.rows ≡ filter (is_in r.attrs r.rects) (told_of tables part.table r.attrs) = subst (λ t. r.rows ≡ filter (is_in r.attrs r.rects) (told_of tables t r.attrs)) table is_true in
    let are = both-shown schema tables part coming r.rects r.rows o (subst (λ a. includes a part.need ≡ true) (sym attrs) inc) fit
    (subst (λ a. list_all (constrains_only a 0) r.rects ≡ true) (sym attrs) suits.only)
    (subst (λ a. r.rows ≡ filter (is_in a r.rects) (told_of tables part.table a)) (sym attrs) rows)
    (subst (λ a. coming.rows ≡ filter (is_in a part.rects) r.rows) (sym attrs) come) in
    lends-run number part.need (rows_at tables part.table) (is_new part rs) (λ p. in_any r.rects p && in_any part.rects p) (is_new part (rs ++ r ∷ [])) first old (shown_of coming) are
    (λ p. rw (new-more part rs r p, own) (by (in_any part.rects p) (list_any (λ (r : Arrival). r.table == part.table && in_any r.rects p) rs) (in_any r.rects p))) lends
  where
    by : (i c r : Bool) → ((i && c) || (r && i)) ≡ (i && (c || r))
    by i c r = grind arith

-- rows of another table are not lent
pub passed-arrival : (schema : List Table) (tables : Tables) (number : ℕ) (part : Part) (rs : List Arrival) (r : Arrival) (first old : List Run) → (r.table == part.table) ≡ false
    → LendsMore number part.need (rows_at tables part.table) (is_new part rs) first old → LendsMore number part.need (rows_at tables part.table) (is_new part (rs ++ r ∷ [])) first old
passed-arrival schema tables number part rs r first old other lends =
    lends-same number part.need (rows_at tables part.table) (is_new part rs) (is_new part (rs ++ r ∷ [])) first old
    (λ p. rw (new-more part rs r p, other) (by (in_any part.rects p) (list_any (λ (r : Arrival). r.table == part.table && in_any r.rects p) rs))) lends
  where
    by : (i c : Bool) → (i && c) ≡ (i && (c || false))
    by i c = grind arith

-- ---- part after part

-- Of the parts before number i all rows are lent that they ask, and of the others none.
abbrev pub LentUpto : Tables → List model.Part → ℕ → List Run → Type 0
LentUpto tables meant i runs =
    (k : ℕ) (m : model.Part) → slice_get meant k ≡ Some m → AreLent m.need (rows_at tables m.table) (λ p. nat_lt k i && points_of m p) (map (rows_for k) runs)

-- the items of two lists at one place
zip-at : {A B : Type 0} (R : A → B → Type 0) (xs : List A) (ys : List B) (k : ℕ) (x : A) (y : B) → AllZip R xs ys → x ≡ get_or xs k x → slice_get ys k ≡ Some y → R x y
zip-at R [] [] k x y zip is at = absurd (cc)
zip-at R [] (b ∷ ys) k x y zip is at = absurd zip
zip-at R (a ∷ xs) [] k x y zip is at = absurd zip
zip-at R (a ∷ xs) (b ∷ ys) zero x y zip is at = let same : b ≡ y = cc in subst (λ y. R x y) same (subst (λ x. R x b) (sym is) zip.0)
zip-at R (a ∷ xs) (b ∷ ys) (suc k) x y zip is at = zip-at R xs ys k x y zip.1 is at

-- each item of the first has one of the second
zip-some : {A B : Type 0} (R : A → B → Type 0) (xs : List A) (ys : List B) (k : ℕ) (x : A) → AllZip R xs ys → k < length xs → x ≡ get_or xs k x → (y : B) × R x y
zip-some R [] ys k x zip within is = absurd (omega (arith, within))
zip-some R (a ∷ xs) [] k x zip within is = absurd zip
zip-some R (a ∷ xs) (b ∷ ys) zero x zip within is = (b, subst (λ x. R x b) (sym is) zip.0)
zip-some R (a ∷ xs) (b ∷ ys) (suc k) x zip within is = zip-some R xs ys k x zip.1 (omega (arith, within)) is

next-same : (k i : ℕ) → (k == i) ≡ false → nat_lt k i ≡ nat_lt k (i + 1)
next-same k i differ = go (nat_lt k i) refl
  where
    go : (b : Bool) → nat_lt k i ≡ b → b ≡ nat_lt k (i + 1)
    go true less = sym (grind (arith, nat_tests, less))
    go false less = sym (grind (arith, nat_tests, less, differ))

module _ (schema : List Table) (tables : Tables) (query : Query) (meaning : model.Query) (regions : List Region) (arrivals : List Arrival) (i : ℕ) (part : Part) (old mid new : List Run)
    (joins : IsJoinable schema tables query meaning) (there : AllZip (IsThere schema tables regions arrivals) query.parts meaning.parts) (within : i < length query.parts) (is : part ≡ get_or query.parts i part)
    (kept : IsPartOver schema tables part → LendsMore i part.need (rows_at tables part.table) (is_kept part regions) old mid)
    (news : IsPartOver schema tables part → BringRows schema tables part arrivals → LendsMore i part.need (rows_at tables part.table) (is_new part arrivals) mid new) where
  some : (m : model.Part) × IsThere schema tables regions arrivals part m
  some = zip-some (IsThere schema tables regions arrivals) query.parts meaning.parts i part there within is

  -- its own rows
  own-more : (test : Row → Bool) → AreLent part.need (rows_at tables part.table) test (map (rows_for i) old)
      → AreLent part.need (rows_at tables part.table) (λ p. (test p || is_kept part regions p) || is_new part arrivals p) (map (rows_for i) new)
  own-more test lent = (news some.1.over some.1.brings).own (λ p. test p || is_kept part regions p) ((kept some.1.over).own test lent)

  -- and none of another part
  others-still : (k also : ℕ) (rows : List Row) (test : Row → Bool) → (k ≡ i → ⊥) → AreLent also rows test (map (rows_for k) old) → AreLent also rows test (map (rows_for k) new)
  others-still k also rows test other lent = (news some.1.over some.1.brings).others k also rows test other ((kept some.1.over).others k also rows test other lent)

  lent-here : (m : model.Part) → slice_get meaning.parts i ≡ Some m → AreLent m.need (rows_at tables m.table) (λ p. nat_lt i i && points_of m p) (map (rows_for i) old)
      → AreLent m.need (rows_at tables m.table) (λ p. nat_lt i (i + 1) && points_of m p) (map (rows_for i) new)
  lent-here m at before =
      subst (λ n. AreLent n (rows_at tables m.table) (λ p. nat_lt i (i + 1) && points_of m p) (map (rows_for i) new)) means.need
      (subst (λ t. AreLent part.need (rows_at tables t) (λ p. nat_lt i (i + 1) && points_of m p) (map (rows_for i) new)) means.table
      (lent-same part.need (rows_at tables part.table) (λ p. ((nat_lt i i && points_of m p) || is_kept part regions p) || is_new part arrivals p) (λ p. nat_lt i (i + 1) && points_of m p) (map (rows_for i) new)
      (points-same (is_point (table_at schema part.table).columns) (λ p. ((nat_lt i i && points_of m p) || is_kept part regions p) || is_new part arrivals p) (λ p. nat_lt i (i + 1) && points_of m p)
      (rows_at tables part.table) this.over.points same-test)
      (own-more (λ p. nat_lt i i && points_of m p)
      (subst (λ n. AreLent n (rows_at tables part.table) (λ p. nat_lt i i && points_of m p) (map (rows_for i) old)) (sym means.need)
      (subst (λ t. AreLent m.need (rows_at tables t) (λ p. nat_lt i i && points_of m p) (map (rows_for i) old)) (sym means.table) before)))))
    where
      this : IsThere schema tables regions arrivals part m
      this = zip-at (IsThere schema tables regions arrivals) query.parts meaning.parts i part m there is at

      means : IsPart schema part m
      means = zip-at (IsPart schema) query.parts meaning.parts i part m joins.means.parts is at

      none : nat_lt i i ≡ false
      none = grind (arith, nat_tests)

      all : nat_lt i (i + 1) ≡ true
      all = grind (arith, nat_tests)

      same-test : (p : Row) → is_point (table_at schema part.table).columns p ≡ true → (((nat_lt i i && points_of m p) || is_kept part regions p) || is_new part arrivals p) ≡ (nat_lt i (i + 1) && points_of m p)
      same-test p point =
          ap (λ b. ((b && points_of m p) || is_kept part regions p) || is_new part arrivals p) none ∙ (this.points p point ∙ ap (λ b. b && points_of m p) (sym all))

  -- one part more
  pub lent-part : LentUpto tables meaning.parts i old → LentUpto tables meaning.parts (i + 1) new
  lent-part lent k m at = go (k == i) refl
    where
      go : (b : Bool) → (k == i) ≡ b → AreLent m.need (rows_at tables m.table) (λ p. nat_lt k (i + 1) && points_of m p) (map (rows_for k) new)
      go true same =
          let own : k ≡ i = grind (arith, nat_tests, same) in
          let at-i = subst (λ n. slice_get meaning.parts n ≡ Some m) own at in
          subst (λ n. AreLent m.need (rows_at tables m.table) (λ p. nat_lt n (i + 1) && points_of m p) (map (rows_for n) new)) (sym own) (lent-here m at-i (lent i m at-i))
      go false differ =
          let still = others-still k m.need (rows_at tables m.table) (λ p. nat_lt k i && points_of m p) (λ same. absurd (let wrong : true ≡ false = grind (arith, nat_tests, same, differ) in cc)) (lent k m at) in
          lent-same m.need (rows_at tables m.table) (λ p. nat_lt k i && points_of m p) (λ p. nat_lt k (i + 1) && points_of m p) (map (rows_for k) new)
          (each-same (λ p. nat_lt k i && points_of m p) (λ p. nat_lt k (i + 1) && points_of m p) (λ p. ap (λ b. b && points_of m p) (next-same k i differ)) (rows_at tables m.table)) still

-- all parts
below : (meant : List model.Part) (k : ℕ) (m : model.Part) → slice_get meant k ≡ Some m → k < length meant
below [] k m at = absurd (cc)
below (n ∷ meant) zero m at = omega arith
below (n ∷ meant) (suc k) m at = let less = below meant k m at in omega (arith, less)

lend-from : (tables : Tables) (runs : List Run) (j : ℕ) (meant : List model.Part)
    → ((k : ℕ) (m : model.Part) → slice_get meant k ≡ Some m → AreLent m.need (rows_at tables m.table) (points_of m) (map (rows_for (j + k)) runs)) → LendFrom j tables meant runs
lend-from tables runs j [] lent = tt
lend-from tables runs j (m ∷ meant) lent = (
  subst (λ n. AreLent m.need (rows_at tables m.table) (points_of m) (map (rows_for n) runs)) (zero-more j) (lent 0 m refl),
  lend-from tables runs (j + 1) meant (λ k other at. subst (λ n. AreLent other.need (rows_at tables other.table) (points_of other) (map (rows_for n) runs)) (next j k) (lent (suc k) other at)),
)
  where
    zero-more : (j : ℕ) → j + 0 ≡ j
    zero-more j = omega arith

    next : (j k : ℕ) → j + suc k ≡ (j + 1) + k
    next j k = omega arith

pub lent-all : (tables : Tables) (meant : List model.Part) (i : ℕ) (runs : List Run) → length meant ≤ i → LentUpto tables meant i runs → LendFrom 0 tables meant runs
lent-all tables meant i runs past lent = lend-from tables runs 0 meant (λ k m at. one k m at (below meant k m at))
  where
    one : (k : ℕ) (m : model.Part) → slice_get meant k ≡ Some m → k < length meant → AreLent m.need (rows_at tables m.table) (points_of m) (map (rows_for (0 + k)) runs)
    one k m at less =
        let before : nat_lt k i ≡ true = let lower : k < i = omega (arith, less, past) in grind (arith, nat_tests, lower) in
        let own : k ≡ 0 + k = omega arith in
        subst (λ n. AreLent m.need (rows_at tables m.table) (points_of m) (map (rows_for n) runs)) own
        (lent-same m.need (rows_at tables m.table) (λ p. nat_lt k i && points_of m p) (points_of m) (map (rows_for k) runs)
        (each-same (λ p. nat_lt k i && points_of m p) (points_of m) (λ p. ap (λ b. b && points_of m p) before) (rows_at tables m.table)) (lent k m at))
