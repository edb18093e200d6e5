-- Regions have the right rows still when they are cut and put together.
use Rattle.std.proofs.Common.{◌≡◌, ℕ, true, false, cond, List, [], ◌∷◌, ◌++◌, refl, sym, ap, subst, ◌∙◌, arith}
use Rattle.std.specs.Prelude.{Bool, not, ◌&&◌, ◌||◌, filter}
use Rattle.std.specs.List.{list_all, All}
use Rattle.std.proofs.lemmas.List.Elements.{All-head, All-tail, filter_agree}
use Rattle.sr_cell.specs.declared.table.Column.{Column}
use Rattle.sr_cell.specs.declared.table.Table.{Table}
use Rattle.sr_cell.specs.Attrs.{has_column, project}
use Rattle.sr_cell.specs.Cells.{Row}
use Rattle.sr_cell.specs.Columns.{table_at, is_point}
use Rattle.sr_cell.proofs.Lists.{filter-filter}
use Rattle.sr_model.specs.SortedRows.{ascend, with_rows}
use Rattle.sr_box.specs.Points.{Rect, Points, in_any, rect_fits, constrains_only, AreSame}
use Rattle.sr_rows.specs.Places.{is_apart}
use Rattle.sr_rows.proofs.Order.{is_first, ascend-tail, ascend-first}
use Rattle.sr_rows.proofs.Parts.{with_rows-filters, first-filter}
use Rattle.sr_region.specs.declared.region.Region.{Region}
use Rattle.sr_region.specs.Regions.{rank, is_in, IsPart, IsRegion, joined}
use Rattle.sr_region.proofs.Parts.{is_in-point, is_in-append}
use Rattle.sr_store.specs.Told.{Told, IsTold, IsTrueOf}
use Rattle.sr_store.specs.Stores.{IsOfSchema}

-- two tests that agree at each row with a property keep the same rows
pub filter-on : (P : Row → Type 0) (f g : Row → Bool) → ((row : Row) → P row → f row ≡ g row) → (rows : List Row) → All P rows → filter f rows ≡ filter g rows
filter-on P f g same [] all = refl
filter-on P f g same (row ∷ rows) all = rw (same row (All-head P row rows all), filter-on P f g same rows (All-tail P row rows all)) refl

-- a row of some columns lies in rects where a point with its cells does
pub in-part : (cs : List Column) (a : ℕ) (rects : List Rect) (row : Row) → list_all (rect_fits cs) rects ≡ true → list_all (constrains_only a 0) rects ≡ true → (part : IsPart cs a row)
    → is_in a rects row ≡ in_any rects part.0
in-part cs a rects row fit only part = ap (is_in a rects) (sym part.2) ∙ is_in-point cs a rects part.0 fit only part.1

-- a test of the rows of a region that tells which of its points are those of others
rows-half : (cs : List Column) (a : ℕ) (own rects : List Rect) (those : Points) (test : Row → Bool) (told : List Row) → All (IsPart cs a) told
    → list_all (rect_fits cs) own ≡ true → list_all (constrains_only a 0) own ≡ true → list_all (rect_fits cs) rects ≡ true → list_all (constrains_only a 0) rects ≡ true
    → AreSame cs (in_any rects) those → ((p : Row) → is_point cs p ≡ true → (in_any own p && test (project a p)) ≡ those p)
    → filter test (filter (is_in a own) told) ≡ filter (is_in a rects) told
rows-half cs a own rects those test told parts fit only fits onlys same tests =
    filter-filter (is_in a own) test told
    ∙ filter-on (IsPart cs a) (λ row. is_in a own row && test row) (is_in a rects) one told parts
  where
    one : (row : Row) → IsPart cs a row → (is_in a own row && test row) ≡ is_in a rects row
    one row part =
        let p = part.0 in
        let x = in-part cs a own row fit only part in
        let y = in-part cs a rects row fits onlys part in
        let z = tests p part.1 in
        let w = same p part.1 in
        let t : test (project a p) ≡ test row = ap test part.2 in
        rw (x, ← t) (z ∙ sym w ∙ sym y)

-- one of two regions of one table with the same columns, whose rows are those of the other that pass a test
pub true_half : (schema : List Table) (told : Told) (whole half : Region) (those : Points) (test : Row → Bool) → IsTold schema told
    → IsRegion (table_at schema whole.table) whole → IsRegion (table_at schema whole.table) half → half.table ≡ whole.table → half.attrs ≡ whole.attrs
    → AreSame (table_at schema whole.table).columns (in_any half.rects) those
    → ((p : Row) → is_point (table_at schema whole.table).columns p ≡ true → (in_any whole.rects p && test (project whole.attrs p)) ≡ those p)
    → half.rows ≡ filter test whole.rows → IsTrueOf told whole → IsTrueOf told half
true_half schema told whole half those test is_told h k table attrs same tests rows is =
    let only : list_all (constrains_only whole.attrs 0) half.rects ≡ true = subst (λ a. list_all (constrains_only a 0) half.rects ≡ true) attrs k.area.only in
    rows ∙ ap (filter test) is
    ∙ rows-half (table_at schema whole.table).columns whole.attrs whole.rects half.rects those test (told whole.table whole.attrs) (is_told.rows whole.table whole.attrs)
    h.area.fit h.area.only k.area.fit only same tests
    ∙ ap (λ a. filter (is_in a half.rects) (told whole.table a)) (sym attrs) ∙ ap (λ t. filter (is_in half.attrs half.rects) (told t half.attrs)) (sym table)

-- a region with the same points as another of its table and columns, and with the same rows
pub true_same : (schema : List Table) (told : Told) (t a : ℕ) (rows : List Row) (rects others : List Rect) → IsTold schema told
    → list_all (rect_fits (table_at schema t).columns) rects ≡ true → list_all (constrains_only a 0) rects ≡ true
    → list_all (rect_fits (table_at schema t).columns) others ≡ true → list_all (constrains_only a 0) others ≡ true
    → AreSame (table_at schema t).columns (in_any others) (in_any rects)
    → rows ≡ filter (is_in a rects) (told t a) → rows ≡ filter (is_in a others) (told t a)
true_same schema told t a rows rects others is_told fit only fits onlys same is =
    is ∙ filter-on (IsPart (table_at schema t).columns a) (is_in a rects) (is_in a others)
    (λ row part. in-part (table_at schema t).columns a rects row fit only part ∙ sym (same part.0 part.1) ∙ sym (in-part (table_at schema t).columns a others row fits onlys part))
    (told t a) (is_told.rows t a)

-- rects with no point in common have no row in common
none-both : (cs : List Column) (a : ℕ) (one other : List Rect) (rows : List Row) → All (IsPart cs a) rows
    → list_all (rect_fits cs) one ≡ true → list_all (constrains_only a 0) one ≡ true → list_all (rect_fits cs) other ≡ true → list_all (constrains_only a 0) other ≡ true
    → ((p : Row) → is_point cs p ≡ true → (in_any one p && in_any other p) ≡ false) → list_all (λ row. not (is_in a one row && is_in a other row)) rows ≡ true
none-both cs a one other [] parts fit only fits onlys apart = refl
none-both cs a one other (row ∷ rows) parts fit only fits onlys apart =
    let ih = none-both cs a one other rows (All-tail (IsPart cs a) row rows parts) fit only fits onlys apart in
    let part = All-head (IsPart cs a) row rows parts in
    let x = in-part cs a one row fit only part in
    let y = in-part cs a other row fits onlys part in
    let z = apart part.0 part.1 in
    rw (x, y, z) ih

-- of rows by key, those that pass one test stand apart from those that pass another
one-apart : (key : ℕ) (row : Row) (rows : List Row) → is_first key row rows ≡ true → is_apart key rows row ≡ true
one-apart key row [] f = refl
one-apart key row (r ∷ rows) f = let ih = one-apart key row rows (grind arith) in grind (arith, ih)

more-apart : (key : ℕ) (row : Row) (rows others : List Row) → is_first key row others ≡ true → list_all (is_apart key rows) others ≡ true → list_all (is_apart key (row ∷ rows)) others ≡ true
more-apart key row rows [] f h = refl
more-apart key row rows (r ∷ others) f h = let ih = more-apart key row rows others (grind arith) (grind arith) in grind (arith, ih)

filters-apart : (key : ℕ) (f g : Row → Bool) (all : List Row) → ascend key all ≡ true → list_all (λ row. not (f row && g row)) all ≡ true
    → list_all (is_apart key (filter f all)) (filter g all) ≡ true
filters-apart key f g [] h none = refl
filters-apart key f g (r ∷ rows) h none =
    go (f r) (g r) (grind arith) (first-filter key r f rows (ascend-first key r rows h)) (first-filter key r g rows (ascend-first key r rows h))
    (filters-apart key f g rows (ascend-tail key r rows h) (grind arith))
  where
    go : (a b : Bool) → not (a && b) ≡ true → is_first key r (filter f rows) ≡ true → is_first key r (filter g rows) ≡ true → list_all (is_apart key (filter f rows)) (filter g rows) ≡ true
        → list_all (is_apart key (cond a (r ∷ filter f rows) (filter f rows))) (cond b (r ∷ filter g rows) (filter g rows)) ≡ true
    go true true both x y ih = absurd (grind arith)
    go true false both x y ih = more-apart key r (filter f rows) (filter g rows) y ih
    go false true both x y ih = let z = one-apart key r (filter f rows) x in grind (arith, z, ih)
    go false false both x y ih = ih

-- two regions of one table with the same columns, and with no point in common
pub record ArePair (schema : List Table) (told : Told) (h g : Region) : Type 0 where
  pub one : IsOfSchema schema h
  pub other : IsOfSchema schema g
  pub table : g.table ≡ h.table
  pub attrs : g.attrs ≡ h.attrs
  pub is_told : IsTold schema told
  pub one_true : IsTrueOf told h
  pub other_true : IsTrueOf told g
  pub apart : (p : Row) → is_point (table_at schema h.table).columns p ≡ true → (in_any h.rects p && in_any g.rects p) ≡ false

pair-rows : (schema : List Table) (told : Told) (h g : Region) → ArePair schema told h g → g.rows ≡ filter (is_in h.attrs g.rects) (told h.table h.attrs)
pair-rows schema told h g k =
    k.other_true ∙ ap (λ a. filter (is_in a g.rects) (told g.table a)) k.attrs ∙ ap (λ t. filter (is_in h.attrs g.rects) (told t h.attrs)) k.table

pair-none : (schema : List Table) (told : Told) (h g : Region) → ArePair schema told h g → list_all (λ row. not (is_in h.attrs h.rects row && is_in h.attrs g.rects row)) (told h.table h.attrs) ≡ true
pair-none schema told h g k =
    let fits = subst (λ t. list_all (rect_fits (table_at schema t).columns) g.rects ≡ true) k.table k.other.1.area.fit in
    let onlys = subst (λ a. list_all (constrains_only a 0) g.rects ≡ true) k.attrs k.other.1.area.only in
    none-both (table_at schema h.table).columns h.attrs h.rects g.rects (told h.table h.attrs) (k.is_told.rows h.table h.attrs) k.one.1.area.fit k.one.1.area.only fits onlys k.apart

pair-ascend : (schema : List Table) (told : Told) (h g : Region) → ArePair schema told h g → ascend (rank h.attrs h.key) (told h.table h.attrs) ≡ true
pair-ascend schema told h g k =
    ap (λ key. ascend (rank h.attrs key) (told h.table h.attrs)) k.one.1.area.key
    ∙ k.is_told.ascending h.table h.attrs (subst (λ key. has_column h.attrs key ≡ true) k.one.1.area.key k.one.1.area.has_key)

-- they have no key in common
pub pair_apart : (schema : List Table) (told : Told) (h g : Region) → ArePair schema told h g → list_all (is_apart (rank h.attrs h.key) h.rows) g.rows ≡ true
pair_apart schema told h g k =
    ap (λ rows. list_all (is_apart (rank h.attrs h.key) rows) g.rows) k.one_true
    ∙ ap (λ rows. list_all (is_apart (rank h.attrs h.key) (filter (is_in h.attrs h.rects) (told h.table h.attrs))) rows) (pair-rows schema told h g k)
    ∙ filters-apart (rank h.attrs h.key) (is_in h.attrs h.rects) (is_in h.attrs g.rects) (told h.table h.attrs) (pair-ascend schema told h g k) (pair-none schema told h g k)

-- put together, they have the right rows
pub pair_true : (schema : List Table) (told : Told) (h g : Region) → ArePair schema told h g → IsTrueOf told (joined h g)
pair_true schema told h g k =
    ap (λ rows. with_rows (rank h.attrs h.key) rows g.rows) k.one_true
    ∙ ap (λ rows. with_rows (rank h.attrs h.key) (filter (is_in h.attrs h.rects) (told h.table h.attrs)) rows) (pair-rows schema told h g k)
    ∙ with_rows-filters (rank h.attrs h.key) (is_in h.attrs h.rects) (is_in h.attrs g.rects) (told h.table h.attrs) (pair-ascend schema told h g k) (pair-none schema told h g k)
    ∙ filter_agree (λ row. is_in h.attrs h.rects row || is_in h.attrs g.rects row) (is_in h.attrs (h.rects ++ g.rects)) (λ row. sym (is_in-append h.attrs h.rects g.rects row)) (told h.table h.attrs)
