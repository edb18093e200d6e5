-- The rows of a telling that the marks keep are those of the regions.
use Rattle.std.proofs.Common.{◌≡◌, ℕ, ◌+◌, ◌<◌, ◌≤◌, zero, suc, true, false, cond, List, [], ◌∷◌, length, map, refl, sym, ap, subst, ◌∙◌, arith, eqb-true}
use Rattle.std.specs.Prelude.{Bool, not, ◌&&◌, ◌==◌, nat_eq, if◌then◌else◌, filter, count_by}
use Rattle.std.specs.List.{list_all, list_any, All}
use Rattle.std.proofs.lemmas.Bool.Decides.{nat_tests}
use Rattle.std.proofs.lemmas.List.Elements.{All-head, All-tail}
use Rattle.sr_cell.specs.declared.table.Column.{Column}
use Rattle.sr_cell.specs.declared.table.Table.{Table}
use Rattle.sr_cell.specs.Attrs.{has_column, project_from}
use Rattle.sr_cell.specs.Cells.{Row}
use Rattle.sr_cell.specs.Columns.{table_at, is_point, in_column}
use Rattle.sr_box.specs.Corners.{first_value, have_first}
use Rattle.sr_box.specs.Points.{Rect, times, rect_fits, constrains_only}
use Rattle.sr_union.proofs.Times.{in_any-times}
use Rattle.sr_history.specs.declared.mark.Mark.{Mark}
use Rattle.sr_history.specs.Marks.{attrs_of, is_held}
use Rattle.sr_history.specs.Kept.{sets_of}
use Rattle.sr_region.specs.declared.region.Region.{Region}
use Rattle.sr_region.specs.Regions.{is_in, IsPart}
use Rattle.sr_region.proofs.Parts.{is_in-point}
use Rattle.sr_store.specs.Brought.{point_with, kept_in, kept_below, kept_told}
use Rattle.sr_store.specs.Classes.{Stamps, is_of, occurs, Keeps}
use Rattle.sr_store.specs.Told.{Told, IsTold, IsTrueOf, AreTrueOf}
use Rattle.sr_store.specs.Stores.{IsOfSchema}
use Rattle.sr_store.specs.Fitted.{count_rows}
use Rattle.sr_store.proofs.Classing.{IsSolid}
use Rattle.sr_store.proofs.KeptRows.{IsUsed, all-used}
use Rattle.sr_store.proofs.Totals.{total, total_is, total_same, total_none, total_plus, total_once}

-- ---- a point with given cells

-- a column that is not there has its first value
skips : (a c : ℕ) (column : Column) (columns : List Column) (cells : Row) → has_column a c ≡ false → point_with a c (column ∷ columns) cells ≡ first_value column.kind column.lo ∷ point_with a (c + 1) columns cells
skips a c column columns [] out = refl
skips a c column columns (v ∷ cells) out = ap (λ b. if b then v ∷ point_with a (c + 1) columns cells else first_value column.kind column.lo ∷ point_with a (c + 1) columns (v ∷ cells)) out

pub record IsPointWith (columns : List Column) (a c : ℕ) (cells p : Row) : Type 0 where
  pub point : is_point columns p ≡ true
  pub cells_are : project_from c a p ≡ cells

-- where some point has the cells, this one is one, and has them
with-cells : (a c : ℕ) (columns : List Column) (p : Row) → have_first columns ≡ true → is_point columns p ≡ true → IsPointWith columns a c (project_from c a p) (point_with a c columns (project_from c a p))
with-cells a c [] [] first point = record { point = refl; cells_are = refl }
with-cells a c [] (v ∷ p) first point = absurd (cc)
with-cells a c (column ∷ columns) [] first point = absurd (cc)
with-cells a c (column ∷ columns) (v ∷ p) first point = go (has_column a c) refl (with-cells a (c + 1) columns p (grind arith) (grind arith))
  where
    own : in_column column v ≡ true
    own = grind arith

    least : in_column column (first_value column.kind column.lo) ≡ true
    least = grind arith

    go : (b : Bool) → has_column a c ≡ b → IsPointWith columns a (c + 1) (project_from (c + 1) a p) (point_with a (c + 1) columns (project_from (c + 1) a p))
        → IsPointWith (column ∷ columns) a c (if b then v ∷ project_from (c + 1) a p else project_from (c + 1) a p)
        (point_with a c (column ∷ columns) (if b then v ∷ project_from (c + 1) a p else project_from (c + 1) a p))
    go true e ih =
        let rest : Row = point_with a (c + 1) columns (project_from (c + 1) a p) in
        let is : v ∷ rest ≡ point_with a c (column ∷ columns) (v ∷ project_from (c + 1) a p) =
        ap (λ b. if b then v ∷ rest else first_value column.kind column.lo ∷ point_with a (c + 1) columns (v ∷ project_from (c + 1) a p)) (sym e) in
        subst (IsPointWith (column ∷ columns) a c (v ∷ project_from (c + 1) a p)) is (record {
          point = rw own ih.point;
          cells_are = ap (λ b. if b then v ∷ project_from (c + 1) a rest else project_from (c + 1) a rest) e ∙ ap (λ xs. v ∷ xs) ih.cells_are;
        })
    go false e ih =
        let rest : Row = point_with a (c + 1) columns (project_from (c + 1) a p) in
        let lo = first_value column.kind column.lo in
        subst (IsPointWith (column ∷ columns) a c (project_from (c + 1) a p)) (sym (skips a c column columns (project_from (c + 1) a p) e)) (record {
          point = rw least ih.point;
          cells_are = ap (λ b. if b then lo ∷ project_from (c + 1) a rest else project_from (c + 1) a rest) e ∙ ih.cells_are;
        })

pub point-with : (columns : List Column) (a : ℕ) (cells : Row) → have_first columns ≡ true → IsPart columns a cells → IsPointWith columns a 0 cells (point_with a 0 columns cells)
point-with columns a cells first part =
    subst (λ xs. IsPointWith columns a 0 xs (point_with a 0 columns xs)) part.2 (with-cells a 0 columns part.0 first part.1)

-- ---- sums over the rows of so many tables, under each set of columns

abbrev over : (ℕ → ℕ → Row → ℕ) → Told → List ℕ → ℕ → ℕ
over f told sets zero = 0
over f told sets (suc t) = total (λ a. total (f t a) (told t a)) sets + over f told sets t

over-none : (f : ℕ → ℕ → Row → ℕ) (told : Told) (sets : List ℕ) (n : ℕ) → ((t a : ℕ) (cells : Row) → f t a cells ≡ 0) → over f told sets n ≡ 0
over-none f told sets zero h = refl
over-none f told sets (suc t) h =
    let ih = over-none f told sets t h in
    let first = total_none (λ a. total (f t a) (told t a)) sets (λ a. total_none (f t a) (told t a) (h t a)) in
    omega (arith, ih, first)

over-plus : (f g : ℕ → ℕ → Row → ℕ) (told : Told) (sets : List ℕ) (n : ℕ) → over (λ t a cells. f t a cells + g t a cells) told sets n ≡ over f told sets n + over g told sets n
over-plus f g told sets zero = refl
over-plus f g told sets (suc t) =
    let ih = over-plus f g told sets t in
    let first = total_same (λ a. total (λ cells. f t a cells + g t a cells) (told t a)) (λ a. total (f t a) (told t a) + total (g t a) (told t a)) sets (λ a. total_plus (f t a) (g t a) (told t a))
    ∙ total_plus (λ a. total (f t a) (told t a)) (λ a. total (g t a) (told t a)) sets in
    omega (arith, ih, first)

module _ (schema : List Table) (firsts : (t : ℕ) → have_first (table_at schema t).columns ≡ true) (told : Told) (is_told : IsTold schema told) where
  -- the point of the cells
  abbrev at : ℕ → ℕ → Row → Row
  at t a cells = point_with a 0 (table_at schema t).columns cells

  -- ---- what is kept is the sum of how often each row occurs in the regions

  counted : (t a : ℕ) (test : Row → Bool) (f : Row → ℕ) (rows : List Row) → ((p : Row) → is_point (table_at schema t).columns p ≡ true → f p ≡ (if test p then 1 else 0))
      → All (IsPart (table_at schema t).columns a) rows → total (λ cells. cond (test (at t a cells)) 1 0) rows ≡ total (λ cells. f (at t a cells)) rows
  counted t a test f [] h parts = refl
  counted t a test f (cells ∷ rows) h parts =
      let ih = counted t a test f rows h (All-tail (IsPart (table_at schema t).columns a) cells rows parts) in
      let is = point-with (table_at schema t).columns a cells (firsts t) (All-head (IsPart (table_at schema t).columns a) cells rows parts) in
      let one : f (at t a cells) ≡ cond (test (at t a cells)) 1 0 = h (at t a cells) is.point in
      omega (arith, ih, one)

  kept-occurs : (marks : List Mark) (stamps : Stamps) (gs : List Region) (n : ℕ) → Keeps schema (is_held marks) stamps gs
      → kept_below schema told marks n ≡ over (λ t a cells. occurs gs t a (at t a cells)) told (sets_of marks) n
  kept-occurs marks stamps gs zero k = refl
  kept-occurs marks stamps gs (suc t) k =
      let ih = kept-occurs marks stamps gs t k in
      let first : kept_in schema told marks t ≡ total (λ a. total (λ cells. occurs gs t a (at t a cells)) (told t a)) (sets_of marks) =
      total_is (λ a. count_by (λ cells. is_held marks t a (at t a cells)) (told t a)) (sets_of marks)
      ∙ total_same (λ a. count_by (λ cells. is_held marks t a (at t a cells)) (told t a)) (λ a. total (λ cells. occurs gs t a (at t a cells)) (told t a)) (sets_of marks)
      (λ a. total_is (λ cells. cond (is_held marks t a (at t a cells)) 1 0) (told t a)
      ∙ counted t a (is_held marks t a) (occurs gs t a) (told t a) (λ p point. k.points t a p point) (is_told.rows t a)) in
      omega (arith, ih, first)

  -- ---- the sum for one region is that over its rows

  abbrev own : Region → ℕ → ℕ → Row → ℕ
  own g t a cells = if is_of g t a then times g.rects (at t a cells) else 0

  own-set : (g : Region) (t a : ℕ) (b : Bool) → is_of g t a ≡ b → total (own g t a) (told t a) ≡ (if b then total (λ cells. times g.rects (at t a cells)) (told t a) else 0)
  own-set g t a true e = total_same (own g t a) (λ cells. times g.rects (at t a cells)) (told t a) (λ cells. ap (λ c. if c then times g.rects (at t a cells) else 0) e)
  own-set g t a false e = total_none (own g t a) (told t a) (λ cells. ap (λ c. if c then times g.rects (at t a cells) else 0) e)

  own-other : (g : Region) (sets : List ℕ) (t : ℕ) → (g.table == t) ≡ false → total (λ a. total (own g t a) (told t a)) sets ≡ 0
  own-other g sets t e = total_none (λ a. total (own g t a) (told t a)) sets (λ a. own-set g t a false (ap (λ b. b && g.attrs == a) e))

  -- the sum over the rows of the region's own table and columns
  abbrev sum_of : Region → ℕ
  sum_of g = total (λ cells. times g.rects (at g.table g.attrs cells)) (told g.table g.attrs)

  own-table : (g : Region) (marks : List Mark) → list_any (λ y. g.attrs == y) (map attrs_of marks) ≡ true → total (λ a. total (own g g.table a) (told g.table a)) (sets_of marks) ≡ sum_of g
  own-table g marks used =
      total_same (λ a. total (own g g.table a) (told g.table a)) (λ a. if g.attrs == a then sum_of g else 0) (sets_of marks) (λ a. each a (g.attrs == a) refl)
      ∙ total_once g.attrs (sum_of g) (map attrs_of marks) ∙ ap (λ c. if c then sum_of g else 0) used
    where
      self : (g.table == g.table) ≡ true
      self = grind (arith, nat_tests)

      each : (a : ℕ) (b : Bool) → (g.attrs == a) ≡ b → total (own g g.table a) (told g.table a) ≡ (if b then sum_of g else 0)
      each a true e =
          own-set g g.table a true (ap (λ c. c && g.attrs == a) self ∙ e)
          ∙ sym (ap (λ u. total (λ cells. times g.rects (at g.table u cells)) (told g.table u)) (eqb-true g.attrs a e))
      each a false e = own-set g g.table a false (ap (λ c. c && g.attrs == a) self ∙ e)

  own-below : (g : Region) (marks : List Mark) (n : ℕ) → n ≤ g.table → over (own g) told (sets_of marks) n ≡ 0
  own-below g marks zero le = refl
  own-below g marks (suc t) le =
      let ih = own-below g marks t (omega (arith, le)) in
      let first = own-other g (sets_of marks) t (grind (arith, nat_tests, le)) in
      omega (arith, ih, first)

  own-tables : (g : Region) (marks : List Mark) (n : ℕ) → g.table < n → list_any (λ y. g.attrs == y) (map attrs_of marks) ≡ true → over (own g) told (sets_of marks) n ≡ sum_of g
  own-tables g marks zero lt used = absurd (omega (arith, lt))
  own-tables g marks (suc t) lt used = go (g.table == t) refl (λ less. own-tables g marks t less used)
    where
      go : (b : Bool) → (g.table == t) ≡ b → (g.table < t → over (own g) told (sets_of marks) t ≡ sum_of g) → total (λ a. total (own g t a) (told t a)) (sets_of marks) + over (own g) told (sets_of marks) t ≡ sum_of g
      go true e ih =
          let same : g.table ≡ t = eqb-true g.table t e in
          let first : total (λ a. total (own g t a) (told t a)) (sets_of marks) ≡ sum_of g = subst (λ u. total (λ a. total (own g u a) (told u a)) (sets_of marks) ≡ sum_of g) same (own-table g marks used) in
          let rest = own-below g marks t (omega (arith, same)) in
          omega (arith, first, rest)
      go false e ih =
          let first = own-other g (sets_of marks) t e in
          let rest = ih (grind (arith, nat_tests, e, lt)) in
          omega (arith, first, rest)

  -- ---- and that is how many rows the region has

  own-rows : (t a : ℕ) (rects : List Rect) (rows : List Row) → list_all (rect_fits (table_at schema t).columns) rects ≡ true → list_all (constrains_only a 0) rects ≡ true
      → ((p : Row) → is_point (table_at schema t).columns p ≡ true → times rects p ≤ 1) → All (IsPart (table_at schema t).columns a) rows
      → length (filter (is_in a rects) rows) ≡ total (λ cells. times rects (at t a cells)) rows
  own-rows t a rects [] fits only once parts = refl
  own-rows t a rects (cells ∷ rows) fits only once parts =
      let is = point-with (table_at schema t).columns a cells (firsts t) (All-head (IsPart (table_at schema t).columns a) cells rows parts) in
      let inside : is_in a rects cells ≡ not (nat_eq (times rects (at t a cells)) 0) =
      ap (is_in a rects) (sym is.cells_are) ∙ is_in-point (table_at schema t).columns a rects (at t a cells) fits only is.point ∙ in_any-times rects (at t a cells) in
      go (is_in a rects cells) inside (once (at t a cells) is.point) (own-rows t a rects rows fits only once (All-tail (IsPart (table_at schema t).columns a) cells rows parts))
    where
      go : (b : Bool) → b ≡ not (nat_eq (times rects (at t a cells)) 0) → times rects (at t a cells) ≤ 1 → length (filter (is_in a rects) rows) ≡ total (λ x. times rects (at t a x)) rows
          → length (cond b (cells ∷ filter (is_in a rects) rows) (filter (is_in a rects) rows)) ≡ times rects (at t a cells) + total (λ x. times rects (at t a x)) rows
      go true e le ih = let one : times rects (at t a cells) ≡ 1 = grind (arith, nat_tests, e, le) in omega (arith, one, ih)
      go false e le ih = let none : times rects (at t a cells) ≡ 0 = grind (arith, nat_tests, e, le) in omega (arith, none, ih)

  region-rows : (g : Region) → IsOfSchema schema g → IsTrueOf told g → sum_of g ≡ length g.rows
  region-rows g h is = sym (ap length is ∙ own-rows g.table g.attrs g.rects (told g.table g.attrs) h.1.area.fit h.1.area.only h.1.area.once (is_told.rows g.table g.attrs))

  -- ---- together

  sum-rows : (marks : List Mark) (gs : List Region) → All (IsOfSchema schema) gs → AreTrueOf told gs → All (IsUsed marks) gs
      → over (λ t a cells. occurs gs t a (at t a cells)) told (sets_of marks) (length schema) ≡ total (λ g. length g.rows) gs
  sum-rows marks [] each rows used = over-none (λ t a cells. occurs [] t a (at t a cells)) told (sets_of marks) (length schema) (λ t a cells. refl)
  sum-rows marks (g ∷ gs) each rows used =
      let ih = sum-rows marks gs (All-tail (IsOfSchema schema) g gs each) (All-tail (IsTrueOf told) g gs rows) (All-tail (IsUsed marks) g gs used) in
      let here = All-head (IsOfSchema schema) g gs each in
      let both = over-plus (own g) (λ t a cells. occurs gs t a (at t a cells)) told (sets_of marks) (length schema) in
      let mine = own-tables g marks (length schema) here.0 (All-head (IsUsed marks) g gs used) ∙ region-rows g here (All-head (IsTrueOf told) g gs rows) in
      both ∙ omega (arith, mine, ih)

  kept-rows : (marks : List Mark) (stamps : Stamps) (gs : List Region) → All (IsOfSchema schema) gs → All (IsSolid schema) gs → Keeps schema (is_held marks) stamps gs → AreTrueOf told gs
      → kept_told schema told marks ≡ count_rows gs
  kept-rows marks stamps gs each some k rows =
      kept-occurs marks stamps gs (length schema) k
      ∙ sum-rows marks gs each rows (all-used schema marks gs (λ t a p point ne. held (is_held marks t a p) (k.points t a p point) ne) some)
      ∙ sym (total_is (λ g. length g.rows) gs)
    where
      held : {n : ℕ} (b : Bool) → n ≡ (if b then 1 else 0) → (n ≡ 0 → ⊥) → b ≡ true
      held true e ne = refl
      held false e ne = absurd (ne e)

pub kept_told_rows : (schema : List Table) (told : Told) (marks : List Mark) (stamps : Stamps) (gs : List Region) → ((t : ℕ) → have_first (table_at schema t).columns ≡ true) → IsTold schema told
    → All (IsOfSchema schema) gs → All (IsSolid schema) gs → Keeps schema (is_held marks) stamps gs → AreTrueOf told gs → kept_told schema told marks ≡ count_rows gs
kept_told_rows schema told marks stamps gs firsts is_told each some k rows = kept-rows schema firsts told is_told marks stamps gs each some k rows
