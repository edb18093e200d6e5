-- The rows that the marks keep are those of the regions.
use Rattle.std.proofs.Common.{◌≡◌, ℕ, ◌+◌, ◌<◌, ◌≤◌, zero, suc, true, false, cond, List, [], ◌∷◌, length, map, refl, sym, ap, subst, ◌∙◌, arith}
use Rattle.std.specs.Prelude.{Bool, not, ◌&&◌, ◌==◌, nat_eq, if◌then◌else◌, filter, sum_by, count_by}
use Rattle.std.specs.List.{list_all, list_any, All}
use Rattle.std.proofs.lemmas.Bool.Decides.{nat_tests}
use Rattle.std.proofs.lemmas.List.Elements.{All-nil, All-cons, All-head, All-tail}
use Rattle.sr_cell.specs.declared.table.Column.{Column}
use Rattle.sr_cell.specs.declared.table.Table.{Table}
use Rattle.sr_cell.specs.Attrs.{project}
use Rattle.sr_cell.specs.Cells.{Row}
use Rattle.sr_cell.specs.Columns.{table_at, is_point}
use Rattle.sr_model.specs.Queries.{rows_at}
use Rattle.sr_model.specs.Statements.{Tables}
use Rattle.sr_box.specs.Points.{Rect, times, rect_fits, constrains_only}
use Rattle.sr_union.proofs.Times.{in_any-times}
use Rattle.sr_history.specs.declared.mark.Mark.{Mark}
use Rattle.sr_history.specs.Marks.{attrs_of, is_held}
use Rattle.sr_history.specs.Kept.{sets_of, kept_from, kept}
use Rattle.sr_history.proofs.Marking.{held-set}
use Rattle.sr_region.specs.declared.region.Region.{Region}
use Rattle.sr_region.specs.Regions.{is_in}
use Rattle.sr_region.specs.Applied.{AreTables}
use Rattle.sr_region.proofs.Parts.{is_in-point}
use Rattle.sr_store.specs.Classes.{Stamps, is_of, occurs, Keeps}
use Rattle.sr_store.specs.Told.{told_of, IsTrueOf, AreTrueOf}
use Rattle.sr_store.specs.Stores.{IsOfSchema}
use Rattle.sr_store.specs.Fitted.{count_rows}
use Rattle.sr_store.proofs.Classing.{IsSolid}
use Rattle.sr_store.proofs.Totals.{total, total_is, total_same, total_none, total_plus, total_once}

-- ---- sums over the rows of all tables, under each set of columns; t is the number of the first table

abbrev over_tables : (ℕ → ℕ → Row → ℕ) → List ℕ → ℕ → Tables → ℕ
over_tables f sets t [] = 0
over_tables f sets t (rows ∷ tables) = total (λ a. total (f t a) rows) sets + over_tables f sets (t + 1) tables

over-none : (f : ℕ → ℕ → Row → ℕ) (sets : List ℕ) (t : ℕ) (tables : Tables) → ((t a : ℕ) (p : Row) → f t a p ≡ 0) → over_tables f sets t tables ≡ 0
over-none f sets t [] h = refl
over-none f sets t (rows ∷ tables) h =
    let ih = over-none f sets (t + 1) tables h in
    let first = total_none (λ a. total (f t a) rows) sets (λ a. total_none (f t a) rows (h t a)) in
    omega (arith, ih, first)

over-plus : (f g : ℕ → ℕ → Row → ℕ) (sets : List ℕ) (t : ℕ) (tables : Tables)
    → over_tables (λ t a p. f t a p + g t a p) sets t tables ≡ over_tables f sets t tables + over_tables g sets t tables
over-plus f g sets t [] = refl
over-plus f g sets t (rows ∷ tables) =
    let ih = over-plus f g sets (t + 1) tables in
    let first = total_same (λ a. total (λ p. f t a p + g t a p) rows) (λ a. total (f t a) rows + total (g t a) rows) sets (λ a. total_plus (f t a) (g t a) rows)
    ∙ total_plus (λ a. total (f t a) rows) (λ a. total (g t a) rows) sets in
    omega (arith, ih, first)

-- ---- what is kept is the sum of how often each row occurs in the regions

abbrev ArePoints : List Table → ℕ → Tables → Type 0
ArePoints schema t tables = (n : ℕ) → list_all (is_point (table_at schema (t + n)).columns) (rows_at tables n) ≡ true

first-points : (schema : List Table) (t : ℕ) (rows : List Row) (tables : Tables) → ArePoints schema t (rows ∷ tables) → list_all (is_point (table_at schema t).columns) rows ≡ true
first-points schema t rows tables h = let e : t + 0 ≡ t = omega arith in subst (λ u. list_all (is_point (table_at schema u).columns) rows ≡ true) e (h 0)

other-points : (schema : List Table) (t : ℕ) (rows : List Row) (tables : Tables) → ArePoints schema t (rows ∷ tables) → ArePoints schema (t + 1) tables
other-points schema t rows tables h n = let e : t + suc n ≡ (t + 1) + n = omega arith in subst (λ u. list_all (is_point (table_at schema u).columns) (rows_at tables n) ≡ true) e (h (suc n))

counted : (columns : List Column) (test : Row → Bool) (f : Row → ℕ) (rows : List Row) → ((p : Row) → is_point columns p ≡ true → f p ≡ (if test p then 1 else 0))
    → list_all (is_point columns) rows ≡ true → total (λ p. cond (test p) 1 0) rows ≡ total f rows
counted columns test f [] h points = refl
counted columns test f (p ∷ rows) h points =
    let ih = counted columns test f rows h (grind arith) in
    let one : f p ≡ cond (test p) 1 0 = h p (grind arith) in
    omega (arith, ih, one)

kept-occurs : (schema : List Table) (marks : List Mark) (stamps : Stamps) (gs : List Region) (t : ℕ) (tables : Tables) → Keeps schema (is_held marks) stamps gs → ArePoints schema t tables
    → kept_from marks t tables ≡ over_tables (occurs gs) (sets_of marks) t tables
kept-occurs schema marks stamps gs t [] k points = refl
kept-occurs schema marks stamps gs t (rows ∷ tables) k points =
    let ih = kept-occurs schema marks stamps gs (t + 1) tables k (other-points schema t rows tables points) in
    let first : sum_by (λ a. count_by (is_held marks t a) rows) (sets_of marks) ≡ total (λ a. total (occurs gs t a) rows) (sets_of marks) =
    total_is (λ a. count_by (is_held marks t a) rows) (sets_of marks)
    ∙ total_same (λ a. count_by (is_held marks t a) rows) (λ a. total (occurs gs t a) rows) (sets_of marks)
    (λ a. total_is (λ p. cond (is_held marks t a p) 1 0) rows
    ∙ counted (table_at schema t).columns (is_held marks t a) (occurs gs t a) rows (λ p point. k.points t a p point) (first-points schema t rows tables points)) in
    omega (arith, ih, first)

-- ---- the sum for one region is that over the rows of its table

abbrev own : Region → ℕ → ℕ → Row → ℕ
own g t a p = if is_of g t a then times g.rects p else 0

own-set : (g : Region) (t a : ℕ) (b : Bool) (rows : List Row) → is_of g t a ≡ b → total (own g t a) rows ≡ (if b then total (times g.rects) rows else 0)
own-set g t a true rows e = total_same (own g t a) (times g.rects) rows (λ p. ap (λ c. if c then times g.rects p else 0) e)
own-set g t a false rows e = total_none (own g t a) rows (λ p. ap (λ c. if c then times g.rects p else 0) e)

own-other : (g : Region) (sets : List ℕ) (t : ℕ) (rows : List Row) → (g.table == t) ≡ false → total (λ a. total (own g t a) rows) sets ≡ 0
own-other g sets t rows e = total_none (λ a. total (own g t a) rows) sets (λ a. own-set g t a false rows (ap (λ b. b && g.attrs == a) e))

own-table : (g : Region) (marks : List Mark) (t : ℕ) (rows : List Row) → (g.table == t) ≡ true → list_any (λ y. g.attrs == y) (map attrs_of marks) ≡ true
    → total (λ a. total (own g t a) rows) (sets_of marks) ≡ total (times g.rects) rows
own-table g marks t rows e used =
    total_same (λ a. total (own g t a) rows) (λ a. if g.attrs == a then total (times g.rects) rows else 0) (sets_of marks)
    (λ a. own-set g t a (g.attrs == a) rows (ap (λ b. b && g.attrs == a) e))
    ∙ total_once g.attrs (total (times g.rects) rows) (map attrs_of marks) ∙ ap (λ c. if c then total (times g.rects) rows else 0) used

own-behind : (g : Region) (sets : List ℕ) (t : ℕ) (tables : Tables) → g.table < t → over_tables (own g) sets t tables ≡ 0
own-behind g sets t [] lt = refl
own-behind g sets t (rows ∷ tables) lt =
    let ih = own-behind g sets (t + 1) tables (omega (arith, lt)) in
    let first = own-other g sets t rows (grind (arith, nat_tests, lt)) in
    omega (arith, ih, first)

own-tables : (g : Region) (marks : List Mark) (t n : ℕ) (tables : Tables) → t + n ≡ g.table → n < length tables → list_any (λ y. g.attrs == y) (map attrs_of marks) ≡ true
    → over_tables (own g) (sets_of marks) t tables ≡ total (times g.rects) (rows_at tables n)
own-tables g marks t n [] e lt used = absurd (omega (arith, lt))
own-tables g marks t zero (rows ∷ tables) e lt used =
    let first = own-table g marks t rows (grind (arith, nat_tests, e)) used in
    let rest = own-behind g (sets_of marks) (t + 1) tables (omega (arith, e)) in
    omega (arith, first, rest)
own-tables g marks t (suc n) (rows ∷ tables) e lt used =
    let first = own-other g (sets_of marks) t rows (grind (arith, nat_tests, e)) in
    let rest = own-tables g marks (t + 1) n tables (omega (arith, e)) (omega (arith, lt)) used in
    omega (arith, first, rest)

-- ---- and that is how many rows the region has

own-rows : (columns : List Column) (a : ℕ) (rects : List Rect) (rows : List Row) → list_all (rect_fits columns) rects ≡ true → list_all (constrains_only a 0) rects ≡ true
    → ((p : Row) → is_point columns p ≡ true → times rects p ≤ 1) → list_all (is_point columns) rows ≡ true
    → length (filter (is_in a rects) (map (project a) rows)) ≡ total (times rects) rows
own-rows columns a rects [] fits only once points = refl
own-rows columns a rects (p ∷ rows) fits only once points =
    let point : is_point columns p ≡ true = grind arith in
    go (is_in a rects (project a p)) (is_in-point columns a rects p fits only point ∙ in_any-times rects p) (once p point) (own-rows columns a rects rows fits only once (grind arith))
  where
    go : (b : Bool) → b ≡ not (nat_eq (times rects p) 0) → times rects p ≤ 1 → length (filter (is_in a rects) (map (project a) rows)) ≡ total (times rects) rows
        → length (cond b (project a p ∷ filter (is_in a rects) (map (project a) rows)) (filter (is_in a rects) (map (project a) rows))) ≡ times rects p + total (times rects) rows
    go true e le ih = let one : times rects p ≡ 1 = grind (arith, nat_tests, e, le) in omega (arith, one, ih)
    go false e le ih = let none : times rects p ≡ 0 = grind (arith, nat_tests, e, le) in omega (arith, none, ih)

region-rows : (schema : List Table) (tables : Tables) (g : Region) → AreTables schema tables → IsOfSchema schema g → IsTrueOf (told_of tables) g
    → total (times g.rects) (rows_at tables g.table) ≡ length g.rows
region-rows schema tables g are h is =
    sym (ap length is ∙ own-rows (table_at schema g.table).columns g.attrs g.rects (rows_at tables g.table) h.1.area.fit h.1.area.only h.1.area.once (are.points g.table))

-- ---- the columns of each region are those of some mark

abbrev pub IsUsed : List Mark → Region → Type 0
IsUsed marks g = list_any (λ y. g.attrs == y) (map attrs_of marks) ≡ true

pub all-used : (schema : List Table) (marks : List Mark) (gs : List Region)
    → ((t a : ℕ) (p : Row) → is_point (table_at schema t).columns p ≡ true → (occurs gs t a p ≡ 0 → ⊥) → is_held marks t a p ≡ true) → All (IsSolid schema) gs → All (IsUsed marks) gs
all-used schema marks [] held some = All-nil (IsUsed marks)
all-used schema marks (g ∷ gs) held some =
    All-cons (IsUsed marks) g gs (one (All-head (IsSolid schema) g gs some))
    (all-used schema marks gs (λ t a p point ne. held t a p point (λ e. ne (omega (arith, e)))) (All-tail (IsSolid schema) g gs some))
  where
    self : is_of g g.table g.attrs ≡ true
    self = grind (arith, nat_tests)

    one : IsSolid schema g → IsUsed marks g
    one (p, point, inside) = held-set marks g.table g.attrs p (held g.table g.attrs p point (λ e.
        let x = in_any-times g.rects p in
        let y : times g.rects p + occurs gs g.table g.attrs p ≡ 0 = ap (λ b. (if b then times g.rects p else 0) + occurs gs g.table g.attrs p) (sym self) ∙ e in
        let z : times g.rects p ≡ 0 = omega (arith, y) in
        absurd (grind (arith, nat_tests, x, z, inside))))

-- ---- together

sum-rows : (schema : List Table) (tables : Tables) (marks : List Mark) (gs : List Region) → AreTables schema tables → All (IsOfSchema schema) gs → AreTrueOf (told_of tables) gs
    → All (IsUsed marks) gs → over_tables (occurs gs) (sets_of marks) 0 tables ≡ total (λ g. length g.rows) gs
sum-rows schema tables marks [] are each rows used = over-none (occurs []) (sets_of marks) 0 tables (λ t a p. refl)
sum-rows schema tables marks (g ∷ gs) are each rows used =
    let ih = sum-rows schema tables marks gs are (All-tail (IsOfSchema schema) g gs each) (All-tail (IsTrueOf (told_of tables)) g gs rows) (All-tail (IsUsed marks) g gs used) in
    let here = All-head (IsOfSchema schema) g gs each in
    let both = over-plus (own g) (occurs gs) (sets_of marks) 0 tables in
    let within : g.table < length tables = subst (λ n. g.table < n) (sym are.few) here.0 in
    let mine = own-tables g marks 0 g.table tables (omega arith) within (All-head (IsUsed marks) g gs used) ∙ region-rows schema tables g are here (All-head (IsTrueOf (told_of tables)) g gs rows) in
    both ∙ omega (arith, mine, ih)

pub kept_rows : (schema : List Table) (tables : Tables) (marks : List Mark) (stamps : Stamps) (gs : List Region) → AreTables schema tables → All (IsOfSchema schema) gs
    → All (IsSolid schema) gs → Keeps schema (is_held marks) stamps gs → AreTrueOf (told_of tables) gs → kept tables marks ≡ count_rows gs
kept_rows schema tables marks stamps gs are each some k rows =
    kept-occurs schema marks stamps gs 0 tables k (λ n. let e : 0 + n ≡ n = omega arith in subst (λ u. list_all (is_point (table_at schema u).columns) (rows_at tables n) ≡ true) (sym e) (are.points n))
    ∙ sum-rows schema tables marks gs are each rows (all-used schema marks gs (λ t a p point ne. held (is_held marks t a p) (k.points t a p point) ne) some)
    ∙ sym (total_is (λ g. length g.rows) gs)
  where
    held : {n : ℕ} (b : Bool) → n ≡ (if b then 1 else 0) → (n ≡ 0 → ⊥) → b ≡ true
    held true e ne = refl
    held false e ne = absurd (ne e)
