-- Lawful parts, whose rects and rows have a spelling, are an image.
use Rattle.std.proofs.Common.{◌≡◌, ℕ, zero, suc, ◌+◌, ◌*◌, ◌/◌, ◌%◌, ◌^◌, ◌<◌, ◌≤◌, Bool, true, false, List, [], ◌∷◌, ◌++◌, length, refl, sym, ap, subst, ◌∙◌, arith, inl, inr, Some, None}
use Rattle.std.proofs.Math.Nat.{lt-mul-div-succ, pow-le-pow_right}
use Rattle.std.specs.Prelude.{IsTrue, not, ◌&&◌, ◌||◌, ◌==◌, ◌⊎◌, Option, nat_lt, nat_le, if◌then◌else◌}
use Rattle.std.specs.List.{list_all, list_any, All}
use Rattle.std.specs.Option.{is_some}
use Rattle.std.specs.Str.{is_utf8}
use Rattle.std.specs.Cmp.{first_so, second_so}
use Rattle.std.proofs.lemmas.Bool.{and_from, cases_Bool, lt-ltb}
use Rattle.std.proofs.lemmas.Bool.Decides.{nat_tests}
use Rattle.std.proofs.lemmas.List.Elements.{All-head, All-tail}
use Rattle.std.proofs.lemmas.List.Folds.{list_all-append}
use Rattle.std.proofs.lemmas.List.Sums.{sum_by-cons}
use Rattle.sr_cell.specs.declared.cell.Cell.{Cell}
use Rattle.sr_cell.specs.declared.cell.Cell.TheVariants.{Num, Str, Null}
use Rattle.sr_cell.specs.declared.table.Column.{Column}
use Rattle.sr_cell.specs.declared.table.Kind.{Kind}
use Rattle.sr_cell.specs.declared.table.Kind.TheVariants.{Num as Numbers, Str as Texts}
use Rattle.sr_cell.specs.declared.table.Table.{Table}
use Rattle.sr_cell.specs.Attrs.{has_column, project, project_from}
use Rattle.sr_cell.specs.Cells.{Row}
use Rattle.sr_cell.specs.Columns.{in_kind, is_point, takes_kind, table_at}
use Rattle.sr_cell.proofs.ColumnSets.{no_bits, has_column-shifted}
use Rattle.sr_model.specs.SortedRows.{ascend, key_lt}
use Rattle.sr_box.specs.Cut.{rect_meet, in_some, some_fits}
use Rattle.sr_box.specs.Points.{Rect, in_rect, times, rect_fits, constrains_only}
use Rattle.sr_box.proofs.Meets.{rect_meet-is, rect_meet-fits}
use Rattle.sr_box.specs.Corners.{have_first}
use Rattle.sr_union.proofs.Low.{low_point, low-point}
use Rattle.sr_union.proofs.Times.{times-append}
use Rattle.sr_query.specs.Bound.{is_table}
use Rattle.sr_region.specs.Regions.{rank, is_in, AreColumnsOf, IsRowIn}
use Rattle.sr_bytes.specs.Spelling.{is_from_to, has_cell_bytes, has_row_bytes, has_rect_bytes}
use Rattle.sr_store.specs.declared.start.Kept.{Kept}
use Rattle.sr_store.specs.Stores.{IsOfSchema}
use Rattle.sr_store.specs.Starting.{region_of, regions_of, ascending, AreLawful}
use Rattle.sr_store.proofs.Tables.{tables_first}
use Rattle.sr_image.specs.declared.image.Image.{Image}
use Rattle.sr_image.specs.Reading.{is_lone, meets_some, may_rect, may_row, may_head, takes_part, is_above, is_before, is_behind, head_of, count_rects}
use Rattle.sr_image.specs.Laws.{each_may, are_counted, is_rect, is_row, is_head, is_kept, is_image}
use Rattle.sr_image.proofs.Lawful.{above-end, behind-end, count-end, count-more, same-count}

to : (low high n : ℕ) → low ≤ n → n ≤ high → is_from_to low high n ≡ true
to low high n l h = grind (arith, nat_tests, l, h)

-- ---- columns

own-low : (t : Table) (attrs : ℕ) → AreColumnsOf t attrs → attrs < 2 ^ length t.columns
own-low t attrs own =
    let n : ℕ = length t.columns in
    let none : attrs / 2 ^ n ≡ 0 = no_bits (attrs / 2 ^ n) (attrs / 2 ^ n) (omega arith) (λ k. sym (has_column-shifted attrs n k) ∙ beyond (n + k) (omega arith)) in
    let below : attrs < 2 ^ n * (attrs / 2 ^ n + 1) = lt-mul-div-succ attrs {b = 2 ^ n} (positive n) in
    let least : attrs < 2 ^ n * (0 + 1) = subst (λ d. attrs < 2 ^ n * (d + 1)) none below in
    omega (arith, least)
  where
    positive : (n : ℕ) → 0 < 2 ^ n
    positive n = let le : 2 ^ 0 ≤ 2 ^ n = pow-le-pow_right {n = 2} (omega arith) {i = 0} {j = n} (omega arith) in omega (arith, le)

    beyond : (c : ℕ) → length t.columns ≤ c → has_column attrs c ≡ false
    beyond c far = by (has_column attrs c) refl
      where
        by : (b : Bool) → has_column attrs c ≡ b → b ≡ false
        by false is = refl
        by true is = absurd (let less = own c is in omega (arith, less, far))

few-columns : (t : Table) → is_table t ≡ true → length t.columns ≤ 12
few-columns t is = grind (arith, nat_tests, is)

-- ---- rects

meet-point : (columns : List Column) (x q : Rect) (m : Option Rect) → rect_meet x q ≡ m → rect_fits columns x ≡ true → rect_fits columns q ≡ true → have_first columns ≡ true
    → ((p : Row) → is_point columns p ≡ true → in_rect x p ≡ true → in_rect q p ≡ true → ⊥) → is_some m ≡ false
meet-point columns x q None is fit other first apart = refl
meet-point columns x q (Some r) is fit other first apart =
    let fits : rect_fits columns r ≡ true = subst (λ o. some_fits columns o ≡ true) is (rect_meet-fits columns x q fit other) in
    let low = low-point columns r fits first in
    let both : in_rect r (low_point columns r) ≡ (in_rect x (low_point columns r) && in_rect q (low_point columns r)) =
    subst (λ o. in_some o (low_point columns r) ≡ (in_rect x (low_point columns r) && in_rect q (low_point columns r))) is (rect_meet-is x q (low_point columns r)) in
    let two : (in_rect x (low_point columns r) && in_rect q (low_point columns r)) ≡ true = sym both ∙ low.0 in
    absurd (apart (low_point columns r) low.1 (first_so (in_rect x (low_point columns r)) (in_rect q (low_point columns r)) two)
    (second_so (in_rect x (low_point columns r)) (in_rect q (low_point columns r)) two))

apart-of : (columns : List Column) (before : List Rect) (x : Rect) → have_first columns ≡ true → list_all (rect_fits columns) before ≡ true → rect_fits columns x ≡ true
    → ((p : Row) → is_point columns p ≡ true → times before p + (if in_rect x p then 1 else 0) ≤ 1) → meets_some before x ≡ false
apart-of columns [] x first fits fit few = refl
apart-of columns (q ∷ before) x first fits fit few =
    let own = first_so (rect_fits columns q) (list_all (rect_fits columns) before) fits in
    let none = meet-point columns x q (rect_meet x q) refl fit own first (λ p point inside there. twice p (few p point) inside there) in
    let more = apart-of columns before x first (second_so (rect_fits columns q) (list_all (rect_fits columns) before) fits) fit (λ p point. less p (few p point)) in
    rw none more
  where
    twice : (p : Row) → (if in_rect q p then 1 else 0) + times before p + (if in_rect x p then 1 else 0) ≤ 1 → in_rect x p ≡ true → in_rect q p ≡ true → ⊥
    twice p le inside there =
        let two : 1 + times before p + 1 ≤ 1 = subst (λ b. 1 + times before p + (if b then 1 else 0) ≤ 1) inside (subst (λ b. (if b then 1 else 0) + times before p + (if in_rect x p then 1 else 0) ≤ 1) there le) in
        omega (arith, two)

    less : (p : Row) → (if in_rect q p then 1 else 0) + times before p + (if in_rect x p then 1 else 0) ≤ 1 → times before p + (if in_rect x p then 1 else 0) ≤ 1
    less p le = omega (arith, le)

longer : {A : Type 0} (xs : List A) (x : A) → length (xs ++ x ∷ []) ≡ length xs + 1
longer [] x = refl
longer (y ∷ xs) x = let ih = longer xs x in omega (arith, ih)

module _ (t : Table) (attrs many : ℕ) (first : have_first t.columns ≡ true) where
  rects-are : (before xs : List Rect) → list_all (rect_fits t.columns) before ≡ true → list_all (rect_fits t.columns) xs ≡ true → list_all (constrains_only attrs 0) xs ≡ true
      → list_all has_rect_bytes xs ≡ true → ((p : Row) → is_point t.columns p ≡ true → times before p + times xs p ≤ 1) → many + length before + length xs ≤ 16384
      → each_may (is_rect t attrs many) before xs ≡ true
  rects-are before [] fits fit only bytes once few = refl
  rects-are before (x ∷ xs) fits fit only bytes once few =
      let fit_x = first_so (rect_fits t.columns x) (list_all (rect_fits t.columns) xs) fit in
      let only_x = first_so (constrains_only attrs 0 x) (list_all (constrains_only attrs 0) xs) only in
      let bytes_x = first_so (has_rect_bytes x) (list_all has_rect_bytes xs) bytes in
      let room : nat_lt (many + length before) 16384 ≡ true = lt-ltb _ _ (omega (arith, few)) in
      let apart = apart-of t.columns before x first fits fit_x (λ p point. at-most p (once p point)) in
      let lone = and_from (rect_fits t.columns x) (constrains_only attrs 0 x && nat_lt (many + length before) 16384) fit_x (and_from (constrains_only attrs 0 x) (nat_lt (many + length before) 16384) only_x room) in
      let may = and_from (is_lone t attrs many (length before) x) (not (meets_some before x)) lone (ap not apart) in
      let size = longer before x in
      let more = rects-are (before ++ x ∷ []) xs (list_all-append (rect_fits t.columns) before (x ∷ []) ∙ rw (fits, fit_x) refl)
      (second_so (rect_fits t.columns x) (list_all (rect_fits t.columns) xs) fit) (second_so (constrains_only attrs 0 x) (list_all (constrains_only attrs 0) xs) only)
      (second_so (has_rect_bytes x) (list_all has_rect_bytes xs) bytes) (λ p point. let sum = times-append before (x ∷ []) p in let le = once p point in omega (arith, sum, le)) (omega (arith, size, few)) in
      and_from (is_rect t attrs many before x) (each_may (is_rect t attrs many) (before ++ x ∷ []) xs) (and_from (may_rect t attrs many before x) (has_rect_bytes x) may bytes_x) more
    where
      at-most : (p : Row) → times before p + ((if in_rect x p then 1 else 0) + times xs p) ≤ 1 → times before p + (if in_rect x p then 1 else 0) ≤ 1
      at-most p le = omega (arith, le)

-- ---- rows

cell-takes : (k : Kind) (low high : _) (nullable : Bool) (v : Cell) → in_kind k low high nullable v ≡ true → has_cell_bytes v ≡ true → takes_kind k low high nullable v ≡ true
cell-takes Numbers low high nullable (Num n) is bytes = is
cell-takes Numbers low high nullable (Str s) is bytes = is
cell-takes Numbers low high nullable Null is bytes = is
cell-takes Texts low high nullable (Num n) is bytes = is
cell-takes Texts low high nullable Null is bytes = is
cell-takes Texts low high nullable (Str s) is bytes = first_so (nat_le (length s) 120) (is_utf8 s) bytes

skips : (c attrs : ℕ) (column : Column) (columns : List Column) (row : Row) → has_column attrs c ≡ false → takes_part c attrs (column ∷ columns) row ≡ takes_part (c + 1) attrs columns row
skips c attrs column columns [] out = ap (λ b. not b && takes_part (c + 1) attrs columns []) out
skips c attrs column columns (v ∷ row) out = ap (λ b. if b then takes_kind column.kind column.lo column.hi column.nullable v && takes_part (c + 1) attrs columns row else takes_part (c + 1) attrs columns (v ∷ row)) out

takes-of : (columns : List Column) (c attrs : ℕ) (p : Row) → is_point columns p ≡ true → list_all has_cell_bytes (project_from c attrs p) ≡ true → takes_part c attrs columns (project_from c attrs p) ≡ true
takes-of [] c attrs [] point bytes = refl
takes-of [] c attrs (v ∷ p) point bytes = absurd (cc)
takes-of (column ∷ columns) c attrs [] point bytes = absurd (cc)
takes-of (column ∷ columns) c attrs (v ∷ p) point bytes =
    by (has_column attrs c) refl bytes (takes-of columns (c + 1) attrs p (second_so (in_kind column.kind column.lo column.hi column.nullable v) (is_point columns p) point))
  where
    own : in_kind column.kind column.lo column.hi column.nullable v ≡ true
    own = first_so (in_kind column.kind column.lo column.hi column.nullable v) (is_point columns p) point

    by : (b : Bool) → has_column attrs c ≡ b → list_all has_cell_bytes (if b then v ∷ project_from (c + 1) attrs p else project_from (c + 1) attrs p) ≡ true
        → (list_all has_cell_bytes (project_from (c + 1) attrs p) ≡ true → takes_part (c + 1) attrs columns (project_from (c + 1) attrs p) ≡ true)
        → takes_part c attrs (column ∷ columns) (if b then v ∷ project_from (c + 1) attrs p else project_from (c + 1) attrs p) ≡ true
    by true e h more =
        let rest : Row = project_from (c + 1) attrs p in
        let takes = cell-takes column.kind column.lo column.hi column.nullable v own (first_so (has_cell_bytes v) (list_all has_cell_bytes rest) h) in
        ap (λ b. if b then takes_kind column.kind column.lo column.hi column.nullable v && takes_part (c + 1) attrs columns rest else takes_part (c + 1) attrs columns (v ∷ rest)) e
        ∙ and_from (takes_kind column.kind column.lo column.hi column.nullable v) (takes_part (c + 1) attrs columns rest) takes (more (second_so (has_cell_bytes v) (list_all has_cell_bytes rest) h))
    by false e h more = skips c attrs column columns (project_from (c + 1) attrs p) e ∙ more h

module _ (t : Table) (attrs : ℕ) (rects : List Rect) where
  row-is : (before : List Row) (x : Row) → IsRowIn t.columns attrs rects x → has_row_bytes x ≡ true → is_above (rank attrs t.key) before x ≡ true → is_row t attrs rects before x ≡ true
  row-is before x is bytes above =
      let cells = second_so (is_from_to 1 12 (length x)) (list_all has_cell_bytes x) bytes in
      let part = is.0 in
      let takes : takes_part 0 attrs t.columns x ≡ true =
      subst (λ row. list_all has_cell_bytes row ≡ true → takes_part 0 attrs t.columns row ≡ true) part.2 (takes-of t.columns 0 attrs part.0 part.1) cells in
      and_from (may_row t attrs rects before x) (has_row_bytes x)
      (and_from (takes_part 0 attrs t.columns x) (is_in attrs rects x && is_above (rank attrs t.key) before x) takes (and_from (is_in attrs rects x) (is_above (rank attrs t.key) before x) is.1 above)) bytes

  rows-behind : (before : List Row) (y : Row) (xs : List Row) → ascend (rank attrs t.key) (y ∷ xs) ≡ true → All (IsRowIn t.columns attrs rects) xs → list_all has_row_bytes xs ≡ true
      → each_may (is_row t attrs rects) (before ++ y ∷ []) xs ≡ true
  rows-behind before y [] up each bytes = refl
  rows-behind before y (x ∷ xs) up each bytes =
      let less = first_so (key_lt (rank attrs t.key) y x) (ascend (rank attrs t.key) (x ∷ xs)) up in
      let one = row-is (before ++ y ∷ []) x (All-head (IsRowIn t.columns attrs rects) x xs each) (first_so (has_row_bytes x) (list_all has_row_bytes xs) bytes) (above-end (rank attrs t.key) before y x ∙ less) in
      and_from (is_row t attrs rects (before ++ y ∷ []) x) (each_may (is_row t attrs rects) ((before ++ y ∷ []) ++ x ∷ []) xs) one
      (rows-behind (before ++ y ∷ []) x xs (second_so (key_lt (rank attrs t.key) y x) (ascend (rank attrs t.key) (x ∷ xs)) up) (All-tail (IsRowIn t.columns attrs rects) x xs each)
      (second_so (has_row_bytes x) (list_all has_row_bytes xs) bytes))

  rows-are : (xs : List Row) → ascend (rank attrs t.key) xs ≡ true → All (IsRowIn t.columns attrs rects) xs → list_all has_row_bytes xs ≡ true → each_may (is_row t attrs rects) [] xs ≡ true
  rows-are [] up each bytes = refl
  rows-are (x ∷ xs) up each bytes =
      and_from (is_row t attrs rects [] x) (each_may (is_row t attrs rects) (x ∷ []) xs) (row-is [] x (All-head (IsRowIn t.columns attrs rects) x xs each) (first_so (has_row_bytes x) (list_all has_row_bytes xs) bytes) refl)
      (rows-behind [] x xs up (All-tail (IsRowIn t.columns attrs rects) x xs each) (second_so (has_row_bytes x) (list_all has_row_bytes xs) bytes))

-- ---- parts

-- the rects and rows of the part have a spelling, and the rows are not too many
abbrev pub is_spelled : Kept → Bool
is_spelled k = list_all has_rect_bytes k.rects && (list_all has_row_bytes k.rows && nat_le (length k.rows) 200000)

some-length : (rects : List Rect) → (rects ≡ [] → ⊥) → 1 ≤ length rects
some-length [] some = absurd (some refl)
some-length (r ∷ rects) some = omega arith

module _ (schema : List Table) (tables : list_all is_table schema ≡ true) where
  table-is : (t : ℕ) → t < length schema → is_table (table_at schema t) ≡ true
  table-is t less = go schema t tables less
    where
      go : (ts : List Table) (t : ℕ) → list_all is_table ts ≡ true → t < length ts → is_table (table_at ts t) ≡ true
      go [] t are l = absurd (omega (arith, l))
      go (u ∷ ts) zero are l = first_so (is_table u) (list_all is_table ts) are
      go (u ∷ ts) (suc t) are l = go ts t (second_so (is_table u) (list_all is_table ts) are) (omega (arith, l))

  head-is : (before : List Kept) (k : Kept) → IsOfSchema schema (region_of schema k) → is_behind before (head_of k) ≡ true → is_head schema before k ≡ true
  head-is before k is behind =
      let t : Table = table_at schema k.table in
      let there : nat_lt k.table (length schema) ≡ true = lt-ltb _ _ is.0 in
      let low = own-low t k.attrs is.1.area.own in
      let few = few-columns t (table-is k.table is.0) in
      let most : 2 ^ length t.columns ≤ 2 ^ 12 = pow-le-pow_right {n = 2} (omega arith) {i = length t.columns} {j = 12} few in
      let small : k.attrs ≤ 4095 = omega (arith, low, most) in
      let own : nat_lt k.attrs (2 ^ length t.columns) ≡ true = lt-ltb _ _ low in
      and_from (may_head schema before (head_of k)) (is_from_to 0 4095 k.attrs)
      (and_from (nat_lt k.table (length schema)) (nat_lt k.attrs (2 ^ length t.columns) && (has_column k.attrs t.key && is_behind before (head_of k))) there
      (and_from (nat_lt k.attrs (2 ^ length t.columns)) (has_column k.attrs t.key && is_behind before (head_of k)) own
      (and_from (has_column k.attrs t.key) (is_behind before (head_of k)) is.1.area.has_key behind)))
      (to 0 4095 k.attrs (omega arith) small)

  kept-is : (before : List Kept) (k : Kept) → IsOfSchema schema (region_of schema k) → is_behind before (head_of k) ≡ true → is_spelled k ≡ true
      → count_rects before + length k.rects ≤ 16384 → is_kept schema before k ≡ true
  kept-is before k is behind spelled few =
      let t : Table = table_at schema k.table in
      let many : ℕ = count_rects before in
      let bytes = first_so (list_all has_rect_bytes k.rects) (list_all has_row_bytes k.rows && nat_le (length k.rows) 200000) spelled in
      let more = second_so (list_all has_rect_bytes k.rects) (list_all has_row_bytes k.rows && nat_le (length k.rows) 200000) spelled in
      let row_bytes = first_so (list_all has_row_bytes k.rows) (nat_le (length k.rows) 200000) more in
      let short = second_so (list_all has_row_bytes k.rows) (nat_le (length k.rows) 200000) more in
      let some = some-length k.rects is.1.area.some in
      let rects = rects-are t k.attrs many (tables_first schema k.table tables) [] k.rects refl is.1.area.fit is.1.area.only bytes (λ p point. let le = is.1.area.once p point in omega (arith, le)) (omega (arith, few)) in
      let rows = rows-are t k.attrs k.rects k.rows is.1.ascending is.1.rows row_bytes in
      and_from (is_head schema before k) (are_counted 1 16384 (is_rect t k.attrs many) k.rects && are_counted 0 200000 (is_row t k.attrs k.rects) k.rows) (head-is before k is behind)
      (and_from (are_counted 1 16384 (is_rect t k.attrs many) k.rects) (are_counted 0 200000 (is_row t k.attrs k.rects) k.rows)
      (and_from (is_from_to 1 16384 (length k.rects)) (each_may (is_rect t k.attrs many) [] k.rects) (to 1 16384 (length k.rects) some (omega (arith, few))) rects)
      (and_from (is_from_to 0 200000 (length k.rows)) (each_may (is_row t k.attrs k.rects) [] k.rows) (and_from (nat_le 0 (length k.rows)) (nat_le (length k.rows) 200000) (zero-le (length k.rows)) short) rows))
    where
      zero-le : (n : ℕ) → nat_le 0 n ≡ true
      zero-le n = grind (arith, nat_tests)

  abbrev IsPartOf : Kept → Type 0
  IsPartOf k = IsOfSchema schema (region_of schema k)

  kepts-behind : (before : List Kept) (y : Kept) (kept : List Kept) → ascending (y ∷ kept) ≡ true → All IsPartOf kept → list_all is_spelled kept ≡ true
      → count_rects (before ++ y ∷ []) + count_rects kept ≤ 16384 → each_may (is_kept schema) (before ++ y ∷ []) kept ≡ true
  kepts-behind before y [] up each spelled few = refl
  kepts-behind before y (k ∷ kept) up each spelled few =
      let here : List Kept = before ++ y ∷ [] in
      let less = first_so (is_before (head_of y) (head_of k)) (ascending (k ∷ kept)) up in
      let sum = count-more schema k kept in
      let size = count-end schema here k in
      let one = kept-is here k (All-head IsPartOf k kept each) (behind-end before y k ∙ less) (first_so (is_spelled k) (list_all is_spelled kept) spelled) (omega (arith, sum, few)) in
      and_from (is_kept schema here k) (each_may (is_kept schema) (here ++ k ∷ []) kept) one
      (kepts-behind here k kept (second_so (is_before (head_of y) (head_of k)) (ascending (k ∷ kept)) up) (All-tail IsPartOf k kept each)
      (second_so (is_spelled k) (list_all is_spelled kept) spelled) (omega (arith, sum, size, few)))

  kepts-are : (kept : List Kept) → ascending kept ≡ true → All IsPartOf kept → list_all is_spelled kept ≡ true → count_rects kept ≤ 16384 → each_may (is_kept schema) [] kept ≡ true
  kepts-are [] up each spelled few = refl
  kepts-are (k ∷ kept) up each spelled few =
      let sum = count-more schema k kept in
      let one = kept-is [] k (All-head IsPartOf k kept each) refl (first_so (is_spelled k) (list_all is_spelled kept) spelled) (omega (arith, sum, few)) in
      let size = count-more schema k [] in
      and_from (is_kept schema [] k) (each_may (is_kept schema) (k ∷ []) kept) one
      (kepts-behind [] k kept up (All-tail IsPartOf k kept each) (second_so (is_spelled k) (list_all is_spelled kept) spelled) (omega (arith, sum, size, few)))

  pub whole-image : (version : ℕ) (kept : List Kept) → AreLawful schema kept → list_all is_spelled kept ≡ true → version < 2 ^ 64 → length kept ≤ 1024
      → IsTrue (is_image schema (record { version = version; kept = kept }))
  whole-image version kept l spelled low few =
      let same = same-count schema kept in
      let rects = l.few in
      and_from (nat_lt version (2 ^ 64)) (are_counted 0 1024 (is_kept schema) kept) (lt-ltb _ _ low)
      (and_from (is_from_to 0 1024 (length kept)) (each_may (is_kept schema) [] kept) (to 0 1024 (length kept) (omega arith) few) (kepts-are kept l.order l.each spelled (omega (arith, same, rects))))
