-- The parts of an image are lawful: a store may start from them.
use Rattle.std.proofs.Common.{◌≡◌, ℕ, zero, suc, ◌+◌, ◌/◌, ◌%◌, ◌^◌, ◌<◌, ◌≤◌, Bool, true, false, cond, List, [], ◌∷◌, ◌++◌, append_assoc, length, refl, sym, ap, subst, ◌∙◌, arith, inl, inr}
use Rattle.std.specs.Prelude.{IsTrue, not, ◌&&◌, ◌||◌, ◌==◌, ◌⊎◌, nat_lt, nat_le, map, if◌then◌else◌}
use Rattle.std.specs.List.{list_all, list_any, All}
use Rattle.std.specs.Option.{is_some}
use Rattle.std.specs.Str.{is_utf8, all_scalars}
use Rattle.std.specs.Char.{IsScalar}
use Rattle.std.specs.Cmp.{first_so, second_so}
use Rattle.std.proofs.Math.Nat.{div-eq_of_lt}
use Rattle.std.proofs.Math.Pow.{pow_mono}
use Rattle.std.proofs.Math.Utf8.{encode as encode_utf8, encodes as encode_utf8_all}
use Rattle.std.proofs.lemmas.Bool.{and_from, cases_Bool, cases_lt, ltb-true}
use Rattle.std.proofs.lemmas.Bool.Decides.{nat_tests}
use Rattle.std.proofs.lemmas.List.Elements.{All-nil, All-cons}
use Rattle.std.proofs.lemmas.List.Folds.{list_all-append, list_any-append}
use Rattle.std.proofs.lemmas.List.Sums.{sum_by-cons}
use Rattle.std.proofs.lemmas.Str.{IsUtf8-from_is_utf8}
use Rattle.sr_cell.specs.declared.cell.Cell.{Cell}
use Rattle.sr_cell.specs.declared.cell.Cell.TheVariants.{Num, Str, Null}
use Rattle.sr_cell.specs.declared.table.Column.{Column}
use Rattle.sr_cell.specs.declared.table.Kind.{Kind}
use Rattle.sr_cell.specs.declared.table.Kind.TheVariants.{Num as Numbers, Str as Texts}
use Rattle.sr_cell.specs.declared.table.Table.{Table}
use Rattle.sr_cell.specs.Attrs.{has_column, project_from}
use Rattle.sr_cell.specs.Cells.{Row}
use Rattle.sr_cell.specs.Columns.{are_bytes, in_kind, is_point, takes_kind, table_at}
use Rattle.sr_model.specs.SortedRows.{ascend, key_lt}
use Rattle.sr_box.specs.Corners.{first_value, have_first}
use Rattle.sr_box.specs.Cut.{rect_meet}
use Rattle.sr_box.specs.Points.{Rect, in_rect, in_any, times, rect_fits, constrains_only}
use Rattle.sr_box.proofs.Meets.{rect_meet-apart}
use Rattle.sr_query.specs.Bound.{is_table}
use Rattle.sr_region.specs.Regions.{rank, is_in, IsPart, IsRowIn, IsArea, IsRegion}
use Rattle.sr_bytes.specs.Spelling.{is_from_to, has_cell_bytes, has_row_bytes, has_rect_bytes}
use Rattle.sr_store.specs.declared.start.Kept.{Kept}
use Rattle.sr_store.specs.Stores.{IsOfSchema}
use Rattle.sr_store.specs.Stores as stores
use Rattle.sr_store.specs.Starting.{region_of, regions_of, ascending, AreLawful}
use Rattle.sr_store.proofs.Tables.{tables_first}
use Rattle.sr_image.specs.declared.image.Image.{Image}
use Rattle.sr_image.specs.Reading.{is_lone, meets_some, may_rect, may_row, may_head, takes_part, is_above, is_before, is_behind, head_of, count_rects}
use Rattle.sr_image.specs.Laws.{each_may, are_counted, is_rect, is_row, is_head, is_kept, is_image}

-- ---- texts are bytes

small-byte : (n : ℕ) → n < 256 → nat_lt n 256 ≡ true
small-byte n l = grind (arith, nat_tests, l)

scalar-low : (c : ℕ) → IsScalar c → c < 1114112
scalar-low c s = grind (arith, nat_tests, s)

encode-bytes : (c : ℕ) → IsScalar c → are_bytes (encode_utf8 c) ≡ true
unfolding encode_utf8
encode-bytes c s = go (nat_lt c 128) (nat_lt c 2048) (nat_lt c 65536) refl refl refl
  where
    low : (m : ℕ) → nat_lt (128 + m % 64) 256 ≡ true
    low m = small-byte (128 + m % 64) (omega arith)

    less : (m : ℕ) → nat_lt c m ≡ true → c < m
    less m e = ltb-true c m e

    go : (x y z : Bool) → nat_lt c 128 ≡ x → nat_lt c 2048 ≡ y → nat_lt c 65536 ≡ z
        → are_bytes (cond x (c ∷ []) (cond y ((192 + c / 64) ∷ (128 + c % 64) ∷ []) (cond z ((224 + c / 4096) ∷ (128 + (c / 64) % 64) ∷ (128 + c % 64) ∷ []) ((240 + c / 262144) ∷ (128 + (c / 4096) % 64) ∷ (128 + (c / 64) % 64) ∷ (128 + c % 64) ∷ [])))) ≡ true
    go true y z ex ey ez = let l = less 128 ex in let a = small-byte c (omega (arith, l)) in rw a refl
    go false true z ex ey ez = let l = less 2048 ey in let a = small-byte (192 + c / 64) (omega (arith, l)) in let b = low c in rw (a, b) refl
    go false false true ex ey ez =
        let l = less 65536 ez in let a = small-byte (224 + c / 4096) (omega (arith, l)) in let b = low (c / 64) in let d = low c in rw (a, b, d) refl
    go false false false ex ey ez =
        let l = scalar-low c s in let a = small-byte (240 + c / 262144) (omega (arith, l)) in
        let b = low (c / 4096) in let d = low (c / 64) in let e = low c in rw (a, b, d, e) refl

all-bytes : (cs : List ℕ) → all_scalars cs ≡ true → are_bytes (encode_utf8_all cs) ≡ true
all-bytes [] h = refl
all-bytes (c ∷ cs) h =
    let one = encode-bytes c (grind arith) in
    let more = all-bytes cs (grind arith) in
    list_all-append (λ b. nat_lt b 256) (encode_utf8 c) (encode_utf8_all cs) ∙ rw (one, more) refl

text-bytes : (text : List ℕ) → is_utf8 text ≡ true → are_bytes text ≡ true
text-bytes text h = let u = IsUtf8-from_is_utf8 text h in subst (λ t. are_bytes t ≡ true) u.1.1 (all-bytes u.0 u.1.0)

-- ---- columns

below-columns : (attrs n c : ℕ) → attrs < 2 ^ n → has_column attrs c ≡ true → c < n
below-columns attrs n c low has = by (cases_lt c n)
  where
    by : (c < n) ⊎ (n ≤ c) → c < n
    by (inl less) = less
    by (inr beyond) =
        let more : 2 ^ n ≤ 2 ^ c = pow_mono beyond in
        let none : attrs / 2 ^ c ≡ 0 = div-eq_of_lt (omega (arith, low, more)) in
        absurd (let wrong : (0 % 2 == 1) ≡ true = subst (λ m. (m % 2 == 1) ≡ true) none has in cc)

-- ---- rects

meets-none : (before : List Rect) (r : Rect) (p : Row) → meets_some before r ≡ false → in_any before p ≡ true → in_rect r p ≡ true → false ≡ true
meets-none [] r p none there own = there
meets-none (q ∷ before) r p none there own =
    by (cases_Bool (in_rect q p)) (meets-none before r p (grind (arith, none)))
  where
    by : (in_rect q p ≡ true) ⊎ (in_rect q p ≡ false) → (in_any before p ≡ true → in_rect r p ≡ true → false ≡ true) → false ≡ true
    by (inl here) later = let apart = rect_meet-apart r q p (grind (arith, none)) in cc (apart, here, own)
    by (inr other) later = later (grind (arith, there, other)) own

module _ (t : Table) (attrs many : ℕ) where
  -- a point in those before is in none of these, and is in at most one of these
  once-behind : (before xs : List Rect) (p : Row) → each_may (is_rect t attrs many) before xs ≡ true → (in_any before p ≡ true → times xs p ≡ 0) × (times xs p ≤ 1)
  once-behind before [] p h = ((λ there. refl), omega arith)
  once-behind before (x ∷ xs) p h =
      by (cases_Bool (in_rect x p)) (once-behind (before ++ x ∷ []) xs p (second_so (is_rect t attrs many before x) (each_may (is_rect t attrs many) (before ++ x ∷ []) xs) h))
    where
      alone : meets_some before x ≡ false
      alone =
          let is = first_so (is_rect t attrs many before x) (each_may (is_rect t attrs many) (before ++ x ∷ []) xs) h in
          let may = first_so (may_rect t attrs many before x) (has_rect_bytes x) is in
          let none = second_so (is_lone t attrs many (length before) x) (not (meets_some before x)) may in
          grind (arith, none)

      joined : in_any (before ++ x ∷ []) p ≡ (in_any before p || (in_rect x p || false))
      joined = list_any-append (λ r. in_rect r p) before (x ∷ [])

      by : (in_rect x p ≡ true) ⊎ (in_rect x p ≡ false) → (in_any (before ++ x ∷ []) p ≡ true → times xs p ≡ 0) × (times xs p ≤ 1)
          → (in_any before p ≡ true → (if in_rect x p then 1 else 0) + times xs p ≡ 0) × ((if in_rect x p then 1 else 0) + times xs p ≤ 1)
      by (inl own) (later, few) =
          let none = later (grind (arith, joined, own)) in (
            (λ there. absurd (let wrong = meets-none before x p alone there own in cc)),
            rw own (omega (arith, none)),
          )
      by (inr other) (later, few) = (
        (λ there. let none = later (grind (arith, joined, there)) in rw other (omega (arith, none))),
        rw other (omega (arith, few)),
      )

  lone-of : (before xs : List Rect) → each_may (is_rect t attrs many) before xs ≡ true
      → (list_all (rect_fits t.columns) xs ≡ true) × (list_all (constrains_only attrs 0) xs ≡ true)
  lone-of before [] h = (refl, refl)
  lone-of before (x ∷ xs) h =
      let is = first_so (is_rect t attrs many before x) (each_may (is_rect t attrs many) (before ++ x ∷ []) xs) h in
      let may = first_so (may_rect t attrs many before x) (has_rect_bytes x) is in
      let lone = first_so (is_lone t attrs many (length before) x) (not (meets_some before x)) may in
      let fit = first_so (rect_fits t.columns x) (constrains_only attrs 0 x && nat_lt (many + length before) 16384) lone in
      let rest = second_so (rect_fits t.columns x) (constrains_only attrs 0 x && nat_lt (many + length before) 16384) lone in
      let only = first_so (constrains_only attrs 0 x) (nat_lt (many + length before) 16384) rest in
      let more = lone-of (before ++ x ∷ []) xs (second_so (is_rect t attrs many before x) (each_may (is_rect t attrs many) (before ++ x ∷ []) xs) h) in (
        and_from (rect_fits t.columns x) (list_all (rect_fits t.columns) xs) fit more.0,
        and_from (constrains_only attrs 0 x) (list_all (constrains_only attrs 0) xs) only more.1,
      )

  few-behind : (before xs : List Rect) → each_may (is_rect t attrs many) before xs ≡ true → many + length before ≤ 16384 → many + length before + length xs ≤ 16384
  few-behind before [] h le = omega (arith, le)
  few-behind before (x ∷ xs) h le =
      let is = first_so (is_rect t attrs many before x) (each_may (is_rect t attrs many) (before ++ x ∷ []) xs) h in
      let may = first_so (may_rect t attrs many before x) (has_rect_bytes x) is in
      let lone = first_so (is_lone t attrs many (length before) x) (not (meets_some before x)) may in
      let rest = second_so (rect_fits t.columns x) (constrains_only attrs 0 x && nat_lt (many + length before) 16384) lone in
      let low = ltb-true (many + length before) 16384 (second_so (constrains_only attrs 0 x) (nat_lt (many + length before) 16384) rest) in
      let size : length (before ++ x ∷ []) ≡ length before + 1 = longer before x in
      let more = few-behind (before ++ x ∷ []) xs (second_so (is_rect t attrs many before x) (each_may (is_rect t attrs many) (before ++ x ∷ []) xs) h) (omega (arith, size, low)) in
      omega (arith, size, more)
    where
      longer : (xs : List Rect) (x : Rect) → length (xs ++ x ∷ []) ≡ length xs + 1
      longer [] x = refl
      longer (y ∷ xs) x = let ih = longer xs x in omega (arith, ih)

-- ---- rows

cell-in : (k : Kind) (low high : _) (nullable : Bool) (v : Cell) → takes_kind k low high nullable v ≡ true → has_cell_bytes v ≡ true → in_kind k low high nullable v ≡ true
cell-in Numbers low high nullable (Num n) takes bytes = takes
cell-in Numbers low high nullable (Str s) takes bytes = takes
cell-in Numbers low high nullable Null takes bytes = takes
cell-in Texts low high nullable (Num n) takes bytes = takes
cell-in Texts low high nullable Null takes bytes = takes
cell-in Texts low high nullable (Str s) takes bytes = text-bytes s (second_so (nat_le (length s) 120) (is_utf8 s) bytes)

-- a point with the cells of the columns, and the first value of each other column
abbrev IsPointOf : List Column → ℕ → ℕ → Row → Type 0
IsPointOf columns c attrs row = (p : Row) × (is_point columns p ≡ true) × (project_from c attrs p ≡ row)

point-of : (columns : List Column) (c attrs : ℕ) (row : Row) → have_first columns ≡ true → takes_part c attrs columns row ≡ true → list_all has_cell_bytes row ≡ true → IsPointOf columns c attrs row
point-of [] c attrs [] first takes bytes = ([], refl, refl)
point-of [] c attrs (v ∷ row) first takes bytes = absurd (cc)
point-of (column ∷ columns) c attrs [] first takes bytes =
    by (has_column attrs c) refl takes (point-of columns (c + 1) attrs [] (grind arith))
  where
    least : in_kind column.kind column.lo column.hi column.nullable (first_value column.kind column.lo) ≡ true
    least = grind arith

    by : (b : Bool) → has_column attrs c ≡ b → (not b && takes_part (c + 1) attrs columns []) ≡ true
        → (takes_part (c + 1) attrs columns [] ≡ true → list_all has_cell_bytes [] ≡ true → IsPointOf columns (c + 1) attrs []) → IsPointOf (column ∷ columns) c attrs []
    by true e h later = absurd (cc)
    by false e h later =
        let rest = later h refl in
        let lo = first_value column.kind column.lo in (
          lo ∷ rest.0,
          and_from (in_kind column.kind column.lo column.hi column.nullable lo) (is_point columns rest.0) least rest.1,
          ap (λ b. if b then lo ∷ project_from (c + 1) attrs rest.0 else project_from (c + 1) attrs rest.0) e ∙ rest.2,
        )
point-of (column ∷ columns) c attrs (v ∷ row) first takes bytes =
    by (has_column attrs c) refl takes (point-of columns (c + 1) attrs row (grind arith)) (point-of columns (c + 1) attrs (v ∷ row) (grind arith))
  where
    least : in_kind column.kind column.lo column.hi column.nullable (first_value column.kind column.lo) ≡ true
    least = grind arith

    by : (b : Bool) → has_column attrs c ≡ b
        → (if b then takes_kind column.kind column.lo column.hi column.nullable v && takes_part (c + 1) attrs columns row else takes_part (c + 1) attrs columns (v ∷ row)) ≡ true
        → (takes_part (c + 1) attrs columns row ≡ true → list_all has_cell_bytes row ≡ true → IsPointOf columns (c + 1) attrs row)
        → (takes_part (c + 1) attrs columns (v ∷ row) ≡ true → list_all has_cell_bytes (v ∷ row) ≡ true → IsPointOf columns (c + 1) attrs (v ∷ row)) → IsPointOf (column ∷ columns) c attrs (v ∷ row)
    by true e h own other =
        let takes_v = first_so (takes_kind column.kind column.lo column.hi column.nullable v) (takes_part (c + 1) attrs columns row) h in
        let bytes_v = first_so (has_cell_bytes v) (list_all has_cell_bytes row) bytes in
        let rest = own (second_so (takes_kind column.kind column.lo column.hi column.nullable v) (takes_part (c + 1) attrs columns row) h) (second_so (has_cell_bytes v) (list_all has_cell_bytes row) bytes) in (
          v ∷ rest.0,
          and_from (in_kind column.kind column.lo column.hi column.nullable v) (is_point columns rest.0) (cell-in column.kind column.lo column.hi column.nullable v takes_v bytes_v) rest.1,
          ap (λ b. if b then v ∷ project_from (c + 1) attrs rest.0 else project_from (c + 1) attrs rest.0) e ∙ ap (λ xs. v ∷ xs) rest.2,
        )
    by false e h own other =
        let rest = other h bytes in
        let lo = first_value column.kind column.lo in (
          lo ∷ rest.0,
          and_from (in_kind column.kind column.lo column.hi column.nullable lo) (is_point columns rest.0) least rest.1,
          ap (λ b. if b then lo ∷ project_from (c + 1) attrs rest.0 else project_from (c + 1) attrs rest.0) e ∙ rest.2,
        )

module _ (t : Table) (attrs : ℕ) (rects : List Rect) (first : have_first t.columns ≡ true) where
  rows-in : (before xs : List Row) → each_may (is_row t attrs rects) before xs ≡ true → All (IsRowIn t.columns attrs rects) xs
  rows-in before [] h = All-nil (IsRowIn t.columns attrs rects)
  rows-in before (x ∷ xs) h =
      let is = first_so (is_row t attrs rects before x) (each_may (is_row t attrs rects) (before ++ x ∷ []) xs) h in
      let may = first_so (may_row t attrs rects before x) (has_row_bytes x) is in
      let bytes = second_so (is_from_to 1 12 (length x)) (list_all has_cell_bytes x) (second_so (may_row t attrs rects before x) (has_row_bytes x) is) in
      let takes = first_so (takes_part 0 attrs t.columns x) (is_in attrs rects x && is_above (rank attrs t.key) before x) may in
      let there = first_so (is_in attrs rects x) (is_above (rank attrs t.key) before x) (second_so (takes_part 0 attrs t.columns x) (is_in attrs rects x && is_above (rank attrs t.key) before x) may) in
      All-cons (IsRowIn t.columns attrs rects) x xs (point-of t.columns 0 attrs x first takes bytes, there)
      (rows-in (before ++ x ∷ []) xs (second_so (is_row t attrs rects before x) (each_may (is_row t attrs rects) (before ++ x ∷ []) xs) h))

pub above-end : (key : ℕ) (before : List Row) (y x : Row) → is_above key (before ++ y ∷ []) x ≡ key_lt key y x
above-end key [] y x = refl
above-end key (b ∷ []) y x = refl
above-end key (b ∷ d ∷ before) y x = above-end key (d ∷ before) y x

module _ (t : Table) (attrs : ℕ) (rects : List Rect) where
  ascend-behind : (before : List Row) (y : Row) (xs : List Row) → each_may (is_row t attrs rects) (before ++ y ∷ []) xs ≡ true → ascend (rank attrs t.key) (y ∷ xs) ≡ true
  ascend-behind before y [] h = refl
  ascend-behind before y (x ∷ xs) h =
      let here = before ++ y ∷ [] in
      let is = first_so (is_row t attrs rects here x) (each_may (is_row t attrs rects) (here ++ x ∷ []) xs) h in
      let may = first_so (may_row t attrs rects here x) (has_row_bytes x) is in
      let above = second_so (is_in attrs rects x) (is_above (rank attrs t.key) here x) (second_so (takes_part 0 attrs t.columns x) (is_in attrs rects x && is_above (rank attrs t.key) here x) may) in
      let less : key_lt (rank attrs t.key) y x ≡ true = sym (above-end (rank attrs t.key) before y x) ∙ above in
      and_from (key_lt (rank attrs t.key) y x) (ascend (rank attrs t.key) (x ∷ xs)) less
      (ascend-behind here x xs (second_so (is_row t attrs rects here x) (each_may (is_row t attrs rects) (here ++ x ∷ []) xs) h))

  rows-ascend : (xs : List Row) → each_may (is_row t attrs rects) [] xs ≡ true → ascend (rank attrs t.key) xs ≡ true
  rows-ascend [] h = refl
  rows-ascend (x ∷ xs) h = ascend-behind [] x xs (second_so (is_row t attrs rects [] x) (each_may (is_row t attrs rects) (x ∷ []) xs) h)

-- ---- parts

some-rects : (rects : List Rect) → is_from_to 1 16384 (length rects) ≡ true → rects ≡ [] → ⊥
some-rects [] h none = absurd (cc)
some-rects (r ∷ rects) h none = absurd (cc)

module _ (schema : List Table) (tables : list_all is_table schema ≡ true) where
  kept-of : (before : List Kept) (k : Kept) → is_kept schema before k ≡ true → IsOfSchema schema (region_of schema k)
  kept-of before k h =
      let t : Table = table_at schema k.table in
      let many : ℕ = count_rects before in
      let rects : Bool = are_counted 1 16384 (is_rect t k.attrs many) k.rects in
      let rows : Bool = are_counted 0 200000 (is_row t k.attrs k.rects) k.rows in
      let head = first_so (may_head schema before (head_of k)) (is_from_to 0 4095 k.attrs) (first_so (is_head schema before k) (rects && rows) h) in
      let both = second_so (is_head schema before k) (rects && rows) h in
      let some = first_so (is_from_to 1 16384 (length k.rects)) (each_may (is_rect t k.attrs many) [] k.rects) (first_so rects rows both) in
      let each = second_so (is_from_to 1 16384 (length k.rects)) (each_may (is_rect t k.attrs many) [] k.rects) (first_so rects rows both) in
      let all = second_so (is_from_to 0 200000 (length k.rows)) (each_may (is_row t k.attrs k.rects) [] k.rows) (second_so rects rows both) in
      let behind = second_so (nat_lt k.table (length schema)) (nat_lt k.attrs (2 ^ length t.columns) && (has_column k.attrs t.key && is_behind before (head_of k))) head in
      let own = ltb-true k.attrs (2 ^ length t.columns) (first_so (nat_lt k.attrs (2 ^ length t.columns)) (has_column k.attrs t.key && is_behind before (head_of k)) behind) in
      let lone = lone-of t k.attrs many [] k.rects each in (
        ltb-true k.table (length schema) (first_so (nat_lt k.table (length schema)) (nat_lt k.attrs (2 ^ length t.columns) && (has_column k.attrs t.key && is_behind before (head_of k))) head),
        record {
          area = record {
            key = refl;
            has_key = first_so (has_column k.attrs t.key) (is_behind before (head_of k)) (second_so (nat_lt k.attrs (2 ^ length t.columns)) (has_column k.attrs t.key && is_behind before (head_of k)) behind);
            own = λ c has. below-columns k.attrs (length t.columns) c own has;
            some = some-rects k.rects some;
            fit = lone.0;
            only = lone.1;
            once = λ p point. (once-behind t k.attrs many [] k.rects p each).1;
          };
          rows = rows-in t k.attrs k.rects (tables_first schema k.table tables) [] k.rows all;
          ascending = rows-ascend t k.attrs k.rects k.rows all;
        },
      )

  each-of : (before kept : List Kept) → each_may (is_kept schema) before kept ≡ true → All (λ k. IsOfSchema schema (region_of schema k)) kept
  each-of before [] h = All-nil (λ k. IsOfSchema schema (region_of schema k))
  each-of before (k ∷ kept) h =
      All-cons (λ k. IsOfSchema schema (region_of schema k)) k kept (kept-of before k (first_so (is_kept schema before k) (each_may (is_kept schema) (before ++ k ∷ []) kept) h))
      (each-of (before ++ k ∷ []) kept (second_so (is_kept schema before k) (each_may (is_kept schema) (before ++ k ∷ []) kept) h))

pub behind-end : (before : List Kept) (y x : Kept) → is_behind (before ++ y ∷ []) (head_of x) ≡ is_before (head_of y) (head_of x)
behind-end [] y x = refl
behind-end (b ∷ []) y x = refl
behind-end (b ∷ d ∷ before) y x = behind-end (d ∷ before) y x

module _ (schema : List Table) where
  behind-of : (before : List Kept) (k : Kept) → is_kept schema before k ≡ true → is_behind before (head_of k) ≡ true
  behind-of before k h =
      let t : Table = table_at schema k.table in
      let items : Bool = are_counted 1 16384 (is_rect t k.attrs (count_rects before)) k.rects && are_counted 0 200000 (is_row t k.attrs k.rects) k.rows in
      let head = first_so (may_head schema before (head_of k)) (is_from_to 0 4095 k.attrs) (first_so (is_head schema before k) items h) in
      let behind = second_so (nat_lt k.table (length schema)) (nat_lt k.attrs (2 ^ length t.columns) && (has_column k.attrs t.key && is_behind before (head_of k))) head in
      second_so (has_column k.attrs t.key) (is_behind before (head_of k)) (second_so (nat_lt k.attrs (2 ^ length t.columns)) (has_column k.attrs t.key && is_behind before (head_of k)) behind)

  ascending-behind : (before : List Kept) (y : Kept) (kept : List Kept) → each_may (is_kept schema) (before ++ y ∷ []) kept ≡ true → ascending (y ∷ kept) ≡ true
  ascending-behind before y [] h = refl
  ascending-behind before y (x ∷ kept) h =
      let here = before ++ y ∷ [] in
      let is = first_so (is_kept schema here x) (each_may (is_kept schema) (here ++ x ∷ []) kept) h in
      let less : is_before (head_of y) (head_of x) ≡ true = sym (behind-end before y x) ∙ behind-of here x is in
      and_from (is_before (head_of y) (head_of x)) (ascending (x ∷ kept)) less
      (ascending-behind here x kept (second_so (is_kept schema here x) (each_may (is_kept schema) (here ++ x ∷ []) kept) h))

  parts-ascend : (kept : List Kept) → each_may (is_kept schema) [] kept ≡ true → ascending kept ≡ true
  parts-ascend [] h = refl
  parts-ascend (k ∷ kept) h = ascending-behind [] k kept (second_so (is_kept schema [] k) (each_may (is_kept schema) (k ∷ []) kept) h)

  pub count-more : (k : Kept) (kept : List Kept) → count_rects (k ∷ kept) ≡ length k.rects + count_rects kept
  count-more k kept = sum_by-cons (λ (k : Kept). length k.rects) k kept

  pub count-end : (before : List Kept) (k : Kept) → count_rects (before ++ k ∷ []) ≡ count_rects before + length k.rects
  count-end [] k = let e = count-more k [] in omega (arith, e)
  count-end (b ∷ before) k =
      let ih = count-end before k in
      let one = count-more b (before ++ k ∷ []) in
      let two = count-more b before in
      omega (arith, ih, one, two)

  few-parts : (before kept : List Kept) → each_may (is_kept schema) before kept ≡ true → count_rects before ≤ 16384 → count_rects before + count_rects kept ≤ 16384
  few-parts before [] h le = omega (arith, le)
  few-parts before (k ∷ kept) h le =
      let t : Table = table_at schema k.table in
      let many : ℕ = count_rects before in
      let rects : Bool = are_counted 1 16384 (is_rect t k.attrs many) k.rects in
      let rows : Bool = are_counted 0 200000 (is_row t k.attrs k.rects) k.rows in
      let is = first_so (is_kept schema before k) (each_may (is_kept schema) (before ++ k ∷ []) kept) h in
      let each = second_so (is_from_to 1 16384 (length k.rects)) (each_may (is_rect t k.attrs many) [] k.rects) (first_so rects rows (second_so (is_head schema before k) (rects && rows) is)) in
      let own = few-behind t k.attrs many [] k.rects each (omega (arith, le)) in
      let size = count-end before k in
      let more = few-parts (before ++ k ∷ []) kept (second_so (is_kept schema before k) (each_may (is_kept schema) (before ++ k ∷ []) kept) h) (omega (arith, size, own)) in
      let sum = count-more k kept in
      omega (arith, size, more, sum)

  pub same-count : (kept : List Kept) → stores.count_rects (regions_of schema kept) ≡ count_rects kept
  same-count [] = refl
  same-count (k ∷ kept) =
      let ih = same-count kept in
      let one = sum_by-cons (λ (g : _). length g.rects) (region_of schema k) (regions_of schema kept) in
      let two = count-more k kept in
      one ∙ ap (λ n. length k.rects + n) ih ∙ sym two

pub image-lawful : (schema : List Table) (image : Image) → IsTrue (list_all is_table schema) → IsTrue (is_image schema image) → AreLawful schema image.kept
image-lawful schema image tables h =
    let parts = second_so (nat_lt image.version (2 ^ 64)) (are_counted 0 1024 (is_kept schema) image.kept) h in
    let all = second_so (is_from_to 0 1024 (length image.kept)) (each_may (is_kept schema) [] image.kept) parts in
    let few = few-parts schema [] image.kept all (omega arith) in
    let same = same-count schema image.kept in
    record {
      each = each-of schema tables [] image.kept all;
      order = parts-ascend schema image.kept all;
      few = omega (arith, few, same);
    }
