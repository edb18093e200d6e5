-- What is an image may be written.
use Rattle.std.proofs.Common.{◌≡◌, ℕ, Bool, true, false, List, [], ◌∷◌, ◌++◌, Some, None, length, refl, sym, ap, ◌∙◌, arith}
use Rattle.std.specs.Prelude.{IsTrue, ◌&&◌, int_le, not, nat_le, nat_lt, ◌^◌}
use Rattle.std.specs.List.{list_all}
use Rattle.std.specs.Str.{is_utf8}
use Rattle.std.specs.Cmp.{first_so, second_so}
use Rattle.std.proofs.lemmas.Bool.{and_from}
use Rattle.sr_cell.specs.declared.cell.Cell.{Cell}
use Rattle.sr_cell.specs.declared.cell.Cell.TheVariants.{Num, Str, Null as NullCell}
use Rattle.sr_cell.specs.declared.table.Table.{Table}
use Rattle.sr_cell.specs.Cells.{Row, text_le}
use Rattle.sr_cell.specs.Columns.{are_bytes, table_at}
use Rattle.sr_box.specs.declared.span.Span.{Span}
use Rattle.sr_box.specs.declared.span.Span.TheVariants.{Full, Nums, Strs, Null}
use Rattle.sr_box.specs.Points.{Rect}
use Rattle.sr_bytes.specs.Spelling.{is_from_to, is_number, is_bound, has_cell_bytes, has_row_bytes, has_span_bytes, has_rect_bytes}
use Rattle.sr_bytes.specs.Writing.{may_write_cell, may_write_row, may_write_span, may_write_rect}
use Rattle.sr_bytes.proofs.Numbers.{to_zero}
use Rattle.sr_image.specs.declared.image.Image.{Image}
use Rattle.sr_store.specs.declared.start.Kept.{Kept}
use Rattle.sr_image.specs.Laws.{each_may, are_counted, is_rect, is_row, is_head, is_kept, is_image}
use Rattle.sr_image.specs.Reading.{count_rects, may_rect, may_row}
use Rattle.sr_image.specs.Writing.{may_write_image, may_write_kept}

-- what each passes where it stands, each passes
alone : {A : Type 0} (is : List A → A → Bool) (test : A → Bool) → ((before : List A) (x : A) → IsTrue (is before x) → IsTrue (test x)) → (before xs : List A) → IsTrue (each_may is before xs) → IsTrue (list_all test xs)
alone is test so before [] h = refl
alone is test so before (x ∷ xs) h =
    let here = first_so (is before x) (each_may is (before ++ x ∷ []) xs) h in
    let others = second_so (is before x) (each_may is (before ++ x ∷ []) xs) h in
    and_from (test x) (list_all test xs) (so before x here) (alone is test so (before ++ x ∷ []) xs others)

all-so : {A : Type 0} (one two : A → Bool) → ((x : A) → IsTrue (one x) → IsTrue (two x)) → (xs : List A) → IsTrue (list_all one xs) → IsTrue (list_all two xs)
all-so one two so [] h = refl
all-so one two so (x ∷ xs) h = and_from (two x) (list_all two xs) (so x (first_so (one x) (list_all one xs) h)) (all-so one two so xs (second_so (one x) (list_all one xs) h))

cell-so : (v : Cell) → IsTrue (has_cell_bytes v) → IsTrue (may_write_cell v)
cell-so (Num n) h = refl
cell-so (Str text) h = first_so (nat_le (length text) 120) (is_utf8 text) h
cell-so NullCell h = refl

row-so : (row : Row) → IsTrue (has_row_bytes row) → IsTrue (may_write_row row)
row-so row h =
    let count = first_so (is_from_to 1 12 (length row)) (list_all has_cell_bytes row) h in
    and_from (is_from_to 1 12 (length row)) (list_all may_write_cell row) count (all-so has_cell_bytes may_write_cell cell-so row (second_so (is_from_to 1 12 (length row)) (list_all has_cell_bytes row) h))

bound-so : (text : List ℕ) → IsTrue (is_bound text) → IsTrue (nat_le (length text) 121)
bound-so text h = first_so (nat_le (length text) 121) (are_bytes text) h

span-so : (s : Span) → IsTrue (has_span_bytes s) → IsTrue (may_write_span s)
span-so Full h = refl
span-so (Nums lo hi) h = second_so (is_number lo && is_number hi) (int_le lo hi) h
span-so (Strs lo (Some hi)) h =
    let ends = first_so (is_bound lo && is_bound hi) (not (text_le hi lo)) h in
    let above = second_so (is_bound lo && is_bound hi) (not (text_le hi lo)) h in
    and_from (nat_le (length lo) 121 && nat_le (length hi) 121) (not (text_le hi lo))
    (and_from (nat_le (length lo) 121) (nat_le (length hi) 121) (bound-so lo (first_so (is_bound lo) (is_bound hi) ends)) (bound-so hi (second_so (is_bound lo) (is_bound hi) ends))) above
span-so (Strs lo None) h = bound-so lo h
span-so Null h = refl

rect-so : (r : Rect) → IsTrue (has_rect_bytes r) → IsTrue (may_write_rect r)
rect-so r h =
    let count = first_so (is_from_to 1 12 (length r)) (list_all has_span_bytes r) h in
    and_from (is_from_to 1 12 (length r)) (list_all may_write_span r) count (all-so has_span_bytes may_write_span span-so r (second_so (is_from_to 1 12 (length r)) (list_all has_span_bytes r) h))

kept-so : (schema : List Table) (before : List Kept) (k : Kept) → IsTrue (is_kept schema before k) → IsTrue (may_write_kept k)
kept-so schema before k h =
    let t : Table = table_at schema k.table in
    let many : ℕ = count_rects before in
    let rects : Bool = are_counted 1 16384 (is_rect t k.attrs many) k.rects in
    let rows : Bool = are_counted 0 200000 (is_row t k.attrs k.rects) k.rows in
    let both = second_so (is_head schema before k) (rects && rows) h in
    let a = first_so rects rows both in
    let b = second_so rects rows both in
    let some = first_so (is_from_to 1 16384 (length k.rects)) (each_may (is_rect t k.attrs many) [] k.rects) a in
    let each = second_so (is_from_to 1 16384 (length k.rects)) (each_may (is_rect t k.attrs many) [] k.rects) a in
    let few = first_so (is_from_to 0 200000 (length k.rows)) (each_may (is_row t k.attrs k.rects) [] k.rows) b in
    let all = second_so (is_from_to 0 200000 (length k.rows)) (each_may (is_row t k.attrs k.rects) [] k.rows) b in
    and_from (is_from_to 1 16384 (length k.rects) && list_all may_write_rect k.rects) (nat_le (length k.rows) 200000 && list_all may_write_row k.rows)
    (and_from (is_from_to 1 16384 (length k.rects)) (list_all may_write_rect k.rects) some (alone (is_rect t k.attrs many) may_write_rect (λ before r h. rect-so r (second_so (may_rect t k.attrs many before r) (has_rect_bytes r) h)) [] k.rects each))
    (and_from (nat_le (length k.rows) 200000) (list_all may_write_row k.rows) (to_zero 200000 (length k.rows) few) (alone (is_row t k.attrs k.rects) may_write_row (λ before r h. row-so r (second_so (may_row t k.attrs k.rects before r) (has_row_bytes r) h)) [] k.rows all))

pub may-be-written : (schema : List Table) (image : Image) → IsTrue (is_image schema image) → IsTrue (may_write_image image)
may-be-written schema image h =
    let parts = second_so (nat_lt image.version (2 ^ 64)) (are_counted 0 1024 (is_kept schema) image.kept) h in
    let few = first_so (is_from_to 0 1024 (length image.kept)) (each_may (is_kept schema) [] image.kept) parts in
    let all = second_so (is_from_to 0 1024 (length image.kept)) (each_may (is_kept schema) [] image.kept) parts in
    and_from (nat_le (length image.kept) 1024) (list_all may_write_kept image.kept) (to_zero 1024 (length image.kept) few) (alone (is_kept schema) may_write_kept (kept-so schema) [] image.kept all)
