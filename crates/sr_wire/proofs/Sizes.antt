-- A message of few rects is short enough to be sent.
use Rattle.std.proofs.Common.{◌≡◌, ℕ, ℤ, ◌+◌, ◌*◌, ◌≤◌, Bool, true, false, List, [], ◌∷◌, ◌++◌, length, Option, Some, None, refl, ap, ◌∙◌, arith}
use Rattle.std.specs.Prelude.{◌&&◌, ◌==◌, nat_le, not, if◌then◌else◌}
use Rattle.std.specs.List.{flat_map, list_all, sum_by}
use Rattle.std.proofs.Math.Nat.{suc-mul, add-mul}
use Rattle.std.proofs.lemmas.Bool.{and_parts, leb-true}
use Rattle.std.proofs.lemmas.List.{length-append}
use Rattle.std.proofs.lemmas.List.Concat.{flat_map-cons}
use Rattle.std.proofs.lemmas.List.Sums.{sum_by-cons}
use Rattle.sr_cell.specs.declared.cell.Cell.{Cell}
use Rattle.sr_cell.specs.declared.cell.Cell.TheVariants.{Num, Str, Null as NullCell}
use Rattle.sr_cell.specs.Cells.{Row, is_null}
use Rattle.sr_box.specs.declared.span.Span.{Span}
use Rattle.sr_box.specs.declared.span.Span.TheVariants.{Full, Nums, Strs, Null}
use Rattle.sr_box.specs.Points.{Rect}
use Rattle.sr_message.specs.declared.message.Message.{Message}
use Rattle.sr_message.specs.declared.message.Message.TheVariants.{Hello, Resume, Ask, Write, Welcome, Notice, Rows, Reply, Written, Refused, Lapse}
use Rattle.sr_message.specs.declared.message.Holding.{Holding}
use Rattle.sr_message.specs.declared.message.AskPart.{AskPart}
use Rattle.sr_message.specs.declared.message.Tell.{Tell}
use Rattle.sr_bytes.specs.Spelling.{number_bytes, long_bytes, count_bytes, short_count_bytes, text_bytes, cell_bytes, row_bytes, rows_bytes, span_bytes, rect_bytes, rects_bytes, is_from_to}
use Rattle.sr_bytes.specs.Writing.{may_write_cell, may_write_key, may_write_row, may_write_rows, may_write_span, may_write_rect, may_write_rects}
use Rattle.sr_wire.specs.Spelling.{is_client, flag_bytes, fault_bytes, has_held_attrs, held_attrs_bytes, holding_bytes, part_bytes, after_bytes, tell_bytes, body_of, most_bytes}
use Rattle.sr_wire.specs.Limits.{may_write_holding, may_write_part, may_write_after, may_write_tell, may_write, count_held, has_few_rects, FewAreSendable}
use Rattle.sr_wire.proofs.Frames.{count_length}

-- ---- numbers

number_length : (n : ℤ) → length (number_bytes n) ≡ 8
unfolding number_bytes
number_length n = refl

long_length : (n : ℕ) → length (long_bytes n) ≡ 8
unfolding long_bytes
long_length n = refl

short_length : (n : ℕ) → length (short_count_bytes n) ≡ 2
unfolding short_count_bytes
short_length n = refl

up_to : (low high n : ℕ) → is_from_to low high n ≡ true → n ≤ high
up_to low high n h = leb-true n high (and_parts (nat_le low n) (nat_le n high) h).1

-- ---- lists

-- the bytes of a list, each element of which has at most so many, and as many more for each of what it counts
longer : {X : Type 0} (f : X → List ℕ) (p : X → Bool) (g : X → ℕ) (k n : ℕ) → ((x : X) → p x ≡ true → length (f x) ≤ k + g x * n) → (xs : List X) → list_all p xs ≡ true
    → length (flat_map f xs) ≤ length xs * k + sum_by g xs * n
longer f p g k n few [] h = omega arith
longer f p g k n few (x ∷ xs) h =
    let parts = and_parts (p x) (list_all p xs) h in
    let one = few x parts.0 in
    let more = longer f p g k n few xs parts.1 in
    let all : length (flat_map f (x ∷ xs)) ≡ length (f x) + length (flat_map f xs) = ap length (flat_map-cons f x xs) ∙ length-append (f x) (flat_map f xs) in
    let here = suc-mul (length xs) k in
    let sum : sum_by g (x ∷ xs) * n ≡ g x * n + sum_by g xs * n = ap (λ s. s * n) (sum_by-cons g x xs) ∙ add-mul (g x) (sum_by g xs) n in
    omega (arith, one, more, all, here, sum)

-- the same where nothing is counted
long : {X : Type 0} (f : X → List ℕ) (p : X → Bool) (k : ℕ) → ((x : X) → p x ≡ true → length (f x) ≤ k) → (xs : List X) → list_all p xs ≡ true
    → length (flat_map f xs) ≤ length xs * k
long f p k few [] h = omega arith
long f p k few (x ∷ xs) h =
    let parts = and_parts (p x) (list_all p xs) h in
    let one = few x parts.0 in
    let more = long f p k few xs parts.1 in
    let all : length (flat_map f (x ∷ xs)) ≡ length (f x) + length (flat_map f xs) = ap length (flat_map-cons f x xs) ∙ length-append (f x) (flat_map f xs) in
    let here = suc-mul (length xs) k in
    omega (arith, one, more, all, here)

-- ---- rows

cell_length : (cell : Cell) → may_write_cell cell ≡ true → length (cell_bytes cell) ≤ 122
cell_length (Num n) h = omega (arith, number_length n)
cell_length (Str text) h = omega (arith, leb-true (length text) 120 h)
cell_length NullCell h = omega arith

row_length : (row : Row) → may_write_row row ≡ true → length (row_bytes row) ≤ 1465
row_length row h =
    let parts = and_parts (is_from_to 1 12 (length row)) (list_all may_write_cell row) h in
    let few = up_to 1 12 (length row) parts.0 in
    let cells = long cell_bytes may_write_cell 122 cell_length row parts.1 in
    omega (arith, few, cells)

rows_length : (rows : List Row) → may_write_rows rows ≡ true → length (rows_bytes rows) ≤ 375042
rows_length rows h =
    let parts = and_parts (is_from_to 1 256 (length rows)) (list_all may_write_row rows) h in
    let few = up_to 1 256 (length rows) parts.0 in
    let each = long row_bytes may_write_row 1465 row_length rows parts.1 in
    let all = length-append (short_count_bytes (length rows)) (flat_map row_bytes rows) in
    omega (arith, few, each, all, short_length (length rows))

-- ---- rects

span_length : (span : Span) → may_write_span span ≡ true → length (span_bytes span) ≤ 245
span_length Full h = omega arith
span_length (Nums lo hi) h = omega (arith, number_length lo, number_length hi, length-append (number_bytes lo) (number_bytes hi))
span_length (Strs lo (Some hi)) h =
    let parts = and_parts (nat_le (length lo) 121 && nat_le (length hi) 121) _ h in
    let both = and_parts (nat_le (length lo) 121) (nat_le (length hi) 121) parts.0 in
    omega (arith, leb-true (length lo) 121 both.0, leb-true (length hi) 121 both.1, length-append (text_bytes lo) (text_bytes hi))
span_length (Strs lo None) h = omega (arith, leb-true (length lo) 121 h)
span_length Null h = omega arith

rect_length : (rect : Rect) → may_write_rect rect ≡ true → length (rect_bytes rect) ≤ 2941
rect_length rect h =
    let parts = and_parts (is_from_to 1 12 (length rect)) (list_all may_write_span rect) h in
    let few = up_to 1 12 (length rect) parts.0 in
    let spans = long span_bytes may_write_span 245 span_length rect parts.1 in
    omega (arith, few, spans)

rects_length : (rects : List Rect) → may_write_rects rects ≡ true → length (rects_bytes rects) ≤ 4 + length rects * 2941
rects_length rects h =
    let parts = and_parts (is_from_to 1 16384 (length rects)) (list_all may_write_rect rects) h in
    let each = long rect_bytes may_write_rect 2941 rect_length rects parts.1 in
    let all = length-append (count_bytes (length rects)) (flat_map rect_bytes rects) in
    omega (arith, each, all, count_length (length rects))

-- ---- items

held_length : (first : Bool) (attrs : ℕ) → length (if first then [] else short_count_bytes attrs) ≤ 2
held_length true attrs = omega arith
held_length false attrs = omega (arith, short_length attrs)

holding_length : (wire : ℕ) (h : Holding) → may_write_holding wire h ≡ true → length (holding_bytes wire h) ≤ 7 + length h.rects * 2941
holding_length wire h may =
    let more = (and_parts (is_from_to 0 15 h.table) (has_held_attrs wire h.attrs && may_write_rects h.rects) may).1 in
    let rects = rects_length h.rects (and_parts (has_held_attrs wire h.attrs) (may_write_rects h.rects) more).1 in
    let few : length (held_attrs_bytes wire h.attrs) ≤ 2 = held_length (wire == 1) h.attrs in
    let all = length-append (held_attrs_bytes wire h.attrs) (rects_bytes h.rects) in
    omega (arith, rects, few, all)

part_length : (p : AskPart) → may_write_part p ≡ true → length (part_bytes p) ≤ 7 + length p.rects * 2941
part_length p may =
    let rects = rects_length p.rects (and_parts (is_from_to 0 4095 p.attrs) (may_write_rects p.rects) may).1 in
    omega (arith, rects, short_length p.attrs, length-append (short_count_bytes p.attrs) (rects_bytes p.rects))

after_length : (after : Option Row) → may_write_after after ≡ true → length (after_bytes after) ≤ 1466
after_length None h = omega arith
after_length (Some row) h = let bytes = row_length row h in omega (arith, bytes)

tell_length : (t : Tell) → may_write_tell t ≡ true → length (tell_bytes t) ≤ 1589
tell_length t may =
    let parts = and_parts (may_write_key t.key) (may_write_after t.after) may in
    let key = cell_length t.key (and_parts (not (is_null t.key)) (may_write_cell t.key) parts.0).1 in
    let after = after_length t.after parts.1 in
    omega (arith, key, after, length-append (cell_bytes t.key) (after_bytes t.after))

-- ---- messages

flag_length : (b : Bool) → length (flag_bytes b) ≡ 1
flag_length true = refl
flag_length false = refl

size : (m : Message) → may_write m ≡ true → has_few_rects m ≡ true → length (body_of m) ≤ most_bytes
size (Hello wire client number) may few = omega (arith, long_length number)
size (Resume wire client number version holdings) may few =
    let named = (and_parts _ (is_client client && (is_from_to 1 1024 (length holdings) && list_all (may_write_holding wire) holdings)) may).1 in
    let counted = (and_parts (is_client client) (is_from_to 1 1024 (length holdings) && list_all (may_write_holding wire) holdings) named).1 in
    let list = and_parts (is_from_to 1 1024 (length holdings)) (list_all (may_write_holding wire) holdings) counted in
    let count = up_to 1 1024 (length holdings) list.0 in
    let rects = leb-true (count_held holdings) 16384 few in
    let bytes = longer (holding_bytes wire) (may_write_holding wire) (λ h. length h.rects) 7 2941 (holding_length wire) holdings list.1 in
    let behind = flat_map (holding_bytes wire) holdings in
    omega (
      arith,
      count,
      rects,
      bytes,
      long_length number,
      long_length version,
      count_length (length holdings),
      length-append (long_bytes number) (long_bytes version ++ (count_bytes (length holdings) ++ behind)),
      length-append (long_bytes version) (count_bytes (length holdings) ++ behind),
      length-append (count_bytes (length holdings)) behind,
    )
size (Ask number fresh parts) may few =
    let list = and_parts (is_from_to 1 4 (length parts)) (list_all may_write_part parts) may in
    let count = up_to 1 4 (length parts) list.0 in
    let rects = leb-true (sum_by (λ (p : AskPart). length p.rects) parts) 16384 few in
    let bytes = longer part_bytes may_write_part (λ p. length p.rects) 7 2941 part_length parts list.1 in
    let behind = length parts ∷ flat_map part_bytes parts in
    omega (arith, count, rects, bytes, long_length number, flag_length fresh, length-append (long_bytes number) (flag_bytes fresh ++ behind), length-append (flag_bytes fresh) behind)
size (Write number sql) may few =
    let count = up_to 0 65536 (length sql) may in
    omega (arith, count, long_length number, count_length (length sql), length-append (long_bytes number) (count_bytes (length sql) ++ sql), length-append (count_bytes (length sql)) sql)
size (Welcome number version kept) may few =
    omega (arith, long_length number, long_length version, flag_length kept, length-append (long_bytes number) (long_bytes version ++ flag_bytes kept), length-append (long_bytes version) (flag_bytes kept))
size (Notice version told) may few =
    let list = and_parts (is_from_to 0 10000 (length told)) (list_all may_write_tell told) may in
    let count = up_to 0 10000 (length told) list.0 in
    let bytes = long tell_bytes may_write_tell 1589 tell_length told list.1 in
    let behind = flat_map tell_bytes told in
    omega (arith, count, bytes, long_length version, count_length (length told), length-append (long_bytes version) (count_bytes (length told) ++ behind), length-append (count_bytes (length told)) behind)
size (Rows number part rows) may few =
    let bytes = rows_length rows (and_parts (is_from_to 0 3 part) (may_write_rows rows) may).1 in
    omega (arith, bytes, long_length number, length-append (long_bytes number) (part ∷ rows_bytes rows))
size (Reply number version) may few = omega (arith, long_length number, long_length version, length-append (long_bytes number) (long_bytes version))
size (Written number version) may few = omega (arith, long_length number, long_length version, length-append (long_bytes number) (long_bytes version))
size (Refused number fault) may few = omega (arith, long_length number, count_length fault.at, length-append (long_bytes number) (fault_bytes fault))
size (Lapse version) may few = omega (arith, long_length version)

pub few_are_sendable : FewAreSendable
few_are_sendable m may few = record { limits = may; size = size m may few }
