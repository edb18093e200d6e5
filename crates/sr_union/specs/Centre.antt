-- The centre of a set of points: for each column the sum of both ends of its hull.
use Rattle.std.specs.Prelude.{ℕ, ℤ, pos, ◌+ℤ◌, int_le, ◌+◌, ◌*◌, List, [], ◌∷◌, ◌≡◌, map, Option, Some, None, if◌then◌else◌, IsTrue}
use Rattle.std.specs.List.{list_all}
use Rattle.sr_cell.specs.declared.table.Kind.{Kind}
use Rattle.sr_cell.specs.declared.table.Kind.TheVariants.{Num as Numbers, Str as Texts}
use Rattle.sr_cell.specs.declared.table.Column.{Column}
use Rattle.sr_box.specs.declared.span.Span.{Span}
use Rattle.sr_box.specs.declared.span.Span.TheVariants.{Full, Nums, Strs, Null}
use Rattle.sr_box.specs.Points.{Rect, in_any, rect_fits, AreSame}
use Rattle.sr_box.specs.Corners.{first_span, other_spans, have_first}
use Rattle.sr_union.specs.Free.{span_at}

-- the number of the first so many bytes, filled with zeros
abbrev pub bytes_1 : List ℕ → ℕ
bytes_1 [] = 0
bytes_1 (b ∷ s) = b

abbrev pub bytes_2 : List ℕ → ℕ
bytes_2 [] = 0
bytes_2 (b ∷ s) = b * 256 + bytes_1 s

abbrev pub bytes_3 : List ℕ → ℕ
bytes_3 [] = 0
bytes_3 (b ∷ s) = b * 65536 + bytes_2 s

-- a text counts as its first four bytes
abbrev pub first_bytes : List ℕ → ℕ
first_bytes [] = 0
first_bytes (b ∷ s) = b * 16777216 + bytes_3 s

abbrev pub low_of : Kind → ℤ → Span → ℤ
low_of Numbers low Full = low
low_of Numbers low (Nums lo hi) = lo
low_of Numbers low (Strs lo hi) = low
low_of Texts low Full = pos 0
low_of Texts low (Nums lo hi) = pos 0
low_of Texts low (Strs lo hi) = pos (first_bytes lo)
low_of Numbers low Null = low
low_of Texts low Null = pos 0

-- an upper end that is not there counts as 2^32
abbrev pub high_text : Option (List ℕ) → ℤ
high_text None = pos 4294967296
high_text (Some hi) = pos (first_bytes hi)

-- Null alone counts as the first number, or as 0
abbrev pub high_of : Kind → ℤ → ℤ → Span → ℤ
high_of Numbers low high Full = high
high_of Numbers low high (Nums lo hi) = hi
high_of Numbers low high (Strs lo hi) = high
high_of Numbers low high Null = low
high_of Texts low high Full = pos 4294967296
high_of Texts low high (Nums lo hi) = pos 4294967296
high_of Texts low high (Strs lo hi) = high_text hi
high_of Texts low high Null = pos 0

abbrev pub least : ℤ → List ℤ → ℤ
least x [] = x
least x (y ∷ ys) = least (if int_le x y then x else y) ys

abbrev pub greatest : ℤ → List ℤ → ℤ
greatest x [] = x
greatest x (y ∷ ys) = greatest (if int_le x y then y else x) ys

-- of the first column
abbrev pub middle : Column → Rect → List Rect → ℤ
middle c r rects =
    least (low_of c.kind c.lo (first_span r)) (map (λ q. low_of c.kind c.lo (first_span q)) rects)
    +ℤ greatest (high_of c.kind c.lo c.hi (first_span r)) (map (λ q. high_of c.kind c.lo c.hi (first_span q)) rects)

abbrev pub centre_from : List Column → Rect → List Rect → List ℤ
centre_from [] r rects = []
centre_from (c ∷ cs) r rects = middle c r rects ∷ centre_from cs (other_spans r) (map other_spans rects)

-- the centre of some rects; no rects have none
abbrev pub centre_of : List Column → List Rect → Option (List ℤ)
centre_of columns [] = None
centre_of columns (r ∷ rects) = Some (centre_from columns r rects)

-- the ends of the hull in the k-th column
abbrev pub least_low : Column → ℕ → Rect → List Rect → ℤ
least_low c k r rects = least (low_of c.kind c.lo (span_at k r)) (map (λ q. low_of c.kind c.lo (span_at k q)) rects)

abbrev pub greatest_high : Column → ℕ → Rect → List Rect → ℤ
greatest_high c k r rects = greatest (high_of c.kind c.lo c.hi (span_at k r)) (map (λ q. high_of c.kind c.lo c.hi (span_at k q)) rects)

abbrev pub middle_at : Column → ℕ → Rect → List Rect → ℤ
middle_at c k r rects = least_low c k r rects +ℤ greatest_high c k r rects

-- two lists of rects with the same points have one centre, where each column has a value
abbrev pub SameCentre : Type 0
SameCentre = (columns : List Column) (a b : List Rect) → IsTrue (have_first columns) → IsTrue (list_all (rect_fits columns) a)
    → IsTrue (list_all (rect_fits columns) b)
    → AreSame columns (in_any a) (in_any b) → centre_of columns a ≡ centre_of columns b
