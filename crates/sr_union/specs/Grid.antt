-- Cuts of rects, and the grid that they make.
use Rattle.std.specs.Prelude.{ℕ, ℤ, pos, ◌-ℤ◌, ◌^◌, int_lt, Bool, true, ◌&&◌, ◌+◌, ◌*◌, List, [], ◌∷◌, ◌++◌, ◌≡◌, length, if◌then◌else◌}
use Rattle.std.specs.List.{list_any}
use Rattle.sr_cell.specs.declared.cell.Cell.{Cell}
use Rattle.sr_cell.specs.declared.table.Column.{Column}
use Rattle.sr_cell.specs.declared.table.Kind.{Kind}
use Rattle.sr_cell.specs.declared.table.Kind.TheVariants.{Num as Numbers, Str as Texts}
use Rattle.sr_cell.specs.Cells.{cell_eq}
use Rattle.sr_box.specs.declared.span.Span.{Span}
use Rattle.sr_box.specs.Points.{Rect, rect_fits}
use Rattle.sr_box.specs.Corners.{cuts_of}

abbrev pub is_among : List Cell → Cell → Bool
is_among vs v = list_any (λ u. cell_eq u v) vs

abbrev pub has_cut : Kind → ℤ → ℤ → Bool → Span → Cell → Bool
has_cut k low high nullable s v = is_among (cuts_of k low high nullable s) v

-- the cuts of the first spans
abbrev pub first_cuts : Column → List Rect → List Cell
first_cuts c [] = []
first_cuts c ([] ∷ rects) = first_cuts c rects
first_cuts c ((s ∷ r) ∷ rects) = cuts_of c.kind c.lo c.hi c.nullable s ++ first_cuts c rects

-- the spans behind the first
abbrev pub others : List Rect → List Rect
others [] = []
others ([] ∷ rects) = others rects
others ((s ∷ r) ∷ rects) = r ∷ others rects

-- each value once
abbrev pub distinct : List Cell → List Cell
distinct [] = []
distinct (v ∷ vs) = if is_among vs v then distinct vs else v ∷ distinct vs

-- the product over the columns of one plus the number of their cuts
abbrev pub grid : List Column → List Rect → ℕ
grid [] rects = 1
grid (c ∷ cs) rects = (1 + length (distinct (first_cuts c rects))) * grid cs (others rects)

-- each cut of the rect is one of the rects
abbrev pub CutsAmong : List Column → Rect → List Rect → Type 0
CutsAmong [] r rects = Unit {0}
CutsAmong (c ∷ cs) [] rects = Unit {0}
CutsAmong (c ∷ cs) (s ∷ r) rects =
    ((v : Cell) → has_cut c.kind c.lo c.hi c.nullable s v ≡ true → is_among (first_cuts c rects) v ≡ true) × CutsAmong cs r (others rects)

-- rects that fit the columns, with cuts among those of the given ones
abbrev pub AreCutFrom : List Column → List Rect → List Rect → Type 0
AreCutFrom cs given [] = Unit {0}
AreCutFrom cs given (r ∷ rects) = (rect_fits cs r ≡ true) × CutsAmong cs r given × AreCutFrom cs given rects

-- a domain of numbers lies far inside an i64
abbrev pub is_inner_kind : Kind → ℤ → ℤ → Bool
is_inner_kind Numbers low high = int_lt (pos 0 -ℤ pos (2 ^ 62)) low && int_lt high (pos (2 ^ 62))
is_inner_kind Texts low high = true

abbrev pub is_inner : Column → Bool
is_inner c = is_inner_kind c.kind c.lo c.hi

abbrev pub all_inner : List Column → Bool
all_inner [] = true
all_inner (c ∷ cs) = is_inner c && all_inner cs
