-- Rects whose cuts are ends of tests make no greater a grid than these ends.
use Rattle.std.proofs.Common.{◌≡◌, ℕ, ◌+◌, ◌≤◌, zero, suc, true, false, List, [], ◌∷◌, ◌++◌, length, refl, arith, ◌∙◌, sym, ap}
use Rattle.std.specs.Prelude.{Bool, ◌&&◌, ◌||◌, not, if◌then◌else◌, Option, Some, None, ℤ, pos, ◌+ℤ◌, int_lt, filter}
use Rattle.std.specs.List.{list_all, AllByRecursion, Contains}
use Rattle.std.proofs.lemmas.Int.{ints}
use Rattle.std.proofs.lemmas.Bool.{and_parts}
use Rattle.std.proofs.lemmas.Nat.{mul-le}
use Rattle.std.proofs.lemmas.Grind.{flat_map-append}
use Rattle.sr_cell.specs.declared.cell.Cell.{Cell}
use Rattle.sr_cell.specs.declared.cell.Cell.TheVariants.{Num, Str, Null as NullCell}
use Rattle.sr_cell.specs.declared.table.Column.{Column}
use Rattle.sr_cell.specs.declared.table.Kind.{Kind}
use Rattle.sr_cell.specs.declared.table.Kind.TheVariants.{Num as Numbers, Str as Texts}
use Rattle.sr_cell.specs.Cells.{cell_eq, cell_le}
use Rattle.sr_cell.specs.Columns.{in_kind}
use Rattle.sr_cell.proofs.Order.{cell_eq-sound}
use Rattle.sr_box.specs.declared.span.Span.{Span}
use Rattle.sr_box.specs.declared.span.Span.TheVariants.{Full, Nums, Strs, Null}
use Rattle.sr_box.specs.Spans.{fits_kind}
use Rattle.sr_box.specs.Points.{Rect, rect_fits}
use Rattle.sr_box.specs.Corners.{text_cut, end_cut, null_cut, cuts_of, first_value}
use Rattle.sr_union.specs.Grid.{is_among, has_cut, first_cuts, others, distinct, grid, CutsAmong}
use Rattle.sr_union.proofs.Cuts.{is_among-append, nums-cut, strs-cut, cut-is}
use Rattle.sr_model.specs.Ends.{ends}
use Rattle.sr_model.specs.Queries.{Part}
use Rattle.sr_history.specs.Load.{is_inside, column_ends, ends_grid}
use Rattle.sr_history.specs.Ends.{CutsIn, part_ends, EndsAmong, GridsAreFew, CutsKeepEnds, MorePartsKeepEnds, PartsHaveTheirEnds}
use Rattle.sr_history.proofs.Distinct.{distinct-le}

-- a value of the column, above its first
abbrev inside : Kind → ℤ → ℤ → Bool → Cell → Bool
inside k low high nullable v = in_kind k low high nullable v && not (cell_le v (first_value k low))

text-inside : (low high : ℤ) (nullable : Bool) (lo : List ℕ) (hi : Option (List ℕ)) (v : Cell) → fits_kind Texts low high nullable (Strs lo hi) ≡ true → is_among (text_cut lo) v ≡ true
    → inside Texts low high nullable v ≡ true
text-inside low high nullable [] hi v f h = absurd (grind arith)
text-inside low high nullable (b ∷ lo) hi v f h = let e = cell_eq-sound (Str (b ∷ lo)) v (grind arith) in ap (inside Texts low high nullable) (sym e) ∙ grind arith

end-inside : (low high : ℤ) (nullable : Bool) (lo : List ℕ) (hi : Option (List ℕ)) (v : Cell) → fits_kind Texts low high nullable (Strs lo hi) ≡ true → is_among (end_cut hi) v ≡ true
    → inside Texts low high nullable v ≡ true
end-inside low high nullable lo None v f h = absurd (grind arith)
end-inside low high nullable lo (Some []) v f h = absurd (grind arith)
end-inside low high nullable lo (Some (b ∷ hi)) v f h = let e = cell_eq-sound (Str (b ∷ hi)) v (grind arith) in ap (inside Texts low high nullable) (sym e) ∙ grind arith

number-inside : (low high : ℤ) (nullable : Bool) (lo hi n : ℤ) → fits_kind Numbers low high nullable (Nums lo hi) ≡ true
    → ((int_lt low lo && cell_eq (Num lo) (Num n)) || (int_lt hi high && cell_eq (Num (hi +ℤ pos 1)) (Num n))) ≡ true → inside Numbers low high nullable (Num n) ≡ true
number-inside low high nullable lo hi n f h = grind (arith, ints)

texts-inside : (low high : ℤ) (nullable : Bool) (lo : List ℕ) (hi : Option (List ℕ)) (v : Cell) → fits_kind Texts low high nullable (Strs lo hi) ≡ true → has_cut Texts low high false (Strs lo hi) v ≡ true
    → inside Texts low high nullable v ≡ true
texts-inside low high nullable lo hi v f h = go (is_among (text_cut lo) v) (is_among (end_cut hi) v) (sym (strs-cut low high lo hi v) ∙ h) (text-inside low high nullable lo hi v f) (end-inside low high nullable lo hi v f)
  where
    go : (a b : Bool) → (a || b) ≡ true → (a ≡ true → inside Texts low high nullable v ≡ true) → (b ≡ true → inside Texts low high nullable v ≡ true) → inside Texts low high nullable v ≡ true
    go true b e first second = first refl
    go false b e first second = second e

-- each cut among the values of a span that fits is inside
value-inside : (k : Kind) (low high : ℤ) (nullable : Bool) (s : Span) (v : Cell) → fits_kind k low high nullable s ≡ true → has_cut k low high false s v ≡ true → inside k low high nullable v ≡ true
value-inside Numbers low high nullable Full v f h = absurd (grind arith)
value-inside Texts low high nullable Full v f h = absurd (grind arith)
value-inside Numbers low high nullable Null v f h = absurd (grind arith)
value-inside Texts low high nullable Null v f h = absurd (grind arith)
value-inside Numbers low high nullable (Nums lo hi) (Num n) f h = number-inside low high nullable lo hi n f (sym (nums-cut low high lo hi (Num n)) ∙ h)
value-inside Numbers low high nullable (Nums lo hi) (Str t) f h = let e = nums-cut low high lo hi (Str t) in absurd (grind (arith, e))
value-inside Numbers low high nullable (Nums lo hi) NullCell f h = let e = nums-cut low high lo hi NullCell in absurd (grind (arith, e))
value-inside Texts low high nullable (Nums lo hi) v f h = absurd (grind arith)
value-inside Numbers low high nullable (Strs lo hi) v f h = absurd (grind arith)
value-inside Texts low high nullable (Strs lo hi) v f h = texts-inside low high nullable lo hi v f h

-- so is the place before Null
null-inside : (k : Kind) (low high : ℤ) (nullable : Bool) (v : Cell) → is_among (null_cut nullable) v ≡ true → inside k low high nullable v ≡ true
null-inside k low high false v h = absurd (grind arith)
null-inside k low high true (Num n) h = absurd (grind arith)
null-inside k low high true (Str t) h = absurd (grind arith)
null-inside Numbers low high true NullCell h = refl
null-inside Texts low high true NullCell h = refl

cut-inside : (k : Kind) (low high : ℤ) (nullable : Bool) (s : Span) (v : Cell) → fits_kind k low high nullable s ≡ true → has_cut k low high nullable s v ≡ true → inside k low high nullable v ≡ true
cut-inside k low high nullable s v f h =
    go _ (is_among (null_cut nullable) v) (has_cut k low high false s v) (sym (cut-is k low high nullable s v) ∙ h) (null-inside k low high nullable v) (value-inside k low high nullable s v f)
  where
    go : (part a b : Bool) → ((part && a) || b) ≡ true → (a ≡ true → inside k low high nullable v ≡ true) → (b ≡ true → inside k low high nullable v ≡ true) → inside k low high nullable v ≡ true
    go true true b e first second = first refl
    go true false b e first second = second e
    go false a b e first second = second e

-- each cut in the first column is one of its values
first-in : (values : ℕ → List Cell) (c : ℕ) (column : Column) (columns : List Column) (rects : List Rect) (v : Cell)
    → AllByRecursion (CutsIn values c (column ∷ columns)) rects → is_among (first_cuts column rects) v ≡ true → is_among (values c) v ≡ true
first-in values c column columns [] v a h = absurd (grind arith)
first-in values c column columns ([] ∷ rects) v a h = first-in values c column columns rects v a.1 h
first-in values c column columns ((s ∷ r) ∷ rects) v a h =
    let e = is_among-append (cuts_of column.kind column.lo column.hi column.nullable s) (first_cuts column rects) v in
    let x = a.0.0 v in let y = first-in values c column columns rects v a.1 in grind (arith, e, x, y)

-- and inside of it
first-inside : (column : Column) (columns : List Column) (rects : List Rect) (v : Cell)
    → list_all (rect_fits (column ∷ columns)) rects ≡ true → is_among (first_cuts column rects) v ≡ true → is_inside column v ≡ true
first-inside column columns [] v f h = absurd (grind arith)
first-inside column columns ([] ∷ rects) v f h = absurd (grind arith)
first-inside column columns ((s ∷ r) ∷ rects) v f h =
    let p = and_parts (rect_fits (column ∷ columns) (s ∷ r)) (list_all (rect_fits (column ∷ columns)) rects) f in
    let fits = (and_parts (fits_kind column.kind column.lo column.hi column.nullable s) (rect_fits columns r) p.0).0 in
    go (is_among (cuts_of column.kind column.lo column.hi column.nullable s) v) (is_among (first_cuts column rects) v)
    (sym (is_among-append (cuts_of column.kind column.lo column.hi column.nullable s) (first_cuts column rects) v) ∙ h)
    (cut-inside column.kind column.lo column.hi column.nullable s v fits) (first-inside column columns rects v p.1)
  where
    go : (a b : Bool) → (a || b) ≡ true → (a ≡ true → is_inside column v ≡ true) → (b ≡ true → is_inside column v ≡ true) → is_inside column v ≡ true
    go true b e first second = first refl
    go false b e first second = second e

others-in : (values : ℕ → List Cell) (c : ℕ) (column : Column) (columns : List Column) (rects : List Rect)
    → AllByRecursion (CutsIn values c (column ∷ columns)) rects → AllByRecursion (CutsIn values (c + 1) columns) (others rects)
others-in values c column columns [] a = tt
others-in values c column columns ([] ∷ rects) a = others-in values c column columns rects a.1
others-in values c column columns ((s ∷ r) ∷ rects) a = (a.0.1, others-in values c column columns rects a.1)

others-fit : (column : Column) (columns : List Column) (rects : List Rect) → list_all (rect_fits (column ∷ columns)) rects ≡ true → list_all (rect_fits columns) (others rects) ≡ true
others-fit column columns [] f = refl
others-fit column columns ([] ∷ rects) f = absurd (grind arith)
others-fit column columns ((s ∷ r) ∷ rects) f = let ih = others-fit column columns rects in grind (arith, ih)

among-filter : (test : Cell → Bool) (vs : List Cell) (v : Cell) → test v ≡ true → is_among vs v ≡ true → is_among (filter test vs) v ≡ true
among-filter test [] v t h = absurd (grind arith)
among-filter test (u ∷ vs) v t h = go (test u) refl (cell_eq u v) refl h (among-filter test vs v t)
  where
    go : (b : Bool) → test u ≡ b → (d : Bool) → cell_eq u v ≡ d → (d || is_among vs v) ≡ true → (is_among vs v ≡ true → is_among (filter test vs) v ≡ true)
        → is_among (if b then u ∷ filter test vs else filter test vs) v ≡ true
    go true e d k x ih = grind (arith, ih)
    go false e false k x ih = ih x
    go false e true k x ih = absurd (grind (arith, ap test (cell_eq-sound u v k)))

grid-few : (c : ℕ) (columns : List Column) (parts : List Part) (rects : List Rect) → list_all (rect_fits columns) rects ≡ true → AllByRecursion (EndsAmong c columns parts) rects
    → grid columns rects ≤ ends_grid c columns parts
grid-few c [] parts rects f a = omega arith
grid-few c (column ∷ columns) parts rects f a =
    let l = distinct-le (first_cuts column rects) (filter (is_inside column) (part_ends parts c))
    (λ v h. among-filter (is_inside column) (part_ends parts c) v (first-inside column columns rects v f h) (first-in (part_ends parts) c column columns rects v a h)) in
    mul-le (1 + length (distinct (first_cuts column rects))) (grid columns (others rects)) (1 + length (column_ends c column parts)) (ends_grid (c + 1) columns parts)
    (omega (arith, l)) (grid-few (c + 1) columns parts (others rects) (others-fit column columns rects f) (others-in (part_ends parts) c column columns rects a))

pub grids_are_few : GridsAreFew
grids_are_few columns parts rects f a = grid-few 0 columns parts rects f a

cut-in : (values : ℕ → List Cell) (c : ℕ) (columns : List Column) (r : Rect) (given : List Rect) → CutsAmong columns r given → AllByRecursion (CutsIn values c columns) given → CutsIn values c columns r
cut-in values c [] r given k a = tt
cut-in values c (column ∷ columns) [] given k a = tt
cut-in values c (column ∷ columns) (s ∷ r) given k a =
    ((λ v h. first-in values c column columns given v a (k.0 v h)), cut-in values (c + 1) columns r (others given) k.1 (others-in values c column columns given a))

pub cuts_keep_ends : CutsKeepEnds
cuts_keep_ends columns parts given [] k a = tt
cuts_keep_ends columns parts given (r ∷ rects) k a = (cut-in (part_ends parts) 0 columns r given k.1 a, cuts_keep_ends columns parts given rects k.2 a)

-- more values
in-more : (values more : ℕ → List Cell) → ((c : ℕ) (v : Cell) → is_among (values c) v ≡ true → is_among (more c) v ≡ true)
    → (c : ℕ) (columns : List Column) (r : Rect) → CutsIn values c columns r → CutsIn more c columns r
in-more values more m c [] r k = tt
in-more values more m c (column ∷ columns) [] k = tt
in-more values more m c (column ∷ columns) (s ∷ r) k = ((λ v h. m c v (k.0 v h)), in-more values more m (c + 1) columns r k.1)

all-in-more : (values more : ℕ → List Cell) → ((c : ℕ) (v : Cell) → is_among (values c) v ≡ true → is_among (more c) v ≡ true)
    → (columns : List Column) (rects : List Rect) → AllByRecursion (CutsIn values 0 columns) rects → AllByRecursion (CutsIn more 0 columns) rects
all-in-more values more m columns [] a = tt
all-in-more values more m columns (r ∷ rects) a = (in-more values more m 0 columns r a.0, all-in-more values more m columns rects a.1)

among-parts : (a b : List Part) (c : ℕ) (v : Cell) → is_among (part_ends (a ++ b) c) v ≡ (is_among (part_ends a c) v || is_among (part_ends b c) v)
among-parts a b c v = ap (λ vs. is_among vs v) (flat_map-append (λ part. ends c part.condition) a b) ∙ is_among-append (part_ends a c) (part_ends b c) v

pub more_parts_keep_ends : MorePartsKeepEnds
more_parts_keep_ends columns more parts others rects a = all-in-more (part_ends parts) (part_ends (more ++ (parts ++ others)))
    (λ c v h. let x = among-parts more (parts ++ others) c v in let y = among-parts parts others c v in grind (arith, x, y, h)) columns rects a

ends-among : (parts : List Part) (part : Part) (c : ℕ) (v : Cell) → Contains parts part → is_among (ends c part.condition) v ≡ true → is_among (part_ends parts c) v ≡ true
ends-among [] part c v k h = absurd (omega (arith, k.1))
ends-among (p ∷ parts) part c v (zero, l, e) h =
    let x = is_among-append (ends c p.condition) (part_ends parts c) v in
    let y : is_among (ends c p.condition) v ≡ true = ap (λ q. is_among (ends c q.condition) v) e ∙ h in grind (arith, x, y)
ends-among (p ∷ parts) part c v (suc k, l, e) h =
    let x = is_among-append (ends c p.condition) (part_ends parts c) v in
    let y = ends-among parts part c v (k, omega (arith, l), e) h in grind (arith, x, y)

pub parts_have_their_ends : PartsHaveTheirEnds
parts_have_their_ends columns parts part rects k a = all-in-more (λ c. ends c part.condition) (part_ends parts) (λ c v h. ends-among parts part c v k h) columns rects a
