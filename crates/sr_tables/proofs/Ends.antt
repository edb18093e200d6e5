-- Ends of the values that a comparison is true of.
use Rattle.std.proofs.Common.{◌≡◌, ℕ, zero, suc, ◌+◌, Bool, true, false, not, ◌||◌, List, [], ◌∷◌, length, take, get_or, refl, sym, ap, subst, ◌∙◌, arith}
use Rattle.std.specs.Prelude.{ℤ, ◌<◌, ◌&&◌, Option, Some, None, slice_index_or, slice_get, if◌then◌else◌}
use Rattle.std.specs.Cmp.{first_so, second_so}
use Rattle.std.proofs.lemmas.Bool.{and_parts}
use Rattle.std.proofs.lemmas.Int.{ints}
use Rattle.std.proofs.lemmas.List.Folds.{list_any_more}
use Rattle.sr_cell.specs.declared.cell.Cell.{Cell}
use Rattle.sr_cell.specs.declared.cell.Cell.TheVariants.{Num, Str, Null as NullCell}
use Rattle.sr_cell.specs.declared.table.Kind.{Kind}
use Rattle.sr_cell.specs.declared.table.Kind.TheVariants.{Num as Numbers, Str as Texts}
use Rattle.sr_cell.specs.declared.table.Column.{Column}
use Rattle.sr_cell.specs.Cells.{Row, cell_at, cell_le, cell_eq, text_le}
use Rattle.sr_cell.proofs.Order.{text_le-total as text_above}
use Rattle.sr_cell.specs.Columns.{takes_kind, fits_columns}
use Rattle.sr_box.specs.declared.span.Span.{Span}
use Rattle.sr_box.specs.declared.span.Span.TheVariants.{Nums, Strs, Null}
use Rattle.sr_box.specs.Spans.{in_span, is_below}
use Rattle.sr_box.specs.Points.{Rect, in_rect, in_any}
use Rattle.sr_model.specs.Conditions.{is_so, on_value}
use Rattle.sr_rows.proofs.Order.{text_le-total}
use Rattle.sr_keyed.specs.Keyed.{is_of, is_from, is_up_to, is_between}

-- what is true of a cell and this, is this
pub so-of : (v : Cell) (b : Bool) → is_so true (on_value v b) ≡ true → b ≡ true
so-of (Num n) b h = h
so-of (Str s) b h = h
so-of NullCell b h = absurd (cc)

-- what a test that is true says of the ends

pub equal-from : (v w : Cell) → is_so true (on_value v (cell_eq v w)) ≡ true → is_from (Some w) v ≡ true
equal-from v w h = (and_parts (cell_le v w) (cell_le w v) (so-of v (cell_eq v w) h)).1

pub equal-up_to : (v w : Cell) → is_so true (on_value v (cell_eq v w)) ≡ true → is_up_to (Some w) v ≡ true
equal-up_to v w h = (and_parts (cell_le v w) (cell_le w v) (so-of v (cell_eq v w) h)).0

pub between-from : (v a b : Cell) → is_so true (on_value v (cell_le a v && cell_le v b)) ≡ true → is_from (Some a) v ≡ true
between-from v a b h = (and_parts (cell_le a v) (cell_le v b) (so-of v (cell_le a v && cell_le v b) h)).0

pub between-up_to : (v a b : Cell) → is_so true (on_value v (cell_le a v && cell_le v b)) ≡ true → is_up_to (Some b) v ≡ true
between-up_to v a b h = (and_parts (cell_le a v) (cell_le v b) (so-of v (cell_le a v && cell_le v b) h)).1

-- cells of one kind are in order
in_order : (kind : Kind) (v w : Cell) → is_of kind v ≡ true → is_of kind w ≡ true → (cell_le v w || cell_le w v) ≡ true
in_order Numbers (Num n) (Num m) h k = grind (arith, ints)
in_order Numbers (Num n) (Str s) h k = absurd (cc)
in_order Numbers (Str s) w h k = absurd (cc)
in_order Texts (Num n) w h k = absurd (cc)
in_order Texts (Str s) (Num m) h k = absurd (cc)
in_order Texts (Str s) (Str t) h k = text_le-total s t
in_order Numbers (Num n) NullCell h k = refl
in_order Texts (Str s) NullCell h k = refl
in_order kind NullCell (Num m) h k = refl
in_order kind NullCell (Str t) h k = refl
in_order kind NullCell NullCell h k = refl

pub below-end : (kind : Kind) (v w : Cell) → is_of kind v ≡ true → not (cell_le w v) ≡ true → is_up_to (if is_of kind w then Some w else None) v ≡ true
below-end kind v w h k = go (is_of kind w) refl
  where
    go : (b : Bool) → is_of kind w ≡ b → is_up_to (if b then Some w else None) v ≡ true
    go true e = let order = in_order kind v w h e in grind (arith, order)
    go false e = refl

pub above-end : (kind : Kind) (v w : Cell) → is_of kind v ≡ true → not (cell_le v w) ≡ true → is_from (if is_of kind w then Some w else None) v ≡ true
above-end kind v w h k = go (is_of kind w) refl
  where
    go : (b : Bool) → is_of kind w ≡ b → is_from (if b then Some w else None) v ≡ true
    go true e = let order = in_order kind v w h e in grind (arith, order)
    go false e = refl

pub takes-kind : (kind : Kind) (low high : ℤ) (nullable : Bool) (v : Cell) → takes_kind kind low high nullable v ≡ true → is_of kind v ≡ true
takes-kind Numbers low high nullable (Num n) h = refl
takes-kind Numbers low high nullable (Str s) h = absurd (cc)
takes-kind Numbers low high nullable NullCell h = refl
takes-kind Texts low high nullable (Num n) h = absurd (cc)
takes-kind Texts low high nullable (Str s) h = refl
takes-kind Texts low high nullable NullCell h = refl

-- the cells of a row that fits are of the kinds of their columns
pub fits-kind_of : (columns : List Column) (c : ℕ) (row : Row) (d : Column) → c < length columns → fits_columns columns row ≡ true → is_of (slice_index_or columns c d).kind (cell_at row c) ≡ true
fits-kind_of [] c row d below h = absurd (omega arith)
fits-kind_of (column ∷ columns) c [] d below h = absurd (cc)
fits-kind_of (column ∷ columns) zero (v ∷ row) d below h = takes-kind column.kind column.lo column.hi column.nullable v (grind arith)
fits-kind_of (column ∷ columns) (suc c) (v ∷ row) d below h = fits-kind_of columns c row d (omega arith) (grind arith)

-- a row from one end up to another
pub is_between-both : (key : ℕ) (low high : Option Cell) (row : Row) → is_from low (cell_at row key) ≡ true → is_up_to high (cell_at row key) ≡ true → is_between key low high row ≡ true
is_between-both key low high row a b = grind (arith, a, b)

-- the ends of a rect's numbers in a column

pub nums-low : (lo hi : ℤ) (v : Cell) → in_span (Nums lo hi) v ≡ true → cell_le (Num lo) v ≡ true
nums-low lo hi (Num n) h = grind arith
nums-low lo hi (Str t) h = absurd (cc)
nums-low lo hi NullCell h = absurd (cc)

pub nums-high : (lo hi : ℤ) (v : Cell) → in_span (Nums lo hi) v ≡ true → cell_le v (Num hi) ≡ true
nums-high lo hi (Num n) h = grind arith
nums-high lo hi (Str t) h = absurd (cc)
nums-high lo hi NullCell h = absurd (cc)

-- and those of its texts

pub texts-low : (lo : List ℕ) (hi : Option (List ℕ)) (v : Cell) → in_span (Strs lo hi) v ≡ true → cell_le (Str lo) v ≡ true
texts-low lo hi (Num n) h = absurd (cc)
texts-low lo hi NullCell h = absurd (cc)
texts-low lo hi (Str t) h = first_so (text_le lo t) (is_below t hi) h

pub text-below : (hi s : List ℕ) → not (text_le hi s) ≡ true → cell_le (Str s) (Str hi) ≡ true
text-below hi s h = go (text_le hi s) refl h
  where
    go : (b : Bool) → text_le hi s ≡ b → not b ≡ true → text_le s hi ≡ true
    go true is above = absurd (cc)
    go false is above = text_above hi s is

pub texts-high : (lo : List ℕ) (hi : Option (List ℕ)) (text v : Cell) → ((s : List ℕ) → is_below s hi ≡ true → cell_le (Str s) text ≡ true) → in_span (Strs lo hi) v ≡ true
    → cell_le v text ≡ true
texts-high lo hi text (Num n) below h = absurd (cc)
texts-high lo hi text NullCell below h = absurd (cc)
texts-high lo hi text (Str s) below h = below s (second_so (text_le lo s) (is_below s hi) h)

-- and those of Null

pub null-low : (v : Cell) → in_span Null v ≡ true → cell_le NullCell v ≡ true
null-low (Num n) h = absurd (cc)
null-low (Str s) h = absurd (cc)
null-low NullCell h = refl

pub null-high : (v : Cell) → in_span Null v ≡ true → cell_le v NullCell ≡ true
null-high (Num n) h = refl
null-high (Str s) h = refl
null-high NullCell h = refl

pub rect-at : (rect : Rect) (row : Row) (c : ℕ) (s : Span) → slice_get rect c ≡ Some s → in_rect rect row ≡ true → in_span s (cell_at row c) ≡ true
rect-at [] row c s is h = absurd (cc)
rect-at (t ∷ rect) [] c s is h = absurd (cc)
rect-at (t ∷ rect) (v ∷ row) zero s is h = let same : t ≡ s = cc in let own : in_span t v ≡ true = grind arith in ap (λ u. in_span u v) (sym same) ∙ own
rect-at (t ∷ rect) (v ∷ row) (suc c) s is h = rect-at rect row c s is (grind arith)

-- what follows for the rects so far, and for the next one
pub of-next : (rects : List Rect) (i : ℕ) (r : Rect) (row : Row) (b : Bool) → i < length rects → r ≡ get_or rects i r → (in_any (take i rects) row ≡ true → b ≡ true)
    → (in_rect r row ≡ true → b ≡ true) → in_any (take (i + 1) rects) row ≡ true → b ≡ true
of-next rects i r row b within is first next h = go (in_any (take i rects) row) refl (sym (list_any_more (λ q. in_rect q row) rects i r within) ∙ h)
  where
    go : (a : Bool) → in_any (take i rects) row ≡ a → (a || in_rect (get_or rects i r) row) ≡ true → b ≡ true
    go true at h = first at
    go false at h = next (subst (λ q. in_rect q row ≡ true) (sym is) h)
