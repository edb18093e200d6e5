-- The order of the map's keys, among cells of one kind, is that of cells.
use Rattle.std.proofs.Common.{◌≡◌, ℕ, true, false, not, ◌&&◌, List, refl, ap, ◌∙◌, arith}
use Rattle.std.specs.declared.cmp.Ordering.{Ordering}
use Rattle.std.specs.Ordering.{nat_cmp, is_le, is_lt, is_eq}
use Rattle.std.specs.Cmp.Lexicographic.{slice_cmp}
use Rattle.std.proofs.lemmas.Cmp.{same_from_slice_cmp}
use Rattle.std.proofs.lemmas.Int.{ints}
use Rattle.std.proofs.lemmas.Bool.Decides.{nat_tests}
use Rattle.sr_cell.specs.declared.cell.Cell.{Cell}
use Rattle.sr_cell.specs.declared.cell.Cell.TheVariants.{Num, Str, Null}
use Rattle.sr_cell.specs.declared.table.Kind.{Kind}
use Rattle.sr_cell.specs.declared.table.Kind.TheVariants.{Num as Numbers, Str as Texts}
use Rattle.sr_cell.specs.contracts.cell.CellOrd.TheImpl as cell_ord
use Rattle.sr_cell.specs.Cells.{cell_le, cell_eq, text_le}
use Rattle.sr_cell.proofs.Order.{is_text_le}
use Rattle.sr_keyed.specs.Keyed.{is_of}

abbrev pub order : Cell → Cell → Ordering
order = (cell_ord.ghosts).cmp

text_above : (xs ys : List ℕ) (o : Ordering) → o ≡ slice_cmp nat_cmp xs ys → is_lt o ≡ not (text_le ys xs)
text_above = same_from_slice_cmp nat_cmp is_lt (λ xs ys. not (text_le ys xs)) refl (λ _ _. refl) (λ _ _. refl) (λ x y xs ys o h. grind (arith, nat_tests))

text_same : (xs ys : List ℕ) (o : Ordering) → o ≡ slice_cmp nat_cmp xs ys → is_eq o ≡ (text_le ys xs && text_le xs ys)
text_same = same_from_slice_cmp nat_cmp is_eq (λ xs ys. text_le ys xs && text_le xs ys) refl (λ _ _. refl) (λ _ _. refl) (λ x y xs ys o h. grind (arith, nat_tests))

pub order-eq : (a b : Cell) → is_eq (order a b) ≡ cell_eq b a
order-eq (Num a) (Num b) = grind (arith, ints)
order-eq (Num a) (Str t) = refl
order-eq (Str s) (Num b) = refl
order-eq (Str s) (Str t) = text_same s t _ refl
order-eq (Num a) Null = refl
order-eq (Str s) Null = refl
order-eq Null (Num b) = refl
order-eq Null (Str t) = refl
order-eq Null Null = refl

pub order-le : (kind : Kind) (a b : Cell) → is_of kind a ≡ true → is_of kind b ≡ true → is_le (order a b) ≡ cell_le a b
order-le kind (Num a) (Num b) h k = grind (arith, ints)
order-le Numbers (Num a) (Str t) h k = absurd (grind arith)
order-le Texts (Num a) (Str t) h k = absurd (grind arith)
order-le Numbers (Str s) b h k = absurd (grind arith)
order-le Texts (Str s) (Num b) h k = absurd (grind arith)
order-le Texts (Str s) (Str t) h k = is_text_le s t _ refl
order-le kind (Num a) Null h k = refl
order-le Texts (Str s) Null h k = refl
order-le kind Null (Num b) h k = refl
order-le kind Null (Str t) h k = refl
order-le kind Null Null h k = refl

pub order-lt : (kind : Kind) (a b : Cell) → is_of kind a ≡ true → is_of kind b ≡ true → is_lt (order a b) ≡ not (cell_le b a)
order-lt kind (Num a) (Num b) h k = grind (arith, ints)
order-lt Numbers (Num a) (Str t) h k = absurd (grind arith)
order-lt Texts (Num a) (Str t) h k = absurd (grind arith)
order-lt Numbers (Str s) b h k = absurd (grind arith)
order-lt Texts (Str s) (Num b) h k = absurd (grind arith)
order-lt Texts (Str s) (Str t) h k = text_above s t _ refl
order-lt kind (Num a) Null h k = refl
order-lt Texts (Str s) Null h k = refl
order-lt kind Null (Num b) h k = refl
order-lt kind Null (Str t) h k = refl
order-lt kind Null Null h k = refl

-- cells that are in order are so in the map's order, whatever their kinds

pub order-below : (a b : Cell) → cell_le a b ≡ true → is_le (order a b) ≡ true
order-below (Num a) (Num b) le = grind (arith, ints)
order-below (Num a) (Str t) le = refl
order-below (Str s) (Num b) le = absurd (cc)
order-below (Str s) (Str t) le = is_text_le s t _ refl ∙ le
order-below (Num a) Null le = refl
order-below (Str s) Null le = refl
order-below Null (Num b) le = absurd (cc)
order-below Null (Str t) le = absurd (cc)
order-below Null Null le = refl

pub order-above : (a b : Cell) → cell_le a b ≡ true → is_lt (order b a) ≡ false
order-above (Num a) (Num b) le = grind (arith, ints)
order-above (Num a) (Str t) le = absurd (cc)
order-above (Str s) (Num b) le = absurd (cc)
order-above (Str s) (Str t) le = text_above t s _ refl ∙ ap not le
order-above (Num a) Null le = refl
order-above (Str s) Null le = refl
order-above Null (Num b) le = absurd (cc)
order-above Null (Str t) le = absurd (cc)
order-above Null Null le = refl
