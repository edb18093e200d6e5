-- The entries of a range of the map are the rows between its ends.
use Rattle.std.proofs.Common.{◌≡◌, ℕ, Bool, true, false, cond, not, ◌&&◌, List, [], ◌∷◌, refl, sym, ap, subst, ◌∙◌, arith}
use Rattle.std.specs.Prelude.{Option, Some, None, filter, if◌then◌else◌}
use Rattle.std.specs.declared.cmp.Ordering.{Ordering}
use Rattle.std.specs.declared.cmp.Ordering.TheVariants.{Less, Equal, Greater}
use Rattle.std.specs.Ordering.{is_le, is_gt}
use Rattle.std.specs.Range.Bound.{IsForward}
use Rattle.std.specs.Map.{values_of}
use Rattle.std.specs.BTreeMap.Range.{IsLeBy, IsLtBy, is_from_start, is_past_end, range_contains, entries_between}
use Rattle.sr_cell.specs.declared.cell.Cell.{Cell}
use Rattle.sr_cell.specs.declared.cell.Cell.TheVariants.{Num, Str, Null}
use Rattle.sr_cell.specs.declared.table.Kind.{Kind}
use Rattle.sr_cell.specs.declared.table.Kind.TheVariants.{Num as Numbers, Str as Texts}
use Rattle.sr_cell.specs.Cells.{Row, cell_le}
use Rattle.sr_cell.proofs.Order.{cell_le-trans}
use Rattle.sr_keyed.specs.Keyed.{is_of, is_from, is_up_to, is_between}
use Rattle.sr_keyed.specs.Entries.{AreKeyed, low_of, are_ends, bound_of}
use Rattle.sr_keyed.proofs.Order.{order, order-le, order-lt}

-- what is above a cell of a kind is of it
kind-up : (kind : Kind) (a b : Cell) → is_of kind a ≡ true → cell_le a b ≡ true → is_of kind b ≡ true
kind-up Numbers (Num a) (Num b) k le = refl
kind-up Numbers (Num a) (Str b) k le = absurd (cc)
kind-up Numbers (Num a) Null k le = refl
kind-up Numbers (Str a) b k le = absurd (cc)
kind-up Texts (Num a) b k le = absurd (cc)
kind-up Texts (Str a) (Num b) k le = absurd (cc)
kind-up Texts (Str a) (Str b) k le = refl
kind-up Texts (Str a) Null k le = refl
kind-up kind Null (Num b) k le = absurd (cc)
kind-up kind Null (Str b) k le = absurd (cc)
kind-up Numbers Null Null k le = refl
kind-up Texts Null Null k le = refl

-- each end that there is, is of the kind
abbrev is_end_of : Kind → Option Cell → Bool
is_end_of kind None = true
is_end_of kind (Some v) = is_of kind v

-- the lower end for a kind is of it, and lies below the same cells of it
low-end : (kind : Kind) (low : Option Cell) → is_end_of kind (low_of kind low) ≡ true
low-end kind None = refl
low-end Numbers (Some (Num a)) = refl
low-end Numbers (Some (Str a)) = refl
low-end Numbers (Some Null) = refl
low-end Texts (Some (Num a)) = refl
low-end Texts (Some (Str a)) = refl
low-end Texts (Some Null) = refl

low-same : (kind : Kind) (low : Option Cell) (v : Cell) → is_of kind v ≡ true → is_from (low_of kind low) v ≡ is_from low v
low-same kind None v k = refl
low-same Numbers (Some (Num a)) v k = refl
low-same Numbers (Some (Str a)) (Num n) k = refl
low-same Numbers (Some (Str a)) (Str s) k = absurd (cc)
low-same Numbers (Some (Str a)) Null k = refl
low-same Numbers (Some Null) v k = refl
low-same Texts (Some (Num a)) (Num n) k = absurd (cc)
low-same Texts (Some (Num a)) (Str s) k = refl
low-same Texts (Some (Num a)) Null k = refl
low-same Texts (Some (Str a)) v k = refl
low-same Texts (Some Null) v k = refl

low-kind : (kind : Kind) (low high : Option Cell) → are_ends kind low high ≡ true → is_end_of kind low ≡ true
low-kind kind None high ends = refl
low-kind kind (Some a) None ends = ends
low-kind kind (Some a) (Some b) ends = grind arith

high-kind : (kind : Kind) (low high : Option Cell) → are_ends kind low high ≡ true → is_end_of kind high ≡ true
high-kind kind low None ends = refl
high-kind kind None (Some b) ends = ends
high-kind kind (Some a) (Some b) ends = let same = kind-up kind a b in grind (arith, same)

from-start : (kind : Kind) (low : Option Cell) (v : Cell) → is_end_of kind low ≡ true → is_of kind v ≡ true → is_from_start order (bound_of low) v ≡ is_from low v
from-start kind None v end k = refl
from-start kind (Some a) v end k = order-le kind a v end k

up_to-end : (kind : Kind) (high : Option Cell) (v : Cell) → is_end_of kind high ≡ true → is_of kind v ≡ true → not (is_past_end order (bound_of high) v) ≡ is_up_to high v
up_to-end kind None v end k = refl
up_to-end kind (Some b) v end k = ap not (order-lt kind b v end k) ∙ twice (cell_le v b)
  where
    twice : (b : Bool) → not (not b) ≡ b
    twice true = refl
    twice false = refl

inside : (kind : Kind) (low high : Option Cell) (v : Cell) → are_ends kind low high ≡ true → is_of kind v ≡ true
    → range_contains order (bound_of low) (bound_of high) v ≡ (is_from low v && is_up_to high v)
inside kind low high v ends k =
    ap (λ b. b && not (is_past_end order (bound_of high) v)) (from-start kind low v (low-kind kind low high ends) k)
    ∙ ap (λ b. is_from low v && b) (up_to-end kind high v (high-kind kind low high ends) k)

pub between-rows : (key : ℕ) (kind : Kind) (low high : Option Cell) (es : List (Cell × Row)) → AreKeyed key kind es → are_ends kind (low_of kind low) high ≡ true
    → values_of (entries_between order (bound_of (low_of kind low)) (bound_of high) es) ≡ filter (is_between key low high) (values_of es)
between-rows key kind low high [] h ends = refl
between-rows key kind low high (e ∷ es) h ends =
    let least = bound_of (low_of kind low) in
    let one : range_contains order least (bound_of high) e.0 ≡ is_between key low high e.1 =
    inside kind (low_of kind low) high e.0 ends h.1 ∙ ap (λ b. b && is_up_to high e.0) (low-same kind low e.0 h.1) ∙ ap (λ v. is_from low v && is_up_to high v) h.0 in
    ap (λ b. values_of (cond b (e ∷ entries_between order least (bound_of high) es) (entries_between order least (bound_of high) es))) one
    ∙ go (is_between key low high e.1) (entries_between order least (bound_of high) es) (between-rows key kind low high es h.2 ends)
  where
    go : (b : Bool) (rest : List (Cell × Row)) → values_of rest ≡ filter (is_between key low high) (values_of es)
        → values_of (cond b (e ∷ rest) rest) ≡ cond b (e.1 ∷ filter (is_between key low high) (values_of es)) (filter (is_between key low high) (values_of es))
    go true rest ih = ap (λ rows. e.1 ∷ rows) ih
    go false rest ih = ih

-- the range runs forward
pub ends-forward : (kind : Kind) (low high : Option Cell) → are_ends kind low high ≡ true → IsForward (IsLeBy order) (IsLtBy order) (bound_of low) (bound_of high)
ends-forward kind None high ends = tt
ends-forward kind (Some a) None ends = tt
ends-forward kind (Some a) (Some b) ends =
    let same = kind-up kind a b in
    let le : is_le (order a b) ≡ true = order-le kind a b (grind arith) (grind (arith, same)) ∙ grind arith in
    not_gt (order a b) le
  where
    not_gt : (o : Ordering) → is_le o ≡ true → is_gt o ≡ false
    not_gt Less le = refl
    not_gt Equal le = refl
    not_gt Greater le = absurd (grind arith)

-- no row is between other ends
none-inside : (kind : Kind) (low high : Option Cell) (v : Cell) → is_end_of kind low ≡ true → are_ends kind low high ≡ false → is_of kind v ≡ true → (is_from low v && is_up_to high v) ≡ false
none-inside kind None None v end ends k = absurd (grind arith)
none-inside kind None (Some b) v end ends k = let same = kind-up kind v b in grind (arith, same)
none-inside kind (Some a) None v end ends k = absurd (grind arith)
none-inside kind (Some a) (Some b) v end ends k =
    let t = cell_le-trans a v b in
    grind (arith, t)

pub none-between : (key : ℕ) (kind : Kind) (low high : Option Cell) (es : List (Cell × Row)) → AreKeyed key kind es → are_ends kind (low_of kind low) high ≡ false
    → filter (is_between key low high) (values_of es) ≡ []
none-between key kind low high [] h ends = refl
none-between key kind low high (e ∷ es) h ends =
    let none : (is_from low e.0 && is_up_to high e.0) ≡ false =
    ap (λ b. b && is_up_to high e.0) (sym (low-same kind low e.0 h.1)) ∙ none-inside kind (low_of kind low) high e.0 (low-end kind low) ends h.1 in
    let one : is_between key low high e.1 ≡ false = subst (λ v. (is_from low v && is_up_to high v) ≡ false) h.0 none in
    rw one (none-between key kind low high es h.2 ends)
