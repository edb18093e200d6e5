-- A span that fits its column has a cut, but for the full one.
use Rattle.std.proofs.Common.{◌≡◌, false, refl, Bool, true, ◌++◌, arith, ℕ, List, [], ◌∷◌}
use Rattle.std.specs.Prelude.{ℤ, pos, ◌+ℤ◌, int_lt, Option, Some, None}
use Rattle.sr_cell.specs.declared.cell.Cell.{Cell}
use Rattle.sr_cell.specs.declared.table.Kind.{Kind}
use Rattle.sr_cell.specs.declared.table.Kind.TheVariants.{Num as Numbers, Str as Texts}
use Rattle.sr_cell.specs.declared.cell.Cell.TheVariants.{Num, Str, Null as NullCell}
use Rattle.sr_cell.proofs.Order.{cell_eq-refl}
use Rattle.sr_box.specs.declared.span.Span.TheVariants.{Full, Nums, Strs, Null}
use Rattle.sr_box.specs.Spans.{fits_kind}
use Rattle.sr_box.specs.Corners.{num_cut}
use Rattle.sr_union.specs.Grid.{has_cut, is_among}

pub no_cut-full : (k : Kind) (low high : ℤ) (n : Bool) (v : Cell) → has_cut k low high n Full v ≡ false
no_cut-full Numbers low high n v = refl
no_cut-full Texts low high n v = refl

pub number_cut : (low high : ℤ) (n : Bool) (lo hi : ℤ) → fits_kind Numbers low high n (Nums lo hi) ≡ true → (v : Cell) × (has_cut Numbers low high n (Nums lo hi) v ≡ true)
number_cut low high true lo hi f = (NullCell, refl)
number_cut low high false lo hi f = go (int_lt low lo) refl (int_lt hi high) refl
  where
    go : (a : Bool) → int_lt low lo ≡ a → (b : Bool) → int_lt hi high ≡ b → (v : Cell) × (is_among (num_cut a lo ++ num_cut b (hi +ℤ pos 1)) v ≡ true)
    go true d b e = (Num lo, grind (arith, cell_eq-refl (Num lo)))
    go false d true e = (Num (hi +ℤ pos 1), grind (arith, cell_eq-refl (Num (hi +ℤ pos 1))))
    go false d false e = absurd (grind (arith, d, e, f))

pub numbers_cut : (k : Kind) (low high : ℤ) (n : Bool) (lo hi : ℤ) → fits_kind k low high n (Nums lo hi) ≡ true → (v : Cell) × (has_cut k low high n (Nums lo hi) v ≡ true)
numbers_cut Numbers low high n lo hi f = number_cut low high n lo hi f
numbers_cut Texts low high n lo hi f = absurd (grind arith)

pub texts_cut : (k : Kind) (low high : ℤ) (n : Bool) (lo : List ℕ) (hi : Option (List ℕ)) → fits_kind k low high n (Strs lo hi) ≡ true → (v : Cell) × (has_cut k low high n (Strs lo hi) v ≡ true)
texts_cut Numbers low high n lo hi f = absurd (grind arith)
texts_cut Texts low high true lo hi f = (NullCell, refl)
texts_cut Texts low high false [] None f = absurd (grind arith)
texts_cut Texts low high false [] (Some hi) f = (Str hi, grind (arith, cell_eq-refl (Str hi)))
texts_cut Texts low high false (b ∷ lo) hi f = (Str (b ∷ lo), grind (arith, cell_eq-refl (Str (b ∷ lo))))

pub null_has_cut : (k : Kind) (low high : ℤ) (n : Bool) → fits_kind k low high n Null ≡ true → (v : Cell) × (has_cut k low high n Null v ≡ true)
null_has_cut Numbers low high true f = (NullCell, refl)
null_has_cut Texts low high true f = (NullCell, refl)
null_has_cut Numbers low high false f = absurd (grind arith)
null_has_cut Texts low high false f = absurd (grind arith)
