-- The last of the rows that a message brings.
use Rattle.std.proofs.Common.{◌≡◌, ℕ, ◌-◌, List, [], ◌∷◌, length, refl, sym, ap, subst, arith, Some, None}
use Rattle.std.specs.Prelude.{slice_get}
use Rattle.std.proofs.lemmas.Option.{get_or_from_slice_get}
use Rattle.sr_cell.specs.Cells.{Row}
use Rattle.sr_session.specs.Misfits.{last_row}

pub row_some : (part : ℕ) (rows : List Row) (last : Row) → Some last ≡ slice_get rows (length rows - 1) → last_row None part rows ≡ Some (part, last)
row_some part [] last is = absurd (cc)
row_some part (r ∷ rows) last is = ap (λ (x : Row). Some (part, x)) (get_or_from_slice_get (r ∷ rows) (length (r ∷ rows) - 1) last [] (sym is))

there : (r : Row) (rows : List Row) → None ≡ slice_get (r ∷ rows) (length rows) → ⊥
there r [] none = absurd (cc)
there r (s ∷ rows) none = there s rows none

pub row_none : (part : ℕ) (rows : List Row) → None ≡ slice_get rows (length rows - 1) → last_row None part rows ≡ None
row_none part [] is = refl
row_none part (r ∷ rows) is =
    let less : length (r ∷ rows) - 1 ≡ length rows = omega arith in
    absurd (there r rows (subst (λ n. None ≡ slice_get (r ∷ rows) n) less is))
