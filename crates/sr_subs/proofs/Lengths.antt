-- Rows that are equal in some columns have as many cells.
use Rattle.std.proofs.Common.{◌≡◌, ℕ, ◌+◌, false, [], ◌∷◌, length, refl, arith}
use Rattle.std.specs.Prelude.{not, ◌||◌}
use Rattle.std.proofs.lemmas.Bool.{and_right}
use Rattle.sr_cell.specs.Attrs.{has_column}
use Rattle.sr_cell.specs.Cells.{Row, cell_eq}
use Rattle.sr_message.specs.Agree.{same_from}

pub same-length : (c attrs : ℕ) (p q : Row) → (length p ≡ length q → ⊥) → same_from c attrs p q ≡ false
same-length c attrs [] [] differ = absurd (differ refl)
same-length c attrs [] (w ∷ q) differ = refl
same-length c attrs (v ∷ p) [] differ = refl
same-length c attrs (v ∷ p) (w ∷ q) differ =
    and_right (not (has_column attrs c) || cell_eq v w) (same_from (c + 1) attrs p q) (same-length (c + 1) attrs p q (λ same. differ (omega arith)))
