-- Different values that all are among others are no more than the different ones of these.
use Rattle.std.proofs.Common.{◌≡◌, ◌≤◌, true, List, length, ◌∙◌, sym}
use Rattle.std.proofs.lemmas.Map.Made.{length-le_from_is_member}
use Rattle.sr_cell.specs.declared.cell.Cell.{Cell}
use Rattle.sr_cell.proofs.Order.{cell_eq-laws}
use Rattle.sr_union.specs.Grid.{is_among, distinct}
use Rattle.sr_union.proofs.Count.{distinct-among}
use Rattle.sr_union.proofs.Distinct.{member-is, distinct-is}

pub distinct-le : (us vs : List Cell) → ((v : Cell) → is_among us v ≡ true → is_among vs v ≡ true) → length (distinct us) ≤ length (distinct vs)
distinct-le us vs h = length-le_from_is_member cell_eq-laws (distinct us) (distinct vs) (distinct-is us)
    (λ q m. member-is (distinct vs) q ∙ (distinct-among vs q ∙ h q (sym (distinct-among us q) ∙ (sym (member-is (distinct us) q) ∙ m))))
