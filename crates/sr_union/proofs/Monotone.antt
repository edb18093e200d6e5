-- Fewer cuts, a smaller grid.
use Rattle.std.proofs.Common.{◌≡◌, ◌≤◌, ◌+◌, true, List, [], ◌∷◌, length, arith, ◌∙◌, sym}
use Rattle.std.proofs.lemmas.Map.Made.{length-le_from_is_member}
use Rattle.std.proofs.lemmas.Nat.{mul-le}
use Rattle.sr_cell.specs.declared.cell.Cell.{Cell}
use Rattle.sr_cell.specs.declared.table.Column.{Column}
use Rattle.sr_box.specs.declared.span.Span.{Span}
use Rattle.sr_cell.proofs.Order.{cell_eq-laws}
use Rattle.sr_box.specs.Points.{rect_fits}
use Rattle.sr_box.specs.Corners.{cuts_of}
use Rattle.sr_union.specs.Grid.{is_among, first_cuts, others, distinct, grid, CutsAmong, AreCutFrom}
use Rattle.sr_union.proofs.Cuts.{is_among-append}
use Rattle.sr_union.proofs.Count.{distinct-among}
use Rattle.sr_union.proofs.Distinct.{member-is, distinct-is}

abbrev pub AllAmong : List Column → List (List Span) → List (List Span) → Type 0
AllAmong [] a b = Unit {0}
AllAmong (c ∷ cs) a b = ((v : Cell) → is_among (first_cuts c a) v ≡ true → is_among (first_cuts c b) v ≡ true) × AllAmong cs (others a) (others b)

pub grid-le : (cs : List Column) (a b : List (List Span)) → AllAmong cs a b → grid cs a ≤ grid cs b
grid-le [] a b h = omega arith
grid-le (c ∷ cs) a b h =
    let ih = grid-le cs (others a) (others b) h.1 in
    let l = length-le_from_is_member cell_eq-laws (distinct (first_cuts c a)) (distinct (first_cuts c b)) (distinct-is (first_cuts c a))
    (λ q m. member-is (distinct (first_cuts c b)) q ∙ (distinct-among (first_cuts c b) q ∙ h.0 q (sym (distinct-among (first_cuts c a) q) ∙ (sym (member-is (distinct (first_cuts c a)) q) ∙ m)))) in
    mul-le (1 + length (distinct (first_cuts c a))) (grid cs (others a)) (1 + length (distinct (first_cuts c b))) (grid cs (others b)) (omega (arith, l)) ih

nil-among : (cs : List Column) (b : List (List Span)) → AllAmong cs [] b
nil-among [] b = tt
nil-among (c ∷ cs) b = ((λ v e. absurd (grind (arith, e))), nil-among cs (others b))

more-among : (cs : List Column) (r : List Span) (a b : List (List Span)) → rect_fits cs r ≡ true → CutsAmong cs r b → AllAmong cs a b → AllAmong cs (r ∷ a) b
more-among [] r a b f h k = tt
more-among (c ∷ cs) [] a b f h k = absurd (grind arith)
more-among (c ∷ cs) (s ∷ r) a b f h k =
    ((λ v e. let x = is_among-append (cuts_of c.kind c.lo c.hi c.nullable s) (first_cuts c a) v in let y = h.0 v in let z = k.0 v in grind (arith, e, x, y, z)), more-among cs r (others a) (others b) (grind arith) h.1 k.1)

pub are-among : (cs : List Column) (given rs : List (List Span)) → AreCutFrom cs given rs → AllAmong cs rs given
are-among cs given [] h = nil-among cs given
are-among cs given (r ∷ rs) h = more-among cs r rs given h.0 h.1 (are-among cs given rs h.2)
