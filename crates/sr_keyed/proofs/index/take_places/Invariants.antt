use Rattle.std.proofs.Common.{◌≡◌, ℕ, true, false}
use Rattle.std.specs.BTreeSet.{contains}
use Rattle.sr_cell.specs.Cells.{Row, cell_at, cell_eq}
use Rattle.sr_keyed.specs.Places.{place_of}
use Rattle.sr_keyed.proofs.PlaceOrder.{place_order}
use Rattle.sr_keyed.proofs.index.take_places.Given as goal

abbrev pub invariant-loop-i : goal.invariant-loop-i
invariant-loop-i l =
    (c : ℕ) (other : Row) → cell_eq (cell_at other l.key) (cell_at l.row l.key) ≡ false → contains place_order l.fn.places (place_of l.key c other) ≡ true
    → contains place_order l.places (place_of l.key c other) ≡ true
