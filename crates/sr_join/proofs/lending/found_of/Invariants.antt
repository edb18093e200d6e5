use Rattle.std.proofs.Common.{◌≡◌, ℕ, ◌<◌, Bool, true, List, map, length}
use Rattle.std.specs.Prelude.{slice_get}
use Rattle.sr_cell.specs.Attrs.{has_column}
use Rattle.sr_cell.specs.Cells.{Row}
use Rattle.sr_model.specs.SortedRows.{ascend}
use Rattle.sr_join.specs.Joins.{found_at, key_in}
use Rattle.sr_join.specs.Lent.{rows_for, AreLent}
use Rattle.sr_join.specs.Shown.{AreShown}
use Rattle.sr_join.proofs.lending.found_of.Given as goal

abbrev pub invariant-loop-i : goal.invariant-loop-i
invariant-loop-i l = record {
  shown : (i need : ℕ) (all : List Row) (test : Row → Bool) → i < l.i → ascend (key_in (slice_get l.parts i)) all ≡ true
      → has_column need (key_in (slice_get l.parts i)) ≡ true → AreLent need all test (map (rows_for i) l.runs) → AreShown need all test (found_at l.found i);
  each : length l.found ≡ l.i;
}
