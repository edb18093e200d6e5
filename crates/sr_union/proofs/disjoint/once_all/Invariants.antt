use Rattle.std.proofs.Common.{take, ◌≤◌, length}
use Rattle.sr_union.specs.Pieces.{IsOnce}
use Rattle.sr_union.specs.Grid.{AreCutFrom}
use Rattle.sr_union.proofs.disjoint.once_all.Given as goal

abbrev pub invariant-loop-rect : goal.invariant-loop-rect
invariant-loop-rect l = record {
  points : IsOnce l.columns (take l.rect-index l.rect-items) l.once;
  cuts : AreCutFrom l.columns l.rect-items l.once;
  few : length l.once ≤ l.limit;
}
