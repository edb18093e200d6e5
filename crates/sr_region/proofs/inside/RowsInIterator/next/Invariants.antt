use Rattle.std.proofs.Common.{◌≡◌, length}
use Rattle.std.specs.Prelude.{filter}
use Rattle.sr_region.specs.Regions.{is_in}
use Rattle.sr_region.proofs.inside.RowsInIterator.next.Given as goal

abbrev pub invariant-loop-row : goal.invariant-loop-row
invariant-loop-row l = record {
  attrs : l.self-inside.attrs ≡ l.fn.self.attrs;
  rows : filter (is_in l.self-inside.attrs l.self-inside.rects.now) l.self-inside.rows.now ≡ l.fn.self.rows;
}

abbrev pub decreases-loop-row : goal.decreases-loop-row
decreases-loop-row l = length l.self-inside.rows.now
