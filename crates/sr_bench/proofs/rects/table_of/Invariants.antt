use Rattle.std.proofs.Common.{◌≡◌, true}
use Rattle.sr_box.specs.Corners.{have_first}
use Rattle.sr_union.specs.Grid.{all_inner}
use Rattle.sr_bench.proofs.rects.table_of.Given as goal

abbrev pub invariant-loop-column : goal.invariant-loop-column
invariant-loop-column l = (all_inner l.columns ≡ true) × (have_first l.columns ≡ true)
