use Rattle.std.proofs.Common.{◌≡◌, ◌++◌, drop}
use Rattle.sr_box.specs.Points.{full_rect}
use Rattle.sr_box.proofs.rect.Rect.full.Given as goal

abbrev pub invariant-loop-column : goal.invariant-loop-column
invariant-loop-column l = l.rect ++ full_rect (drop l._column-index l._column-items) ≡ full_rect l._column-items
