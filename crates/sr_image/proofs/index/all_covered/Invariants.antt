use Rattle.std.proofs.Common.{◌≡◌, Some, drop}
use Rattle.sr_image.specs.Index.{is_under}
use Rattle.sr_image.proofs.index.all_covered.Given as goal

abbrev pub invariant-loop-place : goal.invariant-loop-place
invariant-loop-place l = is_under l.rects (Some l.hull) l.block ≡ is_under l.rects (Some l.hull) (drop l.place-index l.block)
