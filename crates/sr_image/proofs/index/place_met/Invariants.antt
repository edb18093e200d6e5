use Rattle.std.proofs.Common.{◌≡◌, [], take, drop}
use Rattle.sr_image.specs.Index.{first_met}
use Rattle.sr_image.proofs.index.place_met.Given as goal

abbrev pub invariant-loop-place : goal.invariant-loop-place
invariant-loop-place l = first_met [] l.rects ≡ first_met (take l.place l.rects) (drop l.place l.rects)
