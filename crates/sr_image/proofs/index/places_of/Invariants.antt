use Rattle.std.proofs.Common.{◌≡◌, take}
use Rattle.sr_image.specs.Index.{numbered}
use Rattle.sr_image.proofs.index.places_of.Given as goal

abbrev pub invariant-loop-place : goal.invariant-loop-place
invariant-loop-place l = l.places.items ≡ numbered 0 (take l.place l.rects)
