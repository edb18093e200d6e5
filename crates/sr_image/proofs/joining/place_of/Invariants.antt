use Rattle.std.proofs.Common.{◌≡◌, ◌+◌, drop}
use Rattle.std.specs.List.{prefix_len}
use Rattle.sr_image.specs.Joining.{stands_before}
use Rattle.sr_image.proofs.joining.place_of.Given as goal

abbrev pub invariant-loop-place : goal.invariant-loop-place
invariant-loop-place l = prefix_len (stands_before l.region) l.kept ≡ l.place + prefix_len (stands_before l.region) (drop l.place l.kept)
