use Rattle.std.proofs.Common.{◌≡◌, [], drop}
use Rattle.sr_image.specs.Joining.{with_regions}
use Rattle.sr_image.proofs.joining.image_of.Given as goal

abbrev pub invariant-loop-region : goal.invariant-loop-region
invariant-loop-region l = with_regions [] l.regions ≡ with_regions l.kept (drop l.region-index l.regions)
