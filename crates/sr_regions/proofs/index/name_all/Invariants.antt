use Rattle.std.proofs.Common.{◌≡◌, ℕ, ◌<◌, true}
use Rattle.std.specs.Prelude.{Some, slice_get}
use Rattle.sr_keyed.proofs.Order.{order}
use Rattle.sr_region.specs.declared.region.Region.{Region}
use Rattle.sr_regions.specs.Named.{has_names}
use Rattle.sr_regions.proofs.index.name_all.Given as goal

abbrev pub invariant-loop-number : goal.invariant-loop-number
invariant-loop-number l = (n : ℕ) (g : Region) → n < l.number → slice_get l.regions n ≡ Some g → has_names order (Some l.index) n g ≡ true
