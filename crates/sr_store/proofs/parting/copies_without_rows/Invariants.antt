use Rattle.std.proofs.Common.{◌≡◌, ◌++◌, map, drop}
use Rattle.sr_store.specs.Making.{without_rows}
use Rattle.sr_store.proofs.parting.copies_without_rows.Given as goal

abbrev pub invariant-loop-region : goal.invariant-loop-region
invariant-loop-region l = l.copies ++ map without_rows (drop l.region-index l.regions) ≡ map without_rows l.regions
