use Rattle.std.proofs.Common.{◌≡◌, ◌++◌, drop}
use Rattle.sr_union.specs.Pieces.{near}
use Rattle.sr_store.specs.Stores.{wider}
use Rattle.sr_store.proofs.absorb.push_all_wider.Given as goal

abbrev pub invariant-loop-region : goal.invariant-loop-region
invariant-loop-region l = l.found ++ near l.rects (wider (drop l.region-index l.regions) l.narrow.table l.narrow.attrs) ≡ l.fn.found ++ near l.rects (wider l.regions l.narrow.table l.narrow.attrs)
