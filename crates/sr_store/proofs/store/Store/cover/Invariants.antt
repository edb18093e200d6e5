use Rattle.std.proofs.Common.{◌≡◌, ◌++◌, drop}
use Rattle.sr_store.specs.Stores.{cover_of}
use Rattle.sr_store.proofs.store.Store.cover.Given as goal

abbrev pub invariant-loop-region : goal.invariant-loop-region
invariant-loop-region l = l.cover ++ cover_of l.part (drop l.region-index l.region-items) ≡ cover_of l.part l.region-items
