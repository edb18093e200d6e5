use Rattle.std.proofs.Common.{drop}
use Rattle.std.specs.List.{AllZip}
use Rattle.std.proofs.lemmas.List.{drop_all}
use Rattle.sr_store.specs.Making.{IsUnmetOr}
use Rattle.sr_store.proofs.Making.{completes_all}
use Rattle.sr_store.proofs.absorb.met_by.Goals as goal

pub returns : goal.returns
returns c =
    let none = drop_all c.loop-region.region-index c.args.regions.now c.loop-region-test.false in
    completes_all (λ gs fs. AllZip (IsUnmetOr c.args.arrivals.now) fs gs) c.args.regions.now c.loop-region.flags (drop c.loop-region.region-index c.args.regions.now) none tt c.loop-region.invariant
