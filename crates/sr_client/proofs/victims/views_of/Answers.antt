use Rattle.std.proofs.Common.{◌≡◌, [], drop, arith}
use Rattle.std.specs.List.{AllZip}
use Rattle.std.proofs.lemmas.Grind.{common_steps}
use Rattle.sr_store.specs.Fitted.{IsViewOf}
use Rattle.sr_store.proofs.Making.{completes_all}
use Rattle.sr_client.proofs.victims.views_of.Goals as goal

pub returns : goal.returns
returns c =
    let none : drop c.loop-region.region-index c.args.regions.now ≡ [] = grind (arith, common_steps) in
    completes_all (AllZip (IsViewOf c.args.schema.now)) c.args.regions.now c.loop-region.views (drop c.loop-region.region-index c.args.regions.now) none tt c.loop-region.invariant
