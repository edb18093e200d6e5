use Rattle.std.proofs.Common.{drop}
use Rattle.std.specs.List.{AllZip}
use Rattle.sr_store.specs.Fitted.{IsViewOf}
use Rattle.sr_store.proofs.Making.{Completes}
use Rattle.sr_client.proofs.victims.views_of.Given as goal

abbrev pub invariant-loop-region : goal.invariant-loop-region
invariant-loop-region l = Completes (AllZip (IsViewOf l.schema)) l.regions l.views (drop l.region-index l.regions)
