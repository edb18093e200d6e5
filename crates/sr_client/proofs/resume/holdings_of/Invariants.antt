use Rattle.std.proofs.Common.{◌≡◌, map, take}
use Rattle.sr_session.specs.Resumable.{region_holding}
use Rattle.sr_client.proofs.resume.holdings_of.Given as goal

abbrev pub invariant-loop-region : goal.invariant-loop-region
invariant-loop-region l = l.holdings ≡ map region_holding (take l.region-index l.regions)
