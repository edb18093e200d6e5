use Rattle.std.proofs.Common.{◌≡◌, drop}
use Rattle.std.specs.List.{list_all}
use Rattle.sr_session.specs.Refusals.{holding_suits}
use Rattle.sr_server.proofs.misfit.all_holdings_suit.Given as goal

abbrev pub invariant-loop-holding : goal.invariant-loop-holding
invariant-loop-holding l = list_all (holding_suits l.schema l.wire) l.holdings ≡ list_all (holding_suits l.schema l.wire) (drop l.holding-index l.holdings)
