use Rattle.std.proofs.Common.{◌≡◌, drop}
use Rattle.sr_session.specs.Misfits.{fit_ask}
use Rattle.sr_client.proofs.misfit.fit_ask.Given as goal

abbrev pub invariant-loop-row : goal.invariant-loop-row
invariant-loop-row l = fit_ask l.schema l.ask (drop l.row-index l.rows) ≡ fit_ask l.schema l.ask l.rows
