use Rattle.std.proofs.Common.{ap, arith}
use Rattle.sr_session.specs.Misfits.{known}
use Rattle.sr_client.proofs.LaidLemmas.{known-max}
use Rattle.sr_client.proofs.laid.Laid.known.Goals as goal

pub returns : goal.returns
returns c =
    omega (arith, c.max.ensures, c.self.invariant.0, known-max c.args.version c.self.inside.messages, ap (λ messages. known c.args.version messages) c.self.view_is)
