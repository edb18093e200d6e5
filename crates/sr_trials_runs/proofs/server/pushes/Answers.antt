use Rattle.std.proofs.Common.{ap}
use Rattle.sr_log.specs.Held.{newest}
use Rattle.sr_server.specs.declared.server.Server.{Server}
use Rattle.sr_trials_runs.proofs.server.pushes.Goals as goal

pub returns-clause-stands : goal.returns-clause-stands
returns-clause-stands c = (c.requires.stands.0, c.push.ensures.stands c.requires.stands.0 c.requires.stands.1)

pub returns-clause-grows : goal.returns-clause-grows
returns-clause-grows c = ap (λ (s : Server). newest s.log) c.push.ensures.others
