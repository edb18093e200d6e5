use Rattle.std.proofs.Common.{ap}
use Rattle.sr_log.specs.Held.{newest}
use Rattle.sr_server.specs.declared.server.Server.{Server}
use Rattle.sr_trials_runs.proofs.server.cut.Goals as goal

pub cut-requires-clause-count : goal.cut-requires-clause-count
cut-requires-clause-count c = c.requires.stands.1.count

pub returns-clause-stands : goal.returns-clause-stands
returns-clause-stands c = (c.requires.stands.0, c.cut.ensures.stands c.requires.stands.0 c.requires.stands.1)

pub returns-clause-grows : goal.returns-clause-grows
returns-clause-grows c = ap (λ (s : Server). newest s.log) c.cut.ensures.closed
