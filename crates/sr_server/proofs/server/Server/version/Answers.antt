use Rattle.std.proofs.Common.{◌∙◌}
use Rattle.sr_server.proofs.Entries.{newest-is}
use Rattle.sr_server.proofs.server.Server.version.Goals as goal

pub returns-clause-newest : goal.returns-clause-newest
returns-clause-newest c db is = c.version.ensures ∙ newest-is db c.args.self.now.log is.knows.log
