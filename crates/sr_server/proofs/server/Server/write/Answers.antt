use Rattle.sr_grammar.specs.Seen.{statement_seen}
use Rattle.sr_server.proofs.Taking.{statement-short}
use Rattle.sr_server.proofs.server.Server.write.Goals as goal

pub run_said-requires-clause-short : goal.run_said-requires-clause-short
run_said-requires-clause-short c = statement-short c.args.sql.now (statement_seen c.in-Ok.statement) c.in-Ok.ensures.found
