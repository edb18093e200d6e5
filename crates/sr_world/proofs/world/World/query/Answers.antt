use Rattle.sr_lines.specs.Events.{DoQuery}
use Rattle.sr_script.specs.declared.line.TraceLine.TheVariants.{QuerySql}
use Rattle.sr_world.proofs.StepLemmas.{asks, asks-query, query-text, refuses-query}
use Rattle.sr_world.proofs.world.World.query.Goals as goal

pub returns-in-Err-clause-acts : goal.returns-in-Err-clause-acts
returns-in-Err-clause-acts c = λ meaning means.
    refuses-query (DoQuery c.args.client) c.args.self.now.server.tables.schema c.args.self.now c.args.query meaning c.in-Err.fault (QuerySql c.args.client c.in-Err.fault) c.one_line.result c.in-Err.is means
    (query-text c.args.self.now c.args.client c.in-Err.fault c.requires.number) c.one_line.ensures

pub ask-requires-clause-meant : goal.ask-requires-clause-meant
ask-requires-clause-meant c = asks c.args.self.now.server.tables.schema c.args.query c.in-Ok.query c.in-Ok.is c.requires.means

pub returns-in-Ok-clause-acts : goal.returns-in-Ok-clause-acts
returns-in-Ok-clause-acts c = λ meaning means.
    asks-query (DoQuery c.args.client) c.args.self.now.server.tables.schema c.args.query c.args.self.now c.ask.new.self c.in-Ok.query meaning c.ask.result c.in-Ok.is means c.ask.ensures.acts
