use Rattle.sr_lines.specs.Events.{DoExplain}
use Rattle.sr_script.specs.declared.line.TraceLine.TheVariants.{ExplainSql}
use Rattle.sr_world.proofs.StepLemmas.{asks, asks-query, explain-text, refuses-query}
use Rattle.sr_world.proofs.world.World.explain.Goals as goal

pub returns-in-Err : goal.returns-in-Err
returns-in-Err c = record {
  acts = λ meaning means.
      refuses-query (DoExplain c.args.client) c.args.self.now.server.tables.schema c.args.self.now c.args.query meaning c.in-Err.fault (ExplainSql c.args.client c.in-Err.fault) c.one_line.result c.in-Err.is means
      (explain-text c.args.self.now c.args.client c.in-Err.fault c.requires.number) c.one_line.ensures;
}

pub tell-requires-clause-meant : goal.tell-requires-clause-meant
tell-requires-clause-meant c = asks c.args.self.now.server.tables.schema c.args.query c.in-Ok.query c.in-Ok.is c.requires.means

pub returns-in-Ok : goal.returns-in-Ok
returns-in-Ok c = record {
  acts = λ meaning means.
      asks-query (DoExplain c.args.client) c.args.self.now.server.tables.schema c.args.query c.args.self.now c.args.self.now c.in-Ok.query meaning c.tell.result c.in-Ok.is means c.tell.ensures.acts;
}
