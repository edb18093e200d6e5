use Rattle.sr_grammar.specs.Seen.{statement_seen}
use Rattle.sr_agg.proofs.Beginning.{asked-found}
use Rattle.sr_agg.proofs.agg.asked.Goals as goal

pub returns-clause-found : goal.returns-clause-found
returns-clause-found c =
    asked-found c.args.schema.now c.args.text.now (statement_seen c.in-Ok.statement) c.bind_query-query.result c.in-Ok.ensures.found c.bind_query-query.ensures.bound
