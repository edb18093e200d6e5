use Rattle.std.proofs.Common.{map}
use Rattle.sr_grammar.specs.Seen.{select_seen}
use Rattle.sr_query.specs.Bound.{output_of}
use Rattle.sr_resolve.specs.Joined.{join_of}
use Rattle.sr_bind.proofs.Low.{joins_near, outputs_low}
use Rattle.sr_bind.proofs.bind.bind_select.Goals as goal

pub query-requires-clause-joins : goal.query-requires-clause-joins
query-requires-clause-joins c =
    let schema = c.args.schema.now in
    let tables = c.as_slice-tables.result.now in
    joins_near schema tables 1 c.args.select.now.joins (map (join_of schema tables) c.in-Ok-joins.joins) c.requires c.in-Ok-joins.ensures

pub query-requires-clause-outputs : goal.query-requires-clause-outputs
query-requires-clause-outputs c =
    outputs_low c.args.schema.now c.as_slice-tables.result.now (select_seen c.args.select.now) (map output_of c.in-Ok-outputs.outputs) c.requires c.in-Ok-outputs.ensures
