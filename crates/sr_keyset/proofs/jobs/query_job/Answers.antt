use Rattle.std.proofs.Common.{subst, List}
use Rattle.sr_cell.specs.declared.table.Table.{Table}
use Rattle.sr_reader.specs.Meaning.{IsAsking}
use Rattle.sr_keyset.proofs.Owning.{query-task}
use Rattle.sr_keyset.proofs.jobs.query_job.Goals as goal

pub returns-clause-is : goal.returns-clause-is
returns-clause-is c said says =
    query-task c.args.tables.now said c.args.client c.args.sql.now c.in_ok-query.query says
    (subst (λ (t : List Table). IsAsking t c.args.sql.now c.in_ok-query.query) c.schema.ensures.same c.in_ok-query.ensures)
