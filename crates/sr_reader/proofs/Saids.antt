-- What the words of an event say.
use Rattle.std.proofs.Common.{ℕ, List, refl}
use Rattle.std.specs.Prelude.{Result}
use Rattle.sr_cell.specs.declared.table.Table.{Table}
use Rattle.sr_cell.specs.declared.fault.Fault.{Fault}
use Rattle.sr_query.specs.declared.query.Query.{Query}
use Rattle.sr_lines.specs.Events.{DoExplain, DoQuery}
use Rattle.sr_lines.specs.Script.{ExplainSql, QuerySql}
use Rattle.sr_reader.specs.declared.script.Event.TheVariants as read
use Rattle.sr_reader.specs.Meaning.{IsAsking, IsSaid}

pub query_said : (tables : List Table) (sql : List ℕ) (n : ℕ) (query : Result Query Fault) → IsAsking tables sql query → IsSaid tables (QuerySql n sql) (read.Query n query)
query_said tables sql n query asks = (DoQuery n asks.0, (asks.0, asks.1, refl), (asks.0, asks.2, refl), λ clients names. names)

pub explain_said : (tables : List Table) (sql : List ℕ) (n : ℕ) (query : Result Query Fault) → IsAsking tables sql query → IsSaid tables (ExplainSql n sql) (read.Explain n query)
explain_said tables sql n query asks = (DoExplain n asks.0, (asks.0, asks.1, refl), (asks.0, asks.2, refl), λ clients names. names)
