use Rattle.std.proofs.Common.{List}
use Rattle.std.specs.List.{AllZip}
use Rattle.sr_cell.specs.declared.table.Table.{Table}
use Rattle.sr_model.specs.Queries.{Query}
use Rattle.sr_model.specs.Statements.{Tables}
use Rattle.sr_join.specs.Lent.{IsJoinable}
use Rattle.sr_client.specs.Answering.{HaveRows, IsThere}
use Rattle.sr_client.proofs.LendLemmas.{LentUpto}
use Rattle.sr_client.proofs.answer.lend_all.Given as goal

abbrev pub invariant-loop-i : goal.invariant-loop-i
invariant-loop-i l =
    (schema : List Table) (tables : Tables) (meaning : Query) → IsJoinable schema tables l.query meaning → HaveRows schema tables l.regions
    → AllZip (IsThere schema tables l.regions l.arrivals) l.query.parts meaning.parts → LentUpto tables meaning.parts l.i l.lending.runs
