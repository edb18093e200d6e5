use Rattle.std.proofs.Common.{List, take}
use Rattle.sr_cell.specs.declared.table.Table.{Table}
use Rattle.sr_model.specs.Queries.{rows_at}
use Rattle.sr_model.specs.Statements.{Tables}
use Rattle.sr_client.specs.Answering.{is_new, IsPartOver, BringRows, LendsMore}
use Rattle.sr_client.proofs.answer.lend_arrivals.Given as goal

abbrev pub invariant-loop-arrival : goal.invariant-loop-arrival
invariant-loop-arrival l =
    (schema : List Table) (tables : Tables) → IsPartOver schema tables l.part → BringRows schema tables l.part l.arrivals
    → LendsMore l.number l.part.need (rows_at tables l.part.table) (is_new l.part (take l.arrival-index l.arrivals)) l.initial.lending.runs l.lending.runs
