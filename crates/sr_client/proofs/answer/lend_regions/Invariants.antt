use Rattle.std.proofs.Common.{List, take}
use Rattle.sr_cell.specs.declared.table.Table.{Table}
use Rattle.sr_model.specs.Queries.{rows_at}
use Rattle.sr_model.specs.Statements.{Tables}
use Rattle.sr_client.specs.Answering.{is_kept, IsPartOver, HaveRows, LendsMore}
use Rattle.sr_client.proofs.answer.lend_regions.Given as goal

abbrev pub invariant-loop-region : goal.invariant-loop-region
invariant-loop-region l =
    (schema : List Table) (tables : Tables) → IsPartOver schema tables l.part → HaveRows schema tables l.regions
    → LendsMore l.number l.part.need (rows_at tables l.part.table) (is_kept l.part (take l.region-index l.regions)) l.initial.lending.runs l.lending.runs
