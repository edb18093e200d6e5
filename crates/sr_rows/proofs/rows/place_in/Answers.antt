use Rattle.std.proofs.Common.{rules}
use Rattle.std.proofs.lemmas.List.Sorted.{IsPartitionPoint-from_clause}
use Rattle.sr_cell.specs.Cells.{cell_at, cell_le}
use Rattle.sr_rows.proofs.Places.{ascend-parted, point-place}
use Rattle.sr_rows.proofs.rows.place_in.Goals as goal

pub returns-clause-place : goal.returns-clause-place
returns-clause-place c =
    let parted = ascend-parted c.args.key c.args.cell.now c.args.rows.now c.requires in
    let point = IsPartitionPoint-from_clause (λ row. cell_le (cell_at row c.args.key) c.args.cell.now) _ _ c.partition_point.ensures.partitioned parted (λ a r q k. search rules) in
    point-place (λ row. cell_le (cell_at row c.args.key) c.args.cell.now) c.args.rows.now c.partition_point.result c.partition_point.ensures.bound point
