use Rattle.std.proofs.Common.{ℕ, ◌∷◌, [], ◌++◌, map, ap, ◌∙◌, arith}
use Rattle.sr_cell.specs.declared.cell.Cell.{Cell}
use Rattle.sr_query.specs.Writes.{numbers_from, value_for}
use Rattle.sr_bind.proofs.Writing.{one_cell_more}
use Rattle.sr_load.proofs.load.cells_in_order.Goals as goal

pub loop-column-preserved : goal.loop-column-preserved
loop-column-preserved c =
    let columns = c.args.table.now.columns in
    let value : ℕ → Cell = λ d. value_for d c.args.columns.now c.args.cells.now in
    let pushed = c.in_ok-push.ensures.pushed ∙ ap (λ (v : Cell). c.loop-column.row ++ v ∷ []) c.in_ok-value_for.ensures in
    one_cell_more value c.loop-column.column columns c.loop-column.row c.push.new.self (map value (numbers_from 0 columns)) (omega arith) c.loop-column.invariant pushed
