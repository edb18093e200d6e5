use Rattle.std.proofs.Common.{ℕ, length, ap, ◌∙◌}
use Rattle.std.proofs.lemmas.List.{length-map}
use Rattle.sr_cell.specs.declared.cell.Cell.{Cell}
use Rattle.sr_query.specs.Writes.{numbers_from, value_for}
use Rattle.sr_query.proofs.Steps.{length-numbers_from}
use Rattle.sr_load.proofs.load.row_of.Goals as goal

pub returns-in_ok-cells_in_order-in-Ok-clause-width : goal.returns-in_ok-cells_in_order-in-Ok-clause-width
returns-in_ok-cells_in_order-in-Ok-clause-width c =
    let columns = c.args.table.now.columns in
    let value : ℕ → Cell = λ d. value_for d c.args.columns.now c.as_slice.result.now in
    ap length c.in_ok-cells_in_order-in-Ok.ensures.ordered ∙ length-map (numbers_from 0 columns) value ∙ length-numbers_from 0 columns
