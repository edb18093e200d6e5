use Rattle.std.proofs.Common.{sym, ◌∙◌}
use Rattle.sr_cell.specs.Cells.{cell_at}
use Rattle.sr_model.proofs.Sides.{and-true}
use Rattle.sr_query.specs.Meant.{members}
use Rattle.sr_tables.proofs.span.+condition.Goals as goal

pub low_of_all-returns : goal.low_of_all-returns
low_of_all-returns t c row kind passes = c.first_low.ensures row kind (sym (and-true (cell_at row) (members c.args.all.now)) ∙ passes)
