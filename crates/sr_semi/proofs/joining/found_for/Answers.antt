use Rattle.std.specs.Option.{option_copied}
use Rattle.sr_cell.specs.Cells.{cell_at}
use Rattle.sr_semi.proofs.Looking.{found-if}
use Rattle.sr_semi.proofs.joining.found_for.Goals as goal

pub returns-in-Some : goal.returns-in-Some
returns-in-Some c p all e =
    found-if p all c.args.keys.now c.args.found.now c.in-Some.key (cell_at c.args.left.now c.args.place) (option_copied c.get.result) e c.in-Some.ensures.found c.get.ensures
