use Rattle.std.proofs.Common.{◌≡◌, true, arith}
use Rattle.sr_cell.specs.Cells.{cell_le}
use Rattle.sr_tables.proofs.InTurn.{within-last}
use Rattle.sr_tables.proofs.turns.is_last_within.Goals as goal

pub returns-in-Some : goal.returns-in-Some
returns-in-Some c within v at =
    let le : cell_le c.in-Some.last c.args.high.now ≡ true = grind (arith, within, c.is_at_most.ensures) in
    within-last c.args.last.now c.in-Some.last c.args.high.now v c.in-Some.is le at
