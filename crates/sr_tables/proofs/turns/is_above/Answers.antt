use Rattle.std.proofs.Common.{◌≡◌, false, arith}
use Rattle.sr_cell.specs.Cells.{cell_le}
use Rattle.sr_tables.proofs.InTurn.{above-last}
use Rattle.sr_tables.proofs.turns.is_above.Goals as goal

pub returns-in-Some : goal.returns-in-Some
returns-in-Some c above v le =
    let off : cell_le c.args.low.now c.in-Some.last ≡ false = grind (arith, above, c.is_at_most.ensures) in
    above-last c.args.last.now c.in-Some.last c.args.low.now v c.in-Some.is off le
