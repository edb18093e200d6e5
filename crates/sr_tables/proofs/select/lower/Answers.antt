use Rattle.std.proofs.Common.{◌≡◌, true, arith}
use Rattle.sr_cell.specs.Cells.{cell_le}
use Rattle.sr_cell.proofs.Order.{cell_le-trans}
use Rattle.sr_tables.proofs.select.lower.Goals as goal

pub returns-then-is_at_most-clause-other : goal.returns-then-is_at_most-clause-other
returns-then-is_at_most-clause-other c v h =
    let le : cell_le c.args.one c.args.other ≡ true = grind (arith, c.if-is_at_most.true, c.is_at_most.ensures) in
    cell_le-trans c.args.one c.args.other v le h

pub returns-then-is_at_most-2-clause-one : goal.returns-then-is_at_most-2-clause-one
returns-then-is_at_most-2-clause-one c v h =
    let le : cell_le c.args.other c.args.one ≡ true = grind (arith, c.if-is_at_most-2.true, c.is_at_most-else-is_at_most.ensures) in
    cell_le-trans c.args.other c.args.one v le h
