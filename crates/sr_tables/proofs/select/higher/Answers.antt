use Rattle.std.proofs.Common.{◌≡◌, true, arith}
use Rattle.sr_cell.specs.Cells.{cell_le}
use Rattle.sr_cell.proofs.Order.{cell_le-trans}
use Rattle.sr_tables.proofs.select.higher.Goals as goal

pub returns-then-is_at_most-clause-one : goal.returns-then-is_at_most-clause-one
returns-then-is_at_most-clause-one c v h =
    let le : cell_le c.args.one c.args.other ≡ true = grind (arith, c.if-is_at_most.true, c.is_at_most.ensures) in
    cell_le-trans v c.args.one c.args.other h le

pub returns-then-is_at_most-2-clause-other : goal.returns-then-is_at_most-2-clause-other
returns-then-is_at_most-2-clause-other c v h =
    let le : cell_le c.args.other c.args.one ≡ true = grind (arith, c.if-is_at_most-2.true, c.is_at_most-else-is_at_most.ensures) in
    cell_le-trans v c.args.other c.args.one h le
