use Rattle.std.proofs.Common.{rules, ◌≡◌, ◌-◌, false, length, Some, arith}
use Rattle.std.specs.Prelude.{slice_get}
use Rattle.sr_cell.specs.Cells.{cell_at, cell_le}
use Rattle.sr_store.proofs.Sharing.{none-before}
use Rattle.sr_store.proofs.give_way.is_below.Goals as goal

pub returns-in-Some-Some : goal.returns-in-Some-Some
returns-in-Some-Some c = λ below.
    let last : slice_get c.args.rows.now (length c.args.rows.now - 1) ≡ Some c.in-Some-Some.last.now = search rules in
    let first : slice_get c.args.others.now 0 ≡ Some c.in-Some-Some.first.now = search rules in
    let is = c.is_row_at_most.ensures in
    let above : cell_le (cell_at c.in-Some-Some.first.now c.args.place) (cell_at c.in-Some-Some.last.now c.args.place) ≡ false = grind (arith, is, below) in
    none-before c.args.place c.args.rows.now c.args.others.now c.in-Some-Some.last.now c.in-Some-Some.first.now c.requires.rows c.requires.others last first above
