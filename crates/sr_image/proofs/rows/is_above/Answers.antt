use Rattle.std.proofs.Common.{◌≡◌, arith}
use Rattle.sr_model.specs.SortedRows.{key_lt}
use Rattle.sr_image.specs.Reading.{is_above}
use Rattle.sr_image.proofs.Alike.{above-last}
use Rattle.sr_image.proofs.rows.is_above.Goals as goal

pub returns-then-is_row_at_most : goal.returns-then-is_row_at_most
returns-then-is_row_at_most c =
    let h : is_above c.args.key c.args.before.now c.args.row.now ≡ key_lt c.args.key c.last-item.result c.args.row.now =
    above-last c.args.key c.args.before.now c.args.row.now c.last-item.result c.in-len1-up.len_at_least c.last-item.is in
    grind (arith, h, c.is_row_at_most.ensures, c.if-is_row_at_most.true, c.is_row_at_most-then-is_row_at_most.ensures)

pub returns-else-is_row_at_most : goal.returns-else-is_row_at_most
returns-else-is_row_at_most c =
    let h : is_above c.args.key c.args.before.now c.args.row.now ≡ key_lt c.args.key c.last-item.result c.args.row.now =
    above-last c.args.key c.args.before.now c.args.row.now c.last-item.result c.in-len1-up.len_at_least c.last-item.is in
    grind (arith, h, c.is_row_at_most.ensures, c.if-is_row_at_most.false)
