use Rattle.std.proofs.Common.{◌≡◌, ◌^◌, ◌<◌, ◌≤◌, length, true, ◌∙◌, sym, arith}
use Rattle.std.specs.Prelude.{nat_lt}
use Rattle.std.proofs.lemmas.Bool.{le-leb}
use Rattle.sr_image.proofs.Alike.{below-power}
use Rattle.sr_image.proofs.read.are_columns.Goals as goal

pub returns-then-columns-ge16 : goal.returns-then-columns-ge16
returns-then-columns-ge16 c =
    let many : 16 ≤ length c.args.table.now.columns = omega (arith, c.if-columns-ge16.true, c.len-columns.ensures) in
    let low : c.args.attrs < 2 ^ 16 = omega arith in
    le-leb 16 c.len-columns.result c.if-columns-ge16.true ∙ sym (below-power c.args.attrs (length c.args.table.now.columns) low many)
