use Rattle.std.proofs.Common.{◌≡◌, sym, ap, ◌∙◌, arith, pos}
use Rattle.std.proofs.lemmas.List.{get_or_default}
use Rattle.sr_cell.specs.declared.cell.Cell.TheVariants.{Num}
use Rattle.sr_cell.specs.Cells.{cell_at, cell_eq}
use Rattle.sr_semi.proofs.keys.place_of.Goals as goal

pub returns-then-is_equal-clause-found : goal.returns-then-is_equal-clause-found
returns-then-is_equal-clause-found c =
    let within = c.loop-i-test.true in
    let same : c.index-cells-i.result ≡ cell_at c.args.cells.now c.loop-i.i = c.index-cells-i.is ∙ get_or_default c.args.cells.now c.loop-i.i c.index-cells-i.result (Num (pos 0)) (omega (arith, within)) in
    record { within = omega (arith, within); equal = ap (cell_eq c.args.cell.now) (sym same) ∙ (sym c.is_equal.ensures ∙ c.if-is_equal.true) }
