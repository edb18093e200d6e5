use Rattle.std.proofs.Common.{◌≡◌, true, sym, subst, rules}
use Rattle.std.specs.Prelude.{Option, Some, IfSome}
use Rattle.std.proofs.lemmas.Option.{IfSome_then}
use Rattle.sr_cell.specs.declared.cell.Cell.{Cell}
use Rattle.sr_cell.specs.declared.cell.Cell.TheVariants.{Num}
use Rattle.sr_cell.specs.Cells.{cell_le}
use Rattle.sr_box.specs.Spans.{in_span}
use Rattle.sr_tables.proofs.Ends.{nums-high, texts-high, null-high}
use Rattle.sr_tables.proofs.select.high_of.Goals as goal

pub returns-in-Nums : goal.returns-in-Nums
returns-in-Nums c =
    let is : c.end_at.result ≡ Some (Num c.in-Nums.hi) = search rules in
    subst (λ (o : Option Cell). IfSome o (λ high. (v : Cell) → in_span c.args.span.now v ≡ true → cell_le v high ≡ true)) (sym is)
    (λ v h. nums-high c.in-Nums.lo c.in-Nums.hi v (rw c.in-Nums.is at h))

pub returns-in-Strs : goal.returns-in-Strs
returns-in-Strs c =
    IfSome_then c.end_of.result c.end_of.ensures (λ text below v h. texts-high c.in-Strs.lo c.in-Strs.hi text v below (rw c.in-Strs.is at h))

pub returns-in-Null : goal.returns-in-Null
returns-in-Null c = λ v h. null-high v (rw c.in-Null.is at h)
