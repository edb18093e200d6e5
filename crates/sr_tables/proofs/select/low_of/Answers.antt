use Rattle.std.proofs.Common.{◌≡◌, true, sym, ap, subst, ◌∙◌, rules}
use Rattle.std.specs.Prelude.{Option, Some, IfSome}
use Rattle.std.proofs.lemmas.Option.{IfSome_then}
use Rattle.sr_cell.specs.declared.cell.Cell.{Cell}
use Rattle.sr_cell.specs.declared.cell.Cell.TheVariants.{Num, Str}
use Rattle.sr_cell.specs.Cells.{cell_le}
use Rattle.sr_box.specs.Spans.{in_span}
use Rattle.sr_tables.proofs.Ends.{nums-low, texts-low, null-low}
use Rattle.sr_tables.proofs.select.low_of.Goals as goal

pub returns-in-Nums : goal.returns-in-Nums
returns-in-Nums c =
    let is : c.end_at.result ≡ Some (Num c.in-Nums.lo) = search rules in
    subst (λ (o : Option Cell). IfSome o (λ low. (v : Cell) → in_span c.args.span.now v ≡ true → cell_le low v ≡ true)) (sym is)
    (λ v h. nums-low c.in-Nums.lo c.in-Nums.hi v (rw c.in-Nums.is at h))

pub returns-in-Strs : goal.returns-in-Strs
returns-in-Strs c =
    IfSome_then c.text_of.result c.text_of.ensures (λ text is v h.
    subst (λ t. cell_le t v ≡ true) (sym (is ∙ ap Str c.as_slice.ensures)) (texts-low c.in-Strs.lo c.in-Strs.hi v (rw c.in-Strs.is at h)))

pub returns-in-Null : goal.returns-in-Null
returns-in-Null c = λ v h. null-low v (rw c.in-Null.is at h)
