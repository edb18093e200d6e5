use Rattle.std.proofs.Common.{◌≡◌, sym, ap, subst, ◌∙◌, true}
use Rattle.std.proofs.lemmas.Option.{IfSome_then}
use Rattle.sr_cell.specs.declared.cell.Cell.TheVariants.{Str}
use Rattle.sr_cell.specs.Cells.{cell_le}
use Rattle.sr_tables.proofs.Ends.{text-below}
use Rattle.sr_tables.proofs.select.end_of.Goals as goal

pub returns-in-Some : goal.returns-in-Some
returns-in-Some c =
    IfSome_then c.text_of.result c.text_of.ensures (λ text is s h.
    subst (λ t. cell_le (Str s) t ≡ true) (sym (is ∙ ap Str c.as_slice.ensures)) (text-below c.in-Some.bytes s (rw c.in-Some.is at h)))
