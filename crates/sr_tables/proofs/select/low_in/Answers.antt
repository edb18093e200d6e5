use Rattle.std.proofs.Common.{◌≡◌, sym, ap, ◌∙◌}
use Rattle.std.specs.Prelude.{Some, slice_get}
use Rattle.std.specs.Option.{option_copied}
use Rattle.std.proofs.lemmas.Option.{IfSome_then}
use Rattle.sr_cell.specs.Cells.{cell_at}
use Rattle.sr_tables.proofs.Ends.{rect-at}
use Rattle.sr_tables.proofs.select.low_in.Goals as goal

pub returns-in-Some : goal.returns-in-Some
returns-in-Some c =
    let is : slice_get c.args.rect.now c.args.column ≡ Some c.in-Some.span.now = sym c.get.ensures ∙ ap (λ o. option_copied o) c.in-Some.is in
    IfSome_then c.low_of.result c.low_of.ensures (λ n end row inside. end (cell_at row c.args.column) (rect-at c.args.rect.now row c.args.column c.in-Some.span.now is inside))
