use Rattle.std.proofs.Common.{◌≡◌, true, List, get_or, sym, subst}
use Rattle.sr_cell.specs.declared.table.Column.{Column}
use Rattle.sr_cell.specs.Cells.{cell_at}
use Rattle.sr_keyed.specs.Keyed.{is_of}
use Rattle.sr_tables.proofs.Ends.{fits-kind_of}
use Rattle.sr_tables.proofs.span.high_key.Goals as goal

pub returns-in-Some : goal.returns-in-Some
returns-in-Some c row fits passes =
    let column = c.index-columns-key.result in
    let kind = fits-kind_of c.args.table.now.columns c.args.table.now.key row column c.requires fits in
    c.high_end.ensures row
    (subst (λ (columns : List Column). is_of (get_or columns c.args.table.now.key column).kind (cell_at row c.args.table.now.key) ≡ true) (sym c.as_slice-columns.ensures) kind)
    (rw c.in-Some.is at passes)
