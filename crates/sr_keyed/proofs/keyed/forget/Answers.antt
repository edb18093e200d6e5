use Rattle.std.proofs.Common.{◌≡◌, false, sym, ap, subst, ◌∙◌}
use Rattle.std.specs.Prelude.{Some}
use Rattle.std.specs.Option.{option_copied}
use Rattle.std.specs.Map.{lookup}
use Rattle.std.specs.BTreeMap.{is_at}
use Rattle.sr_cell.specs.Cells.{cell_at, cell_eq}
use Rattle.sr_cell.proofs.Order.{cell_eq-sound}
use Rattle.sr_keyed.proofs.Order.{order}
use Rattle.sr_keyed.proofs.Entries.{lookup-key}
use Rattle.sr_keyed.proofs.keyed.forget.Goals as goal

pub returns-in-Some : goal.returns-in-Some
returns-in-Some c other apart h =
    let key = c.args.key in
    let value = c.args.value.now in
    let row = c.in-Some.row.now in
    let is : lookup (is_at (order value)) c.args.rows.now.entries ≡ Some row = sym c.get.ensures.value ∙ ap option_copied c.in-Some.is in
    let same : cell_at row key ≡ value = cell_eq-sound (cell_at row key) value (lookup-key key c.requires.0 value row c.args.rows.now.entries c.requires.1 is) in
    c.remove.ensures other (subst (λ v. cell_eq (cell_at other key) v ≡ false) (sym same) apart) h
