use Rattle.std.proofs.Common.{◌≡◌, true, sym, subst, ap, ◌∙◌}
use Rattle.std.specs.Prelude.{slice_get, Some}
use Rattle.std.specs.Option.{option_copied}
use Rattle.std.proofs.lemmas.Option.{get_or_from_slice_get}
use Rattle.std.proofs.lemmas.Result.{on_ok_weaker}
use Rattle.sr_cell.specs.Cells.{cell_at}
use Rattle.sr_keyed.proofs.Order.{order}
use Rattle.sr_regions.specs.Named.{is_named}
use Rattle.sr_regions.proofs.index.add_name.Goals as goal

pub returns-in-Some-clause-added : goal.returns-in-Some-clause-added
returns-in-Some-clause-added c =
    let key = c.in-Some.key.now in
    let at : slice_get c.args.row.now c.args.place ≡ Some key = sym c.get.ensures ∙ ap option_copied c.in-Some.is in
    let is : cell_at c.args.row.now c.args.place ≡ key = get_or_from_slice_get c.args.row.now c.args.place key _ at in
    on_ok_weaker c.add.result (λ named. subst (λ k. is_named order (Some c.add.new.self) k c.args.number ≡ true) (sym is) named) c.add.ensures.added
