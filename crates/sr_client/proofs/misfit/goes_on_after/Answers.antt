use Rattle.std.proofs.Common.{◌≡◌, ◌∷◌, [], ◌∙◌, ◌-◌, List, length, sym, ap, subst, Some, None}
use Rattle.std.specs.Prelude.{slice_get}
use Rattle.sr_cell.specs.Cells.{Row}
use Rattle.sr_message.specs.declared.message.Message.{Message}
use Rattle.sr_session.specs.Misfits.{goes_on, last_came}
use Rattle.sr_client.proofs.GoesLemmas.{row_some}
use Rattle.sr_client.proofs.misfit.goes_on_after.Goals as goal

pub returns-in-Some : goal.returns-in-Some
returns-in-Some c =
    let last : Row = c.in-Some.last.now in
    let value : Some c.in-Some.last.now ≡ slice_get c.in-Rows.came (length c.in-Rows.came - 1) =
    subst (λ (xs : List Row). Some c.in-Some.last.now ≡ slice_get xs (length xs - 1)) c.as_slice.ensures c.in-Some.ensures.value in
    c.goes_on_behind.ensures
    ∙ ap (λ l. goes_on c.args.key c.args.part l c.args.rows.now) (sym (row_some c.in-Rows.own c.in-Rows.came last value) ∙ ap (λ (m : Message). last_came None (m ∷ [])) (sym c.in-Rows.is))
