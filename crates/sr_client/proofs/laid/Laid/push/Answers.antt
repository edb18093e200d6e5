use Rattle.std.proofs.Common.{◌∷◌, ◌++◌, [], List, sym, ap, subst, ◌∙◌}
use Rattle.sr_message.specs.declared.message.Message.{Message}
use Rattle.sr_session.specs.Misfits.{known, version_of}
use Rattle.sr_client.specs.Shapes.{IsLastRows}
use Rattle.sr_client.proofs.LaidLemmas.{known-append}
use Rattle.sr_client.proofs.laid.Laid.push.Goals as goal

pub invariant_of-self-2 : goal.invariant_of-self-2
invariant_of-self-2 c =
    let old : List Message = c.self.inside.messages in
    let m = c.args.message in
    let place = c.last_rows_with-last_rows.result in (
      c.version_of-newest.ensures ∙ ap (version_of m) c.self.invariant.0 ∙ sym (known-append 0 old m) ∙ ap (known 0) (sym c.in_ok-push.ensures.pushed),
      subst (λ messages. IsLastRows messages place) (ap (λ messages. messages ++ m ∷ []) c.as_slice.ensures ∙ sym c.in_ok-push.ensures.pushed) c.last_rows_with-last_rows.ensures,
    )
