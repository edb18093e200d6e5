use Rattle.std.proofs.Common.{◌++◌, ◌∙◌, map, ap, append_assoc}
use Rattle.std.specs.Prelude.{option_to_list}
use Rattle.std.proofs.lemmas.Result.{on_ok_weaker}
use Rattle.sr_store.specs.Renewing.{with_stamp}
use Rattle.sr_store.proofs.restamp.push_halves.Goals as goal

pub returns : goal.returns
returns c =
    let stamped = map (with_stamp c.args.number) (option_to_list c.args.halves.inside) in
    on_ok_weaker c.push_stamped.result
    (λ pushed. pushed ∙ ap (λ gs. gs ++ stamped) c.in_ok-push_half.ensures ∙ append_assoc c.args.pieces.now (option_to_list c.args.halves.outside) stamped)
    c.push_stamped.ensures
