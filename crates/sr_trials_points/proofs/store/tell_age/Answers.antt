use Rattle.std.proofs.Common.{[], ◌∷◌, w64, ap, sym, subst, ◌∙◌}
use Rattle.std.proofs.lemmas.Int.{to_z-of_z}
use Rattle.std.proofs.lemmas.Result.{on_ok_weaker}
use Rattle.sr_message.specs.declared.message.Tell.{Tell}
use Rattle.sr_store.specs.Stores.{IsSettled}
use Rattle.sr_store.proofs.Storing.{settled-told}
use Rattle.sr_trials_points.proofs.Stores.{tells_one}
use Rattle.sr_trials_points.proofs.store.tell_age.Goals as goal

pub returns : goal.returns
returns c =
    let told = c.as_slice.ensures ∙ c.in_ok-told.ensures ∙ ap (λ (tell : Tell). tell ∷ []) c.in_ok-tell_of.ensures in
    let all = tells_one c.args.schema.now c.as_slice.result.now _ _ c.args.id c.args.age c.requires.there c.requires.key c.requires.point (to_z-of_z w64 c.args.id c.ranges.id) (to_z-of_z w64 c.args.age c.ranges.age) told in
    record {
      store = on_ok_weaker c.apply.result (λ store. store c.requires.store all) (c.apply.ensures.store c.args.schema.now);
      settled = on_ok_weaker c.apply.result (λ applied settled. subst (IsSettled c.args.schema.now) (sym applied) (settled-told c.args.schema.now c.as_slice.result.now c.args.store.now.regions settled)) c.apply.ensures.applied;
    }
