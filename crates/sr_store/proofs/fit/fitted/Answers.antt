use Rattle.std.proofs.Common.{[], sym, subst}
use Rattle.std.proofs.lemmas.List.{append-nil}
use Rattle.sr_store.specs.Fitted.{IsFitted}
use Rattle.sr_store.proofs.fit.fitted.Goals as goal

pub returns-then-are_within : goal.returns-then-are_within
returns-then-are_within c =
    let schema = c.args.schema.now in
    let last = c.args.last.now in
    let fitted = subst (λ rs. IsFitted schema c.args.limits last rs rs []) c.as_slice.ensures (c.are_within.ensures schema last c.if-are_within.true) in
    ([], fitted, sym (append-nil c.args.answer.marks))
