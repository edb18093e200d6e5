use Rattle.std.proofs.Common.{◌≡◌, [], ◌∷◌, ◌++◌, ◌∙◌, ap}
use Rattle.sr_union.proofs.Once.{one_over}
use Rattle.sr_union.proofs.disjoint.rest_of.Goals as goal

pub returns-clause-over : goal.returns-clause-over
returns-clause-over c = λ e.
    let one : c.push.new.self ≡ c.args.rect.now ∷ [] = c.in_ok-push.ensures.pushed ∙ (ap (λ l. l ++ c.in_ok-copy.copy ∷ []) c.new-one.ensures ∙ ap (λ r. r ∷ []) c.in_ok-copy.ensures) in
    one_over c.args.columns.now c.push.new.self c.args.others.now c.args.rect.now c.args.limit one (λ m h. c.cut_all.ensures.over m e h)
