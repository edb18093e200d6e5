use Rattle.std.proofs.Common.{◌≡◌, List, length, ap, subst, ◌∙◌}
use Rattle.std.specs.Prelude.{IfOk}
use Rattle.sr_query.specs.declared.query.Part.{Part}
use Rattle.sr_join.specs.declared.runs.Run.{Run}
use Rattle.sr_join.specs.Joins.{AreBy, answers_of, found_at}
use Rattle.sr_join.specs.Shown.{Shown}
use Rattle.sr_join.proofs.Answered.{FindsEach, right-answer}
use Rattle.sr_join.proofs.lending.Lending.answer.Goals as goal

pub returns : goal.returns
returns c schema tables meaning =
    right-answer c.join_all.result schema tables c.args.query.now meaning c.args.self.runs c.in_ok-found.found
    (subst (λ (f : List (List Shown)). IfOk c.join_all.result (λ answer. AreBy c.args.query.now.parts f → answer ≡ answers_of c.args.query.now f (found_at f 0))) c.as_slice-3.ensures c.join_all.ensures)
    (subst (λ (runs : List Run). FindsEach c.args.query.now.parts runs c.in_ok-found.found) c.as_slice-2.ensures
    (subst (λ (parts : List Part). FindsEach parts c.as_slice-2.result.now c.in_ok-found.found) c.as_slice.ensures c.in_ok-found.ensures.shown))
    (c.in_ok-found.ensures.each ∙ ap length c.as_slice.ensures)
