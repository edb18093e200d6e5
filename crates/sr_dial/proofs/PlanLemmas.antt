-- One thing more goes by a plan.
use Rattle.std.proofs.Common.{◌≡◌, ℕ, Bool, List, [], ◌∷◌, ◌++◌, refl, sym, ◌∙◌, ap, subst, Option, None}
use Rattle.std.proofs.lemmas.List.{map-append}
use Rattle.sr_links.specs.Steps.{Step, Deed}
use Rattle.sr_plan.specs.Plans.{Plan, Next, Did, Passed, Stage, GoBy, IsDue, IsNext, begun, behind, left, stage_after, stage_of}
use Rattle.sr_plan.proofs.Going.{goes-more, stage-more}
use Rattle.sr_dial.specs.Calls.{Cause, Scripted, Delivered, Failed, Done, Made, Task, Do}
use Rattle.sr_dial.specs.Following.{Ahead, answer_of, did_by, did_of, dids_of, stage_by}
use Rattle.sr_dial.specs.declared.parts.Answer.{Answer}

-- A step that a line asked for was the next task; any other leaves what is ahead.
abbrev pub GoesOn : Cause → Ahead → Option Answer → ℕ → Deed → Ahead → Type 0
GoesOn Scripted ahead lent number deed further = ahead lent ≡ Next number (Do deed) further
GoesOn other ahead lent number deed further = ahead ≡ further

module _ {C : Type 0} (keeps : Bool) (plan : Plan Task Answer) (ds : List (Done C)) (d : Done C) where
  dids-one : dids_of keeps (ds ++ d ∷ []) ≡ dids_of keeps ds ++ did_of keeps d ∷ []
  dids-one = map-append (did_of keeps) ds (d ∷ [])

  pub stage-one : stage_by keeps plan (ds ++ d ∷ []) ≡ stage_of (stage_by keeps plan ds) (did_of keeps d)
  stage-one = ap (stage_after (begun plan)) dids-one ∙ stage-more (begun plan) (dids_of keeps ds) (did_of keeps d)

  pub one-goes : GoBy (begun plan) (dids_of keeps ds) → IsDue (stage_by keeps plan ds) (did_of keeps d) → GoBy (begun plan) (dids_of keeps (ds ++ d ∷ []))
  one-goes goes due = subst (GoBy (begun plan)) (sym dids-one) (goes-more (begun plan) (dids_of keeps ds) (did_of keeps d) goes due)

-- what is left, where this is ahead and that was the answer
pub left-is : {C : Type 0} (keeps : Bool) (plan : Plan Task Answer) (ds : List (Done C)) (ahead : Ahead) (lent : Option Answer) → (stage_by keeps plan ds).ahead ≡ ahead → (stage_by keeps plan ds).answer ≡ lent
    → left (stage_by keeps plan ds) ≡ ahead lent
left-is keeps plan ds ahead lent ahead_is answer_is = ap (λ (a : Ahead). a (stage_by keeps plan ds).answer) ahead_is ∙ ap ahead answer_is

module _ {C : Type 0} (keeps : Bool) (plan : Plan Task Answer) (ds : List (Done C)) (ahead further : Ahead) (lent : Option Answer) (goes : GoBy (begun plan) (dids_of keeps ds))
    (ahead_is : (stage_by keeps plan ds).ahead ≡ ahead) (answer_is : (stage_by keeps plan ds).answer ≡ lent) where
  next-is : left (stage_by keeps plan ds) ≡ ahead lent
  next-is = left-is keeps plan ds ahead lent ahead_is answer_is

  -- ---- a step

  due-by : (cause : Cause) (number : ℕ) (deed : Deed) (answer : Option Answer) → GoesOn cause ahead lent number deed further → IsDue (stage_by keeps plan ds) (did_by cause number deed answer)
  due-by Scripted number deed answer on = subst (λ (p : Plan Task Answer). IsNext p (number, Do deed)) (sym (next-is ∙ on)) refl
  due-by Delivered number deed answer on = tt
  due-by Failed number deed answer on = tt

  ahead-by : (cause : Cause) (number : ℕ) (deed : Deed) (answer : Option Answer) → GoesOn cause ahead lent number deed further → (stage_of (stage_by keeps plan ds) (did_by cause number deed answer)).ahead ≡ further
  ahead-by Scripted number deed answer on = ap (λ (p : Plan Task Answer). behind p) (next-is ∙ on)
  ahead-by Delivered number deed answer on = ahead_is ∙ on
  ahead-by Failed number deed answer on = ahead_is ∙ on

  answer-by : (cause : Cause) (number : ℕ) (deed : Deed) (answer : Option Answer) → (stage_of (stage_by keeps plan ds) (did_by cause number deed answer)).answer ≡ answer
  answer-by Scripted number deed answer = refl
  answer-by Delivered number deed answer = refl
  answer-by Failed number deed answer = refl

  module _ (number : ℕ) (cause : Cause) (step : Step C) where
    pub made-goes : GoesOn cause ahead lent number step.deed further → GoBy (begun plan) (dids_of keeps (ds ++ Made number cause step ∷ []))
    made-goes on = one-goes keeps plan ds (Made number cause step) goes (due-by cause number step.deed (answer_of keeps step.outcome) on)

    pub made-ahead : GoesOn cause ahead lent number step.deed further → (stage_by keeps plan (ds ++ Made number cause step ∷ [])).ahead ≡ further
    made-ahead on = ap (λ (s : Stage Task Answer). s.ahead) (stage-one keeps plan ds (Made number cause step)) ∙ ahead-by cause number step.deed (answer_of keeps step.outcome) on

    pub made-answer : (stage_by keeps plan (ds ++ Made number cause step ∷ [])).answer ≡ answer_of keeps step.outcome
    made-answer = ap (λ (s : Stage Task Answer). s.answer) (stage-one keeps plan ds (Made number cause step)) ∙ answer-by cause number step.deed (answer_of keeps step.outcome)

  -- ---- what has no answer

  module _ (d : Done C) (number : ℕ) (task : Task) (is : did_of keeps d ≡ Passed (number, task)) where
    pub passed-goes : ahead lent ≡ Next number task further → GoBy (begun plan) (dids_of keeps (ds ++ d ∷ []))
    passed-goes on =
        one-goes keeps plan ds d goes
        (subst (λ (x : Did Task Answer). IsDue (stage_by keeps plan ds) x) (sym is) (subst (λ (p : Plan Task Answer). IsNext p (number, task)) (sym (next-is ∙ on)) refl))

    passed-stage : stage_by keeps plan (ds ++ d ∷ []) ≡ stage_of (stage_by keeps plan ds) (Passed (number, task))
    passed-stage = stage-one keeps plan ds d ∙ ap (stage_of (stage_by keeps plan ds)) is

    pub passed-ahead : ahead lent ≡ Next number task further → (stage_by keeps plan (ds ++ d ∷ [])).ahead ≡ (λ answer. further None)
    passed-ahead on = ap (λ (s : Stage Task Answer). s.ahead) passed-stage ∙ ap {B = Ahead} (λ (p : Plan Task Answer). λ answer. behind p None) (next-is ∙ on)

    pub passed-answer : (stage_by keeps plan (ds ++ d ∷ [])).answer ≡ lent
    passed-answer = ap (λ (s : Stage Task Answer). s.answer) passed-stage ∙ answer_is
