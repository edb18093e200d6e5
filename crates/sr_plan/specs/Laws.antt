-- What laws say of plans.
use Rattle.std.specs.Prelude.{ℕ, List, [], ◌∷◌, ◌++◌, ◌≡◌}
use Rattle.sr_plan.specs.Plans.{Over, Did, Began, WentOn, Passed, plan_of, begun, left, stage_after}

-- the tasks that were begun, or done
abbrev pub tasks_done : {T A : Type 0} → List (Did T A) → List (ℕ × T)
tasks_done {T} {A} [] = []
tasks_done {T} {A} (Began t answer ∷ ds) = t ∷ tasks_done ds
tasks_done {T} {A} (WentOn answer ∷ ds) = tasks_done ds
tasks_done {T} {A} (Passed t ∷ ds) = t ∷ tasks_done ds

-- The list was done up to here, and this is left of it; where nothing is left to do, the whole of it was.
pub record DoesBeginning (T A : Type 0) (tasks : List (ℕ × T)) (ds : List (Did T A)) : Type 0 where
  pub rest : List (ℕ × T)
  pub are : tasks ≡ tasks_done ds ++ rest
  pub left_is : left (stage_after (begun (plan_of {T = T} {A = A} tasks)) ds) ≡ plan_of rest
  pub whole : left (stage_after (begun (plan_of {T = T} {A = A} tasks)) ds) ≡ Over → tasks ≡ tasks_done ds

-- each task that was begun, or done, is such a one
abbrev pub AreOf : {T A : Type 0} → (T → Type 0) → List (Did T A) → Type 0
AreOf {T} {A} P [] = Unit {0}
AreOf {T} {A} P (Began t answer ∷ ds) = P t.1 × AreOf P ds
AreOf {T} {A} P (WentOn answer ∷ ds) = AreOf P ds
AreOf {T} {A} P (Passed t ∷ ds) = P t.1 × AreOf P ds
