-- What is to be done, one task after another, where the next may depend on the answer of the last.
use Rattle.std.specs.Prelude.{ℕ, List, [], ◌∷◌, ◌≡◌, Option, None, IfSome}

-- What is left to do: nothing; or a task, for the line of that number, and then what follows from its answer, if it has one.
pub data Plan (T A : Type 0) : Type 0 where
  Over : Plan T A
  Next : (line : ℕ) (task : T) (ahead : Option A → Plan T A) → Plan T A

-- What was done: a task was begun, or one that had begun went on, each with the answer that came of this; or a task was done that has no
-- answer.
pub data Did (T A : Type 0) : Type 0 where
  Began : (task : ℕ × T) (answer : Option A) → Did T A
  WentOn : (answer : Option A) → Did T A
  Passed : (task : ℕ × T) → Did T A

-- how far a plan has come: what follows from each answer, and the answer that came last
pub record Stage (T A : Type 0) : Type 0 where
  pub ahead : Option A → Plan T A
  pub answer : Option A

-- ---- plans

-- the tasks of a list, whatever their answers are
abbrev pub plan_of : {T A : Type 0} → List (ℕ × T) → Plan T A
plan_of {T} {A} [] = Over
plan_of {T} {A} (t ∷ tasks) = Next t.0 t.1 (λ answer. plan_of tasks)

-- Each task that it may come to is such a one.
abbrev pub AllTasks : {T A : Type 0} → (T → Type 0) → Plan T A → Type 0
AllTasks {T} {A} P Over = Unit {0}
AllTasks {T} {A} P (Next line task ahead) = P task × ((answer : Option A) → AllTasks P (ahead answer))

-- The same, as long as each answer is such a one for its task.
abbrev pub AllTasksIf : {T A : Type 0} → (T → A → Type 0) → (T → Type 0) → Plan T A → Type 0
AllTasksIf {T} {A} R P Over = Unit {0}
AllTasksIf {T} {A} R P (Next line task ahead) = P task × ((answer : Option A) → IfSome answer (R task) → AllTasksIf R P (ahead answer))

-- ---- going by a plan

-- before anything was done
abbrev pub begun : {T A : Type 0} → Plan T A → Stage T A
begun {T} {A} plan = record { ahead = λ answer. plan; answer = None }

abbrev pub left : {T A : Type 0} → Stage T A → Plan T A
left {T} {A} s = s.ahead s.answer

-- the task is the next one
abbrev pub IsNext : {T A : Type 0} → Plan T A → ℕ × T → Type 0
IsNext {T} {A} Over t = ⊥
IsNext {T} {A} (Next line task ahead) t = t ≡ (line, task)

-- A task that is begun, or done, is the next one.
abbrev pub IsDue : {T A : Type 0} → Stage T A → Did T A → Type 0
IsDue {T} {A} s (Began t answer) = IsNext (left s) t
IsDue {T} {A} s (WentOn answer) = Unit {0}
IsDue {T} {A} s (Passed t) = IsNext (left s) t

-- what follows its next task
abbrev pub behind : {T A : Type 0} → Plan T A → Option A → Plan T A
behind {T} {A} Over = λ answer. Over
behind {T} {A} (Next line task ahead) = ahead

-- The answer counts that came last; behind a task that has none, what follows from none.
abbrev pub stage_of : {T A : Type 0} → Stage T A → Did T A → Stage T A
stage_of {T} {A} s (Began t answer) = record { ahead = behind (left s); answer = answer }
stage_of {T} {A} s (WentOn answer) = record { ahead = s.ahead; answer = answer }
stage_of {T} {A} s (Passed t) = record { ahead = λ answer. behind (left s) None; answer = s.answer }

abbrev pub stage_after : {T A : Type 0} → Stage T A → List (Did T A) → Stage T A
stage_after {T} {A} s [] = s
stage_after {T} {A} s (d ∷ ds) = stage_after (stage_of s d) ds

-- All that was done went by the plan.
abbrev pub GoBy : {T A : Type 0} → Stage T A → List (Did T A) → Type 0
GoBy {T} {A} s [] = Unit {0}
GoBy {T} {A} s (d ∷ ds) = IsDue s d × GoBy (stage_of s d) ds

-- Each answer is such a one for the task that was begun last; for one before the first, it is such as Q says.
abbrev pub AreAnswered : {T A : Type 0} → (T → A → Type 0) → (A → Type 0) → List (Did T A) → Type 0
AreAnswered {T} {A} R Q [] = Unit {0}
AreAnswered {T} {A} R Q (Began t answer ∷ ds) = IfSome answer (R t.1) × AreAnswered R (R t.1) ds
AreAnswered {T} {A} R Q (WentOn answer ∷ ds) = IfSome answer Q × AreAnswered R Q ds
AreAnswered {T} {A} R Q (Passed t ∷ ds) = AreAnswered R Q ds
