-- Going by a plan, one thing after another.
use Rattle.std.proofs.Common.{◌≡◌, ℕ, List, [], ◌∷◌, ◌++◌, append-nil, refl, sym, ap, subst, ◌∙◌}
use Rattle.std.specs.Prelude.{Option, None, IfSome}
use Rattle.sr_plan.specs.Plans.{Plan, Over, Next, Did, Began, WentOn, Passed, Stage, plan_of, AllTasks, AllTasksIf, AreAnswered, begun, left, behind, IsNext, IsDue, stage_of, stage_after, GoBy}
use Rattle.sr_plan.specs.Laws.{DoesBeginning, tasks_done, AreOf}

-- ---- one thing more

pub goes-more : {T A : Type 0} (s : Stage T A) (ds : List (Did T A)) (d : Did T A) → GoBy s ds → IsDue (stage_after s ds) d → GoBy s (ds ++ d ∷ [])
goes-more s [] d h due = (due, tt)
goes-more s (x ∷ ds) d (first, more) due = (first, goes-more (stage_of s x) ds d more due)

pub stage-more : {T A : Type 0} (s : Stage T A) (ds : List (Did T A)) (d : Did T A) → stage_after s (ds ++ d ∷ []) ≡ stage_of (stage_after s ds) d
stage-more s [] d = refl
stage-more s (x ∷ ds) d = stage-more (stage_of s x) ds d

-- ---- the plan of a list

-- whatever the answer is, this is left of the list
abbrev Leaves : {T A : Type 0} → Stage T A → List (ℕ × T) → Type 0
Leaves {T} {A} s tasks = (answer : Option A) → s.ahead answer ≡ plan_of tasks

record Does (T A : Type 0) (s : Stage T A) (tasks : List (ℕ × T)) (ds : List (Did T A)) : Type 0 where
  pub rest : List (ℕ × T)
  pub are : tasks ≡ tasks_done ds ++ rest
  pub leaves : Leaves (stage_after s ds) rest

record First (T A : Type 0) (t : ℕ × T) (tasks : List (ℕ × T)) (plan : Plan T A) : Type 0 where
  pub rest : List (ℕ × T)
  pub are : tasks ≡ t ∷ rest
  pub leaves : (answer : Option A) → behind plan answer ≡ plan_of rest

first : {T A : Type 0} (t : ℕ × T) (tasks : List (ℕ × T)) (plan : Plan T A) → plan ≡ plan_of tasks → IsNext plan t → First T A t tasks plan
first {T} {A} t [] plan is next = absurd (subst (λ (p : Plan T A). IsNext p t) is next)
first {T} {A} t (x ∷ tasks) plan is next =
    let same : t ≡ (x.0, x.1) = subst (λ (p : Plan T A). IsNext p t) is next in
    record {
      rest = tasks;
      are = ap (λ (y : ℕ × T). y ∷ tasks) (sym same);
      leaves = λ answer. ap (λ (p : Plan T A). behind p answer) is;
    }

does : {T A : Type 0} (s : Stage T A) (tasks : List (ℕ × T)) (ds : List (Did T A)) → Leaves s tasks → GoBy s ds → Does T A s tasks ds
does s tasks [] leaves h = record { rest = tasks; are = refl; leaves = leaves }
does {T} {A} s tasks (Began t answer ∷ ds) leaves (due, more) =
    let f : First T A t tasks (left s) = first t tasks (left s) (leaves s.answer) due in
    let d : Does T A (stage_of s (Began t answer)) f.rest ds = does (stage_of s (Began t answer)) f.rest ds f.leaves more in
    record { rest = d.rest; are = f.are ∙ ap (λ (xs : List (ℕ × T)). t ∷ xs) d.are; leaves = d.leaves }
does {T} {A} s tasks (WentOn answer ∷ ds) leaves (due, more) =
    let d : Does T A (stage_of s (WentOn answer)) tasks ds = does (stage_of s (WentOn answer)) tasks ds leaves more in
    record { rest = d.rest; are = d.are; leaves = d.leaves }
does {T} {A} s tasks (Passed t ∷ ds) leaves (due, more) =
    let f : First T A t tasks (left s) = first t tasks (left s) (leaves s.answer) due in
    let d : Does T A (stage_of s (Passed t)) f.rest ds = does (stage_of s (Passed t)) f.rest ds (λ answer. f.leaves None) more in
    record { rest = d.rest; are = f.are ∙ ap (λ (xs : List (ℕ × T)). t ∷ xs) d.are; leaves = d.leaves }

nothing-left : {T A : Type 0} (rest : List (ℕ × T)) → plan_of {T = T} {A = A} rest ≡ Over → rest ≡ []
nothing-left [] is = refl
nothing-left {T} {A} (x ∷ rest) is = absurd (let wrong : plan_of {T = T} {A = A} (x ∷ rest) ≡ Over = is in cc)

pub does-beginning : {T A : Type 0} (tasks : List (ℕ × T)) (ds : List (Did T A)) → GoBy (begun (plan_of {T = T} {A = A} tasks)) ds → DoesBeginning T A tasks ds
does-beginning {T} {A} tasks ds h =
    let d : Does T A (begun (plan_of tasks)) tasks ds = does (begun (plan_of tasks)) tasks ds (λ answer. refl) h in
    let end : Stage T A = stage_after (begun (plan_of tasks)) ds in
    record {
      rest = d.rest;
      are = d.are;
      left_is = d.leaves end.answer;
      whole = λ over.
          let none : d.rest ≡ [] = nothing-left {T = T} {A = A} d.rest (sym (d.leaves end.answer) ∙ over) in
          d.are ∙ (ap (λ (xs : List (ℕ × T)). tasks_done ds ++ xs) none ∙ append-nil (tasks_done ds));
    }

-- the next of the list is the next of the plan
next-of : {T A : Type 0} (x t : ℕ × T) (tasks : List (ℕ × T)) (plan : Plan T A) → plan ≡ plan_of (x ∷ tasks) → t ≡ x → IsNext plan t
next-of {T} {A} x t tasks plan is same = subst (λ (p : Plan T A). IsNext p t) (sym is) same

pub goes-by : {T A : Type 0} (s : Stage T A) (tasks rest : List (ℕ × T)) (ds : List (Did T A)) → ((answer : Option A) → s.ahead answer ≡ plan_of tasks) → tasks ≡ tasks_done ds ++ rest → GoBy s ds
goes-by s tasks rest [] leaves e = tt
goes-by s tasks rest (WentOn answer ∷ ds) leaves e = (tt, goes-by (stage_of s (WentOn answer)) tasks rest ds leaves e)
goes-by {T} {A} s [] rest (Began t answer ∷ ds) leaves e = absurd (let wrong : [] ≡ t ∷ (tasks_done ds ++ rest) = e in cc)
goes-by {T} {A} s (x ∷ tasks) rest (Began t answer ∷ ds) leaves e =
    let same : t ≡ x = cc in
    let others : tasks ≡ tasks_done ds ++ rest = cc in (
      next-of x t tasks (left s) (leaves s.answer) same,
      goes-by (stage_of s (Began t answer)) tasks rest ds (λ (a : Option A). ap (λ (p : Plan T A). behind p a) (leaves s.answer)) others,
    )
goes-by {T} {A} s [] rest (Passed t ∷ ds) leaves e = absurd (let wrong : [] ≡ t ∷ (tasks_done ds ++ rest) = e in cc)
goes-by {T} {A} s (x ∷ tasks) rest (Passed t ∷ ds) leaves e =
    let same : t ≡ x = cc in
    let others : tasks ≡ tasks_done ds ++ rest = cc in (
      next-of x t tasks (left s) (leaves s.answer) same,
      goes-by (stage_of s (Passed t)) tasks rest ds (λ (a : Option A). ap (λ (p : Plan T A). behind p None) (leaves s.answer)) others,
    )

-- ---- tasks of a plan

of-next : {T A : Type 0} (P : T → Type 0) (plan : Plan T A) (t : ℕ × T) → AllTasks P plan → IsNext plan t → P t.1
of-next P Over t all next = absurd next
of-next {T} {A} P (Next line task ahead) t all next = subst (λ (x : ℕ × T). P x.1) (sym next) all.0

of-behind : {T A : Type 0} (P : T → Type 0) (plan : Plan T A) → AllTasks P plan → (answer : Option A) → AllTasks P (behind plan answer)
of-behind P Over all answer = tt
of-behind P (Next line task ahead) all answer = all.1 answer

pub are-of : {T A : Type 0} (P : T → Type 0) (s : Stage T A) (ds : List (Did T A)) → ((answer : Option A) → AllTasks P (s.ahead answer)) → GoBy s ds → AreOf P ds
are-of P s [] all h = tt
are-of P s (Began t answer ∷ ds) all (due, more) =
    (of-next P (left s) t (all s.answer) due, are-of P (stage_of s (Began t answer)) ds (of-behind P (left s) (all s.answer)) more)
are-of P s (WentOn answer ∷ ds) all (due, more) = are-of P (stage_of s (WentOn answer)) ds all more
are-of P s (Passed t ∷ ds) all (due, more) =
    (of-next P (left s) t (all s.answer) due, are-of P (stage_of s (Passed t)) ds (λ answer. of-behind P (left s) (all s.answer) None) more)

-- ---- tasks of a plan, where its answers are such as they should be

of-next-if : {T A : Type 0} (R : T → A → Type 0) (P : T → Type 0) (plan : Plan T A) (t : ℕ × T) → AllTasksIf R P plan → IsNext plan t → P t.1
of-next-if R P Over t all next = absurd next
of-next-if {T} {A} R P (Next line task ahead) t all next = subst (λ (x : ℕ × T). P x.1) (sym next) all.0

of-behind-if : {T A : Type 0} (R : T → A → Type 0) (P : T → Type 0) (plan : Plan T A) (t : ℕ × T) → AllTasksIf R P plan → IsNext plan t → (answer : Option A) → IfSome answer (R t.1) → AllTasksIf R P (behind plan answer)
of-behind-if R P Over t all next answer h = absurd next
of-behind-if {T} {A} R P (Next line task ahead) t all next answer h = all.1 answer (subst (λ (x : ℕ × T). IfSome answer (R x.1)) next h)

pub are-of-if : {T A : Type 0} (R : T → A → Type 0) (P : T → Type 0) (s : Stage T A) (Q : A → Type 0) (ds : List (Did T A)) → ((answer : Option A) → IfSome answer Q → AllTasksIf R P (s.ahead answer)) → IfSome s.answer Q
    → GoBy s ds → AreAnswered R Q ds → AreOf P ds
are-of-if R P s Q [] all own h answers = tt
are-of-if R P s Q (Began t answer ∷ ds) all own (due, more) (one, others) = (
  of-next-if R P (left s) t (all s.answer own) due,
  are-of-if R P (stage_of s (Began t answer)) (R t.1) ds (λ a h. of-behind-if R P (left s) t (all s.answer own) due a h) one more others,
)
are-of-if R P s Q (WentOn answer ∷ ds) all own (due, more) (one, others) = are-of-if R P (stage_of s (WentOn answer)) Q ds all one more others
are-of-if R P s Q (Passed t ∷ ds) all own (due, more) others = (
  of-next-if R P (left s) t (all s.answer own) due,
  are-of-if R P (stage_of s (Passed t)) Q ds (λ a h. of-behind-if R P (left s) t (all s.answer own) due None tt) own more others,
)
