-- What was done so far: messages that were taken, and jobs.
use Rattle.std.proofs.Common.{◌≡◌, ℕ, ◌+◌, ◌*◌, ◌≤◌, Bool, true, false, cond, arith, List, Option, Some, None, refl, subst}
use Rattle.std.specs.Prelude.{◌-◌, ◌<◌}
use Rattle.sr_cell.specs.declared.table.Table.{Table}
use Rattle.sr_io.specs.Told.{Linking, Reading, Writing}
use Rattle.sr_plan.specs.Plans.{Next, Over as Nothing}
use Rattle.sr_session.specs.Clients.{Client}
use Rattle.sr_links.specs.Brought.{Holding}
use Rattle.sr_links.specs.Steps.{Standing}
use Rattle.sr_talk.specs.Rounds.{OnlyOutput}
use Rattle.sr_dial.specs.Calls.{Task}
use Rattle.sr_dial.specs.Following.{Ahead, ahead_of}
use Rattle.sr_dial.specs.Jobs.{Gives, GivesNext, IsJob, number_of}
use Rattle.sr_dial.specs.Known.{Setting}
use Rattle.sr_dial.specs.Runs.{anew, anew_if, none_taken, one_more}
use Rattle.sr_dial.specs.Courses.{At, Finishes, Free, IsEarly, IsWritten, Over, Start}
use Rattle.sr_dial.specs.declared.ending.Ending.{Ending}
use Rattle.sr_dial.specs.declared.ending.Ending.TheVariants as ending
use Rattle.sr_dial.specs.declared.parts.Answer.{Answer}
use Rattle.sr_dial.specs.declared.plans.Job.{Job}
use Rattle.sr_dial.specs.declared.waiting.Count.{Count}

-- how many messages were taken for a line, at most, and how many may be still
abbrev pub spent : Count → ℕ
spent n = cond n.again 1000000 0 + n.taken

abbrev pub left_to_take : Count → ℕ
left_to_take n = cond n.again 0 1000001 + (1000000 - n.taken)

pub spent-more : (n : Count) → spent (one_more n) ≡ spent n + 1
spent-more n = omega arith

pub spent-anew : (n : Count) → n.taken + 1 ≤ 1000000 → spent n + 1 ≤ spent (anew n)
spent-anew n most = by n.again n.taken most
  where
    by : (again : Bool) (taken : ℕ) → taken + 1 ≤ 1000000 → (cond again 1000000 0 + taken) + 1 ≤ spent (anew_if again taken)
    by true taken most = omega arith
    by false taken most = omega (arith, most)

pub few-anew : (n : Count) → n.taken + 1 ≤ 1000000 → (anew n).taken ≤ 1000000
few-anew n most = by n.again n.taken most
  where
    by : (again : Bool) (taken : ℕ) → taken + 1 ≤ 1000000 → (anew_if again taken).taken ≤ 1000000
    by true taken most = most
    by false taken most = omega arith

pub left-more : (n : Count) → n.taken + 1 ≤ 1000000 → left_to_take (one_more n) < left_to_take n
left-more n most = omega (arith, most)

pub record WaitedSoFar (H C : Type 0) (reading : H → Reading) (writing : H → Writing) (linking : H → Linking) (held : H → List ℕ → Option (List ℕ)) (complaints : H → Option (List ℕ)) (IsSteady : H → Type 0)
    (Stands : C → Client → Type 0) (lent : C → Option Answer) (IsOf : Standing C) (Has : Holding C) (setting : C → Setting) (room : C → ℕ) (schema : List Table) (number : ℕ) (first now : H) (fed feed : List ℕ) (code_first code : C) (count : Count) : Type 0 where
  pub so_far : (k : Setting) (run : H) (s : Start C (IsSteady run)) (steady : IsSteady run → IsSteady first) (ahead : Ahead) (failed : Bool) → setting code_first ≡ k → schema ≡ k.schema
      → At C Stands lent IsOf Has k s ahead number none_taken failed (linking first) (IsWritten s (writing first)) fed code_first → At C Stands lent IsOf Has k s ahead number count failed (linking now) (IsWritten s (writing now)) feed code
  pub same : setting code ≡ setting code_first
  pub draws : room code_first ≤ room code + 2 * spent count
  pub most : count.taken ≤ 1000000
  pub stays : OnlyOutput H reading held complaints IsSteady first now

-- ---- a plan

-- This is ahead, and nothing is out.
pub record Going {Z : Type 0} (C S : Type 0) (Stands : C → Client → Type 0) (lent : C → Option Answer) (IsOf : Standing C) (Has : Holding C) (Follows : List Table → S → Ahead → Type 0) (k : Setting) (s : Start C Z) (plans : S) (failed : Bool) (l : Linking) (w : Writing) (feed : List ℕ) (code : C) : Type 0 where
  pub ahead : Ahead
  pub number : ℕ
  pub follows : Follows k.schema plans ahead
  pub free : Free C Stands lent IsOf Has k s ahead number failed l (IsWritten s w) feed code

pub record RunSoFar (H C S : Type 0) (reading : H → Reading) (writing : H → Writing) (linking : H → Linking) (held : H → List ℕ → Option (List ℕ)) (complaints : H → Option (List ℕ)) (IsSteady : H → Type 0)
    (Stands : C → Client → Type 0) (lent : C → Option Answer) (IsOf : Standing C) (Has : Holding C) (setting : C → Setting) (room : C → ℕ) (Follows : List Table → S → Ahead → Type 0) (depth : S → ℕ) (schema : List Table) (address : List ℕ) (plans_first plans : S) (failed_first failed : Bool) (first now : H) (fed feed : List ℕ) (code_first code : C) : Type 0 where
  pub so_far : (k : Setting) (run : H) (s : Start C (IsSteady run)) (steady : IsSteady run → IsSteady first) (ahead : Ahead) (number : ℕ) → s.address ≡ address → setting code_first ≡ k → schema ≡ k.schema
      → Free C Stands lent IsOf Has k s ahead number failed_first (linking first) (IsWritten s (writing first)) fed code_first → Follows k.schema plans_first ahead
      → Going C S Stands lent IsOf Has Follows k s plans failed (linking now) (writing now) feed code
  pub same : setting code ≡ setting code_first
  pub asks : (ahead : Ahead) × Follows (setting code_first).schema plans ahead
  pub few : room code_first + 4000004 * depth plans ≤ room code + 4000004 * depth plans_first
  pub stays : OnlyOutput H reading held complaints IsSteady first now

-- what a plan hands out, where the client lends this answer
module _ (S : Type 0) (Follows : List Table → S → Ahead → Type 0) (old new : S) (some : Option Job) where
  pub next-job : (job : Job) (answer lent : Option Answer) → some ≡ Some job → answer ≡ lent → ((schema : List Table) (ahead : Ahead) → Follows schema old ahead → Gives Follows schema some (ahead answer) new)
      → (schema : List Table) (ahead : Ahead) → Follows schema old ahead → GivesNext Follows schema job (ahead lent) new
  next-job job answer lent is same gives schema ahead follows =
      subst (λ (a : Option Answer). GivesNext Follows schema job (ahead a) new) same (subst (λ (j : Option Job). Gives Follows schema j (ahead answer) new) is (gives schema ahead follows))

  pub none-left : (answer lent : Option Answer) → ((job : Job) → some ≡ Some job → ⊥) → answer ≡ lent → ((schema : List Table) (ahead : Ahead) → Follows schema old ahead → Gives Follows schema some (ahead answer) new)
      → (schema : List Table) (ahead : Ahead) → Follows schema old ahead → ahead lent ≡ Nothing
  none-left answer lent not same gives schema ahead follows = subst (λ (a : Option Answer). ahead a ≡ Nothing) same (by some refl)
    where
      by : (x : Option Job) → some ≡ x → ahead answer ≡ Nothing
      by None is = subst (λ (j : Option Job). Gives Follows schema j (ahead answer) new) is (gives schema ahead follows)
      by (Some job) is = absurd (not job is)

module _ {Z : Type 0} (C S : Type 0) (Stands : C → Client → Type 0) (lent : C → Option Answer) (IsOf : Standing C) (Has : Holding C) (Follows : List Table → S → Ahead → Type 0) (k : Setting) (s : Start C Z) where
  -- one job more
  pub going-more : (job : Job) (plans new_plans : S) (failed next_failed : Bool) (l new_l : Linking) (w new_w : Writing) (feed new_feed : List ℕ) (code new : C) (h : Going C S Stands lent IsOf Has Follows k s plans failed l w feed code)
      → GivesNext Follows k.schema job (h.ahead (lent code)) new_plans
      → ((task : Task) (further : Ahead) → IsJob k.schema job task → h.ahead (lent code) ≡ Next (number_of job) task further
      → Free C Stands lent IsOf Has k s (ahead_of task further) (number_of job) next_failed new_l (IsWritten s new_w) new_feed new)
      → Going C S Stands lent IsOf Has Follows k s new_plans next_failed new_l new_w new_feed new
  going-more job plans new_plans failed next_failed l new_l w new_w feed new_feed code new h gives free =
      record { ahead = ahead_of gives.task gives.further; number = number_of job; follows = gives.follows; free = free gives.task gives.further gives.is gives.plan_is }

  -- all are done
  pub going-done : (plans : S) (failed : Bool) (l : Linking) (w : Writing) (feed : List ℕ) (code : C) (h : Going C S Stands lent IsOf Has Follows k s plans failed l w feed code) → h.ahead (lent code) ≡ Nothing
      → Finishes C Stands lent IsOf Has k (cond failed ending.Faulty ending.Whole) s l w feed code
  going-done plans true l w feed code h none = record { ahead = h.ahead; line = h.number; free = h.free; none = none }
  going-done plans false l w feed code h none = record { ahead = h.ahead; line = h.number; free = h.free; none = none }

-- one ends the run
pub early : {Z : Type 0} (C : Type 0) (Stands : C → Client → Type 0) (lent : C → Option Answer) (IsOf : Standing C) (Has : Holding C) (k : Setting) (s : Start C Z) (ended : Ending) (l : Linking) (w : Writing) (feed : List ℕ) (code : C)
    → Over C Stands lent IsOf Has k s ended l w code → IsEarly ended → Finishes C Stands lent IsOf Has k ended s l w feed code
early {Z} C Stands lent IsOf Has k s ending.Whole l w feed code over is = absurd is
early {Z} C Stands lent IsOf Has k s ending.Faulty l w feed code over is = absurd is
early {Z} C Stands lent IsOf Has k s ending.Unwritten l w feed code over is = over
early {Z} C Stands lent IsOf Has k s (ending.Spoiled fault) l w feed code over is = over
early {Z} C Stands lent IsOf Has k s (ending.Bad why) l w feed code over is = over
early {Z} C Stands lent IsOf Has k s ending.Limit l w feed code over is = over
