-- What a plan writes over true steps.
use Rattle.std.proofs.Common.{ℕ, Bool, List, [], ◌∷◌}
use Rattle.std.specs.Prelude.{Option}
use Rattle.sr_cell.specs.declared.table.Table.{Table}
use Rattle.sr_policy.specs.declared.policy.Limits.{Limits}
use Rattle.sr_session.specs.Clients.{Client}
use Rattle.sr_session.specs.Sessions.{Database}
use Rattle.sr_links.specs.Answers.{AreTrueSteps}
use Rattle.sr_links.specs.Steps.{Resumed}
use Rattle.sr_plan.specs.Laws.{AreOf}
use Rattle.sr_plan.specs.Plans.{AllTasksIf, GoBy, Next, Plan, begun}
use Rattle.sr_plan.proofs.Going.{are-of-if}
use Rattle.sr_dial.specs.Calls.{Delivered, Do, Done, Explained, Failed, Made, Said, Scripted, Task, steps_in}
use Rattle.sr_dial.specs.Following.{Ahead, dids_of}
use Rattle.sr_dial.specs.Runs.{AreInPlace}
use Rattle.sr_dial.specs.declared.parts.Answer.{Answer}
use Rattle.sr_answers.specs.Answers.{IsTold}
use Rattle.sr_answers.specs.Texts.{AllSaid, SaysSuch}
use Rattle.sr_answers.proofs.Answered.{true-steps-answer}

module _ {C : Type 0} (P : List ℕ → Type 0) (keeps : Bool) where
  said-are : (ds : List (Done C)) → AreOf (SaysSuch P) (dids_of keeps ds) → AllSaid P ds
  said-are [] all = tt
  said-are (Made number Scripted step ∷ ds) all = said-are ds all.1
  said-are (Made number Delivered step ∷ ds) all = said-are ds all
  said-are (Made number Failed step ∷ ds) all = said-are ds all
  said-are (Explained number text result ∷ ds) all = said-are ds all.1
  said-are (Said number text ∷ ds) all = (all.0, said-are ds all.1)

  -- where a plan writes such texts alone, as long as each answer is that of its task, such alone are written
  pub such-are-said : (db : Database) (limits : Limits) (tables : List Table) (c : Client) (ds : List (Done C)) (ahead : Ahead) → ((answer : Option Answer) → AllTasksIf (IsTold db) (SaysSuch P) (ahead answer))
      → AreInPlace tables 0 c ds → GoBy (begun (Next 0 (Do Resumed) ahead)) (dids_of keeps ds) → AreTrueSteps db limits c (steps_in ds) → AllSaid P ds
  such-are-said db limits tables c ds ahead each here goes truly =
      let plan : Plan Task Answer = Next 0 (Do Resumed) ahead in
      let all : AllTasksIf (IsTold db) (SaysSuch P) plan = (tt, λ answer good. each answer) in
      said-are ds (are-of-if (IsTold db) (SaysSuch P) (begun plan) (λ answer. Unit {0}) (dids_of keeps ds) (λ answer own. all) tt goes (true-steps-answer keeps db limits tables 0 c ds here truly))
