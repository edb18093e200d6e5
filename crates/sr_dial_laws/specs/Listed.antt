-- What a run over the plan of a list did.
use Rattle.std.specs.Prelude.{ℕ, List, [], ◌∷◌, ◌++◌}
use Rattle.sr_io.specs.Told.{Linking, Writing}
use Rattle.sr_plan.specs.Laws.{DoesBeginning}
use Rattle.sr_plan.specs.Plans.{plan_of}
use Rattle.sr_session.specs.Clients.{Client}
use Rattle.sr_dial.specs.Calls.{Task, all_done}
use Rattle.sr_dial.specs.Following.{dids_of}
use Rattle.sr_dial.specs.Known.{Setting}
use Rattle.sr_dial.specs.Runs.{Ran}
use Rattle.sr_dial.specs.declared.ending.Ending.{Ending}
use Rattle.sr_dial.specs.declared.parts.Answer.{Answer}

-- It did the tasks of the list in order, up to one of them; and where nothing is left to do, all of them.
abbrev pub ListsAreDoneInOrder : Type 0 → Type 0
ListsAreDoneInOrder C = (k : Setting) (c : Client) (address : List ℕ) (tasks : List (ℕ × Task)) (ended : Ending) (old new : Linking) (before after : Writing)
    → (run : Ran C k c address (plan_of tasks) ended old new before after)
    → DoesBeginning Task Answer tasks (dids_of k.keeps (all_done (run.earlier ++ run.last ∷ [])))
