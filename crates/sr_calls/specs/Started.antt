-- What is true of a run of a client that starts from an image, where the image is true.
use Rattle.std.specs.Prelude.{◌≡◌, ℕ, ◌≤◌, Bool, List, [], ◌∷◌, ◌++◌, None}
use Rattle.sr_cell.specs.declared.table.Table.{Table}
use Rattle.sr_history.specs.declared.mark.Mark.{Mark}
use Rattle.sr_io.specs.Told.{Linking, Writing}
use Rattle.sr_policy.specs.declared.policy.Limits.{Limits}
use Rattle.sr_session.specs.Sessions.{Database, newest, tables_of}
use Rattle.sr_store.specs.Starting.{AreTrueParts, IsStart}
use Rattle.sr_store.specs.Told.{told_of}
use Rattle.sr_store.specs.declared.start.Kept.{Kept}
use Rattle.sr_client.specs.Stands.{StandsFor}
use Rattle.sr_client.specs.Starting.{start_client, start_past}
use Rattle.sr_client.specs.declared.client.Client.{Client}
use Rattle.sr_links.specs.Honest.{Server, Input, server_at_last}
use Rattle.sr_plan.specs.Plans.{Plan, AllTasks}
use Rattle.sr_dial.specs.Calls.{Task}
use Rattle.sr_dial_laws.specs.Honest.{IsAskedFor, IsHonest, IsTrue}
use Rattle.sr_dial.specs.declared.ending.Ending.{Ending}
use Rattle.sr_dial.specs.declared.parts.Answer.{Answer}
use Rattle.sr_calls.specs.ClientEnds.{End, end_with}
use Rattle.sr_calls.specs.Runs.{RanFrom}

-- The parts are true of a database at that version: it is one of its versions, and each part has just the rows of its table there that lie
-- in its rects, with the part's columns.
pub record AreTrueAt (db : Database) (version : ℕ) (kept : List Kept) : Type 0 where
  pub within : version ≤ newest db
  pub rows : AreTrueParts (told_of (tables_of db version)) kept

-- A client of that number that starts from these parts at that version, within these limits, with these marks: so it stands for the past of
-- its start.
pub record IsStarted (id version : ℕ) (schema : List Table) (limits : Limits) (kept : List Kept) (marks : List Mark) (c : Client) : Type 0 where
  pub client : c ≡ start_client id schema limits version c.store
  pub start : IsStart schema limits kept (record { store = c.store; marks = marks })
  pub stands : StandsFor (start_past schema version kept marks) c

-- Over an honest link all that is true of a run of a new client is true of one that starts from parts, where these are true of the server's
-- database before the first frame: answers are right at the versions that they name, and nothing that comes is refused.
abbrev pub StartedRunsAreTrue : Type 0
StartedRunsAreTrue =
    (id version : ℕ) (address : List ℕ) (schema : List Table) (limits : Limits) (keeps says : Bool) (kept : List Kept) (marks : List Mark)
    (c : Client) (left : End)
    (s : Server) (pieces : List (List Input)) (plan : Plan Task Answer) (ended : Ending) (old new : Linking) (before after : Writing)
    → IsStarted id version schema limits kept marks c → AreTrueAt s.database version kept → AllTasks IsAskedFor plan
    → (run : RanFrom (end_with keeps says c None) (start_past schema version kept marks) address plan ended old new before after left)
    → IsHonest schema s pieces (run.run.ran.earlier ++ run.run.ran.last ∷ [])
    → IsTrue (server_at_last s pieces).database limits (start_past schema version kept marks) (run.run.ran.earlier ++ run.run.ran.last ∷ []) ended
