-- What a run of a client over a plan did.
use Rattle.std.specs.Prelude.{ℕ, Bool, List, [], ◌∷◌, ◌++◌, true, None}
use Rattle.sr_cell.specs.declared.table.Table.{Table}
use Rattle.sr_io.specs.Told.{Linking, Writing}
use Rattle.sr_model.specs.Statements.{Tables}
use Rattle.sr_policy.specs.declared.policy.Limits.{Limits}
use Rattle.sr_session.specs.Clients as session
use Rattle.sr_session.specs.Clients.{from_query}
use Rattle.sr_client.specs.Stands.{new_client}
use Rattle.sr_plan.specs.Plans.{Plan}
use Rattle.sr_dial.specs.Calls.{Task}
use Rattle.sr_dial.specs.Runs.{LinksSteadily, RanInPart, RanSteadily, RanTo}
use Rattle.sr_dial.specs.declared.ending.Ending.{Ending}
use Rattle.sr_dial.specs.declared.parts.Answer.{Answer}
use Rattle.sr_calls.specs.ClientEnds.{End, HasTold, IsEnd, Stands, end_with, setting_of}

-- A client's end that was of this past ran over a plan, dialled this address, ended so, and this is the end that it left.
abbrev pub RanFrom : End → session.Client → List ℕ → Plan Task Answer → Ending → Linking → Linking → Writing → Writing → End → Type 0
RanFrom end past address plan ended old new before after left =
    RanTo End Stands IsEnd HasTold (setting_of end) end past address plan ended old new before after left

-- And over a steady host each failure was a connection's own end.
abbrev pub RanSteadilyFrom : Type 0 → End → session.Client → List ℕ → Plan Task Answer → Ending → Linking → Linking → Writing → Writing → End → Type 0
RanSteadilyFrom Steady end past address plan ended old new before after left =
    RanSteadily End Steady Stands IsEnd HasTold (setting_of end) end past address plan ended old new before after left

-- Out of memory: the same, broken off.
abbrev pub RanOff : End → session.Client → List ℕ → Plan Task Answer → Linking → Linking → Writing → Writing → Type 0
RanOff end past address plan old new before after = RanInPart End IsEnd HasTold (setting_of end) end past address plan old new before after

-- a client's past before anything happens: its link is down
abbrev pub new_past : session.Client
new_past = record { marks = []; queries = []; counted_from = from_query 0; version = 0; next_request = 0; out = None; laid = []; cut = true; cuts = 0 }

-- the end of a new client, which lends nothing yet
abbrev pub new_end : ℕ → List Table → Limits → Bool → Bool → End
new_end id schema limits keeps says = end_with keeps says (new_client id schema limits) None

-- A new client of that number, to which nothing has happened, and which has the rows of any tables since it holds none, ran over a plan. Its
-- end keeps answers or not, and writes lines or not.
pub record RanNew (id : ℕ) (address : List ℕ) (schema : List Table) (limits : Limits) (keeps says : Bool) (plan : Plan Task Answer) (ended : Ending)
    (old new : Linking) (before after : Writing) : Type 0 where
  pub begins : (tables : Tables) → IsEnd schema (new_end id schema limits keeps says) new_past tables
  pub left : End
  pub ran : RanFrom (new_end id schema limits keeps says) new_past address plan ended old new before after left

-- And over a steady host each failure was a connection's own end.
pub record RanNewSteadily (Steady : Type 0) (id : ℕ) (address : List ℕ) (schema : List Table) (limits : Limits) (keeps says : Bool)
    (plan : Plan Task Answer) (ended : Ending) (old new : Linking) (before after : Writing) : Type 0 where
  pub run : RanNew id address schema limits keeps says plan ended old new before after
  pub steady_links : LinksSteadily Steady (run.ran.run.ran.earlier ++ run.ran.run.ran.last ∷ []) old new

-- Out of memory: the same, broken off. What was sent and written begins what the rules give.
pub record RanNewInPart (id : ℕ) (address : List ℕ) (schema : List Table) (limits : Limits) (keeps says : Bool) (plan : Plan Task Answer)
    (old new : Linking) (before after : Writing) : Type 0 where
  pub begins : (tables : Tables) → IsEnd schema (new_end id schema limits keeps says) new_past tables
  pub ran : RanOff (new_end id schema limits keeps says) new_past address plan old new before after
