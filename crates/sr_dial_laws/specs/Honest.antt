-- When the link of a run is honest, and what is true of the run then.
use Rattle.std.specs.Prelude.{ℕ, true, ◌<◌, ◌≤◌, List, [], ◌∷◌, ◌++◌, length, ◌≡◌, ◌≢◌, Ok}
use Rattle.std.specs.List.{list_all}
use Rattle.sr_cell.specs.declared.table.Table.{Table}
use Rattle.sr_io.specs.Told.{Linking, Writing}
use Rattle.sr_policy.specs.declared.policy.Limits.{Limits}
use Rattle.sr_query.specs.Bound.{is_table}
use Rattle.sr_store.specs.Told.{Told}
use Rattle.sr_wire.specs.Spelling.{has_spelling}
use Rattle.sr_session.specs.Bases.{basis_of}
use Rattle.sr_session.specs.Clients.{Client}
use Rattle.sr_session.specs.Headline.{KeepsToBudgets}
use Rattle.sr_session.specs.Laws.{IsSound}
use Rattle.sr_session.specs.Rules.{Outcome, Answered}
use Rattle.sr_session.specs.Sessions.{Database}
use Rattle.sr_links.specs.Answers.{AreTrueSteps, AsksKeys}
use Rattle.sr_links.specs.Brought.{GoByTold, Holding}
use Rattle.sr_links.specs.Counts.{HasFewRows}
use Rattle.sr_links.specs.Honest.{Server, Input, IsPrefix, Rests, frames_of, sent_for, server_after, server_at_last}
use Rattle.sr_links.specs.Steps.{Standing, Step, Deed, Queried, Took, given_of, requests_of}
use Rattle.sr_plan.specs.Plans.{Plan, AllTasks}
use Rattle.sr_dial.specs.Calls.{Call, Task, Do, Explain, Say, all_done, done_in, steps_in}
use Rattle.sr_talk.specs.Serving.{spelled}
use Rattle.sr_dial.specs.Known.{Setting}
use Rattle.sr_dial.specs.Runs.{RanFairly, RanInPart}
use Rattle.sr_dial.specs.Statuses.{status_of}
use Rattle.sr_dial.specs.declared.ending.Ending.{Ending}
use Rattle.sr_dial.specs.declared.parts.Answer.{Answer}

-- ---- honest links

-- the bytes that came over the connection of a call: those of the messages that were taken, and those left behind them
abbrev pub came_over : {C : Type 0} → Call C → List ℕ
came_over {C} call = spelled (given_of (steps_in (done_in call))) ++ call.left

-- The inputs of a server explain what came over the connection of a call. The frames that it took are the requests that were sent, in
-- order, of which the last ones may be missing; and the bytes that came are a beginning of the frames that it sends for them.
pub record IsExplained {C : Type 0} (s : Server) (inputs : List Input) (call : Call C) : Type 0 where
  pub frames : IsPrefix (frames_of inputs) (requests_of (steps_in (done_in call)))
  pub spells : list_all has_spelling (sent_for s inputs) ≡ true
  pub came : IsPrefix (came_over call) (spelled (sent_for s inputs))

-- There is a piece for each call, and the server goes on from one to the next.
abbrev pub AreExplained : {C : Type 0} → Server → List (List Input) → List (Call C) → Type 0
AreExplained {C} s [] [] = Unit {0}
AreExplained {C} s (piece ∷ pieces) (call ∷ calls) = IsExplained s piece call × AreExplained (server_after s piece) pieces calls
AreExplained {C} s pieces calls = ⊥

-- The links of these calls are honest: behind them is one server of tables of this schema, whatever versions it makes meanwhile, and
-- wherever it closes the session, or if it never does.
pub record IsHonest {C : Type 0} (schema : List Table) (s : Server) (pieces : List (List Input)) (calls : List (Call C)) : Type 0 where
  pub schema_is : s.database.schema ≡ schema
  pub some : 0 < length s.database.versions
  pub sound : IsSound (server_at_last s pieces).database
  pub explained : AreExplained s pieces calls

-- ---- what is true over them

-- an answer names the version that the client comes to
abbrev pub NamesVersion : Outcome → Client → Type 0
NamesVersion (Answered number version rows marks) c = version ≡ c.version
NamesVersion other c = Unit {0}

-- No step brings the client to an older version.
abbrev pub NeverFall : {C : Type 0} → Client → List (Step C) → Type 0
NeverFall {C} c [] = Unit {0}
NeverFall {C} c (step ∷ steps) = (c.version ≤ step.past.version) × NamesVersion step.outcome step.past × NeverFall step.past steps

-- Each step is true: an answer has the rows of its query on the tables of the version that it names, an ask asks just what is not covered,
-- a covered query sends nothing, and the client keeps to its budgets. Versions never fall, and nothing that came is refused.
pub record IsTrue {C : Type 0} (db : Database) (limits : Limits) (c : Client) (calls : List (Call C)) (ended : Ending) : Type 0 where
  pub steps : AreTrueSteps db limits c (steps_in (all_done calls))
  pub versions : NeverFall c (steps_in (all_done calls))
  pub accepted : status_of ended ≢ 8

-- No task is to take a message: these come when the server sends them.
abbrev pub IsAsked : Deed → Type 0
IsAsked (Took m) = ⊥
IsAsked other = Unit {0}

abbrev pub IsAskedFor : Task → Type 0
IsAskedFor (Do deed) = IsAsked deed
IsAskedFor (Explain text) = Unit {0}
IsAskedFor (Say text) = Unit {0}

-- So it is of a run over any plan and any number of calls, for any client whose link is cut, and that has the rows of its version on the
-- server, within its budgets, and rows that were told of tables of its schema.
abbrev pub HonestRunsAreTrue : {C : Type 0} → Standing C → Holding C → Type 0
HonestRunsAreTrue {C} IsOf Has =
    (k : Setting) (s : Server) (pieces : List (List Input)) (code : C) (c : Client) (address : List ℕ) (plan : Plan Task Answer) (ended : Ending)
    (old new : Linking) (before after : Writing) (told : Told)
    → AsksKeys IsOf → list_all is_table k.schema ≡ true → Rests IsOf s.database code c → KeepsToBudgets (basis_of s.database k.limits) c
    → Has k.schema code c told → AllTasks IsAskedFor plan
    → (run : RanFairly C IsOf Has k code c address plan ended old new before after) → IsHonest k.schema s pieces (run.ran.earlier ++ run.ran.last ∷ [])
    → IsTrue (server_at_last s pieces).database k.limits c (run.ran.earlier ++ run.ran.last ∷ []) ended

-- a query has at most four parts
abbrev pub AsksFew : Task → Type 0
AsksFew (Do (Queried (Ok q))) = length q.parts ≤ 4
AsksFew other = Unit {0}

-- So few frames come for each request that a run never ends with 11, where the server's log keeps at most 500,000 changes, its tables have at
-- most 65,536 rows, and the plan's queries have at most four parts.
abbrev pub HonestRunsAreShort : {C : Type 0} → Standing C → Holding C → Type 0
HonestRunsAreShort {C} IsOf Has =
    (k : Setting) (s : Server) (pieces : List (List Input)) (code : C) (c : Client) (address : List ℕ) (plan : Plan Task Answer) (ended : Ending)
    (old new : Linking) (before after : Writing) (told : Told)
    → AsksKeys IsOf → list_all is_table k.schema ≡ true → Rests IsOf s.database code c → Has k.schema code c told → AllTasks IsAskedFor plan
    → (run : RanFairly C IsOf Has k code c address plan ended old new before after) → IsHonest k.schema s pieces (run.ran.earlier ++ run.ran.last ∷ [])
    → s.database.log_limit ≤ 500000 → HasFewRows (server_at_last s pieces).database → AllTasks AsksFew plan → status_of ended ≢ 11

-- ---- over any link

-- Over any link, whatever the peer is: each step of a run of a client that had rows that were told goes by the rules, on what the frames
-- brought to these, and the client keeps to its budgets by them.
abbrev pub RunsGoByTold : {C : Type 0} → Standing C → Holding C → Type 0
RunsGoByTold {C} IsOf Has =
    (k : Setting) (code : C) (c : Client) (address : List ℕ) (plan : Plan Task Answer) (ended : Ending) (old new : Linking) (before after : Writing)
    (told : Told) → Has k.schema code c told
    → (run : RanFairly C IsOf Has k code c address plan ended old new before after)
    → GoByTold k.limits k.schema told c (steps_in (all_done (run.ran.earlier ++ run.ran.last ∷ [])))

-- So does each step of one that is broken off.
abbrev pub BrokenRunsGoByTold : {C : Type 0} → Standing C → Holding C → Type 0
BrokenRunsGoByTold {C} IsOf Has =
    (k : Setting) (code : C) (c : Client) (address : List ℕ) (plan : Plan Task Answer) (old new : Linking) (before after : Writing) (told : Told)
    → Has k.schema code c told
    → (run : RanInPart C IsOf Has k code c address plan old new before after) → GoByTold k.limits k.schema told c (steps_in (all_done run.calls))
