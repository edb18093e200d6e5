-- What is true of a run of a client over an honest link.
use Rattle.std.specs.Prelude.{◌≡◌, ◌≢◌, ℕ, ◌<◌, ◌≤◌, Bool, true, List, [], ◌∷◌, ◌++◌, length}
use Rattle.std.specs.List.{list_all}
use Rattle.sr_cell.specs.declared.table.Table.{Table}
use Rattle.sr_io.specs.Told.{Linking, Writing}
use Rattle.sr_policy.specs.declared.policy.Limits.{Limits}
use Rattle.sr_query.specs.Bound.{is_table}
use Rattle.sr_reader.specs.declared.script.EventLine.{EventLine}
use Rattle.sr_store.specs.Brought.{nothing_told}
use Rattle.sr_store.specs.Told.{Told}
use Rattle.sr_session.specs.Bases.{basis_of}
use Rattle.sr_session.specs.Clients as session
use Rattle.sr_session.specs.Headline.{KeepsToBudgets}
use Rattle.sr_session.specs.Laws.{IsSound}
use Rattle.sr_session.specs.Sessions.{Database}
use Rattle.sr_server.specs.Servers.{Gives}
use Rattle.sr_links.specs.Brought.{GoByTold}
use Rattle.sr_links.specs.Counts.{HasFewRows}
use Rattle.sr_links.specs.Honest.{Server, Input, Rests, server_at_last}
use Rattle.sr_links.specs.Steps.{Resumed}
use Rattle.sr_plan.specs.Plans.{Plan, AllTasks, plan_of}
use Rattle.sr_dial.specs.Calls.{Task, Do, all_done, steps_in}
use Rattle.sr_talk.specs.Serving.{Conversation}
use Rattle.sr_dial_laws.specs.Honest.{AsksFew, IsAskedFor, IsHonest, IsTrue}
use Rattle.sr_dial.specs.Known.{AreTasks}
use Rattle.sr_dial_laws.specs.Served.{AreServedCalls}
use Rattle.sr_dial.specs.Statuses.{status_of}
use Rattle.sr_dial.specs.declared.ending.Ending.{Ending}
use Rattle.sr_dial.specs.declared.parts.Answer.{Answer}
use Rattle.sr_calls.specs.ClientEnds.{End, HasTold, IsEnd}
use Rattle.sr_calls.specs.Runs.{RanFrom, RanNew, RanOff, new_past}

-- Over an honest link each answer has the rows of its query on the server's tables at the version that it names, each ask asks just what
-- is not covered, a covered query sends nothing, the client keeps to its budgets, versions never fall, and nothing that comes is refused:
-- whatever the plan is, over any number of connections, and from any client whose link is cut, that has the rows of its version on the
-- server, within its budgets.
abbrev pub HonestRunsAreTrue : Type 0
HonestRunsAreTrue =
    (s : Server) (pieces : List (List Input)) (end left : End) (past : session.Client) (address : List ℕ) (plan : Plan Task Answer) (ended : Ending)
    (old new : Linking) (before after : Writing)
    → list_all is_table end.client.schema ≡ true → Rests IsEnd s.database end past → KeepsToBudgets (basis_of s.database end.client.store.limits) past
    → AllTasks IsAskedFor plan
    → (run : RanFrom end past address plan ended old new before after left) → IsHonest end.client.schema s pieces (run.run.ran.earlier ++ run.run.ran.last ∷ [])
    → IsTrue (server_at_last s pieces).database end.client.store.limits past (run.run.ran.earlier ++ run.run.ran.last ∷ []) ended

-- So it is of a new client, whatever the schema and the limits are.
abbrev pub NewHonestRunsAreTrue : Type 0
NewHonestRunsAreTrue =
    (id : ℕ) (address : List ℕ) (schema : List Table) (limits : Limits) (keeps says : Bool) (s : Server) (pieces : List (List Input))
    (plan : Plan Task Answer) (ended : Ending) (old new : Linking) (before after : Writing)
    → AllTasks IsAskedFor plan → (run : RanNew id address schema limits keeps says plan ended old new before after)
    → IsHonest schema s pieces (run.ran.run.ran.earlier ++ run.ran.run.ran.last ∷ [])
    → IsTrue (server_at_last s pieces).database limits new_past (run.ran.run.ran.earlier ++ run.ran.run.ran.last ∷ []) ended

-- So it is of calls to a server that serves tables of this schema, at the versions that it has in the end.
abbrev pub ServedRunsAreTrue : Type 0
ServedRunsAreTrue =
    (id : ℕ) (address : List ℕ) (schema : List Table) (limits : Limits) (keeps says : Bool) (db last : Database) (talks : List Conversation)
    (plan : Plan Task Answer) (ended : Ending) (old new : Linking) (before after : Writing)
    → AllTasks IsAskedFor plan → (run : RanNew id address schema limits keeps says plan ended old new before after) → db.schema ≡ schema
    → 0 < length db.versions → IsSound last
    → AreServedCalls End Gives db (run.ran.run.ran.earlier ++ run.ran.run.ran.last ∷ []) talks last
    → IsTrue last limits new_past (run.ran.run.ran.earlier ++ run.ran.run.ran.last ∷ []) ended

-- Over an honest link a run never ends with 11, since so many frames never come for one request, where the server's log keeps at most 500,000
-- changes, its tables have at most 65,536 rows, and the plan's queries at most four parts.
abbrev pub HonestRunsAreShort : Type 0
HonestRunsAreShort =
    (s : Server) (pieces : List (List Input)) (end left : End) (past : session.Client) (address : List ℕ) (plan : Plan Task Answer) (ended : Ending)
    (old new : Linking) (before after : Writing)
    → list_all is_table end.client.schema ≡ true → Rests IsEnd s.database end past → AllTasks IsAskedFor plan → AllTasks AsksFew plan
    → (run : RanFrom end past address plan ended old new before after left) → IsHonest end.client.schema s pieces (run.run.ran.earlier ++ run.run.ran.last ∷ [])
    → s.database.log_limit ≤ 500000 → HasFewRows (server_at_last s pieces).database → status_of ended ≢ 11

-- So it is of a new client.
abbrev pub NewHonestRunsAreShort : Type 0
NewHonestRunsAreShort =
    (id : ℕ) (address : List ℕ) (schema : List Table) (limits : Limits) (keeps says : Bool) (s : Server) (pieces : List (List Input))
    (plan : Plan Task Answer) (ended : Ending) (old new : Linking) (before after : Writing)
    → AllTasks IsAskedFor plan → AllTasks AsksFew plan
    → (run : RanNew id address schema limits keeps says plan ended old new before after)
    → IsHonest schema s pieces (run.ran.run.ran.earlier ++ run.ran.run.ran.last ∷ [])
    → s.database.log_limit ≤ 500000 → HasFewRows (server_at_last s pieces).database → status_of ended ≢ 11

-- The queries of a script have at most four parts.
abbrev pub ScriptsAskFew : Type 0
ScriptsAskFew =
    (schema : List Table) (lines : List EventLine) (script : List (ℕ × Task)) → AreTasks schema lines script
    → AllTasks {A = Answer} AsksFew (plan_of ((0, Do Resumed) ∷ script))

-- Over any link, whatever the peer is, each step of a run goes by the client's rules, on what the frames brought to the rows that its client
-- had, and the client keeps to its budgets by them.
abbrev pub RunsFromAnyClientGoByTold : Type 0
RunsFromAnyClientGoByTold =
    (end left : End) (past : session.Client) (address : List ℕ) (plan : Plan Task Answer) (ended : Ending) (old new : Linking)
    (before after : Writing) (told : Told) → HasTold end.client.schema end past told
    → (run : RanFrom end past address plan ended old new before after left)
    → GoByTold end.client.store.limits end.client.schema told past (steps_in (all_done (run.run.ran.earlier ++ run.run.ran.last ∷ [])))

-- So does each step of a run of a new client, on the rows that the frames brought.
abbrev pub RunsGoByTold : Type 0
RunsGoByTold =
    (id : ℕ) (address : List ℕ) (schema : List Table) (limits : Limits) (keeps says : Bool) (plan : Plan Task Answer) (ended : Ending)
    (old new : Linking) (before after : Writing)
    → (run : RanNew id address schema limits keeps says plan ended old new before after)
    → GoByTold limits schema nothing_told new_past (steps_in (all_done (run.ran.run.ran.earlier ++ run.ran.run.ran.last ∷ [])))

-- So does each step of a run that is broken off for want of memory.
abbrev pub BrokenRunsGoByTold : Type 0
BrokenRunsGoByTold =
    (end : End) (past : session.Client) (address : List ℕ) (plan : Plan Task Answer) (old new : Linking) (before after : Writing) (told : Told)
    → HasTold end.client.schema end past told
    → (run : RanOff end past address plan old new before after) → GoByTold end.client.store.limits end.client.schema told past (steps_in (all_done run.calls))

-- No line of a script asks to take a message.
abbrev pub ScriptsAreAskedFor : Type 0
ScriptsAreAskedFor =
    (schema : List Table) (lines : List EventLine) (script : List (ℕ × Task)) → AreTasks schema lines script
    → AllTasks {A = Answer} IsAskedFor (plan_of ((0, Do Resumed) ∷ script))
