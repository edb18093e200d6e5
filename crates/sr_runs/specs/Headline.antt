-- What holds of each scene and each trace of a script.
use Rattle.std.specs.Prelude.{ℕ, Bool, true, false, ◌≤◌, ◌⊎◌, List, ◌∷◌, ◌++◌, length, map, ◌≡◌, Some, None, Result, Ok, IsTrue}
use Rattle.sr_cell.specs.declared.fault.Fault.{Fault}
use Rattle.sr_cell.specs.declared.table.Table.{Table}
use Rattle.sr_message.specs.declared.message.AskPart.{AskPart}
use Rattle.sr_model.specs.Queries.{Query, rows_of}
use Rattle.sr_model.specs.Statements.{Tables}
use Rattle.sr_policy.specs.declared.policy.Limits.{Limits}
use Rattle.sr_history.specs.declared.mark.Mark.{Mark}
use Rattle.sr_script.specs.declared.line.TraceLine.{TraceLine}
use Rattle.sr_script.specs.declared.line.TraceLine.TheVariants as line
use Rattle.sr_session.specs.Sessions.{newest, tables_of}
use Rattle.sr_session.specs.Clients.{Pair}
use Rattle.sr_session.specs.Rules.{AskSent, next_query}
use Rattle.sr_session.specs.Headline.{AsksTheUncovered, IsCovered, IsReached, query_at}
use Rattle.sr_session.specs.Scenes.{Did, Event, Happens, Report, Scene, SceneStands, client_of, first_scene, pair_at}
use Rattle.sr_session.specs.Scenes.{Runs as EventsRun}
use Rattle.sr_explain.specs.Telling.{ExplainsTo}
use Rattle.sr_runs.specs.Lines.{answer_lines, lines_of, mark_lines, part_line}
use Rattle.sr_lines.specs.Events.{DoQuery, ScriptEvent}
use Rattle.sr_runs.specs.Runs.{Runs, Steps, numbered}

-- ---- steps are runs of events

-- some events lead from one scene to the other
abbrev pub Leads : Scene → Scene → Type 0
Leads s new = (events : List Event) × (reports : List Report) × EventsRun s events reports new

-- Each step of a script is events of the scene, one after another.
abbrev pub StepsAreEvents : Type 0
StepsAreEvents = (eager : Bool) (s new : Scene) (what : ScriptEvent) (lines : List TraceLine) → Steps eager s what lines new → Leads s new

-- A scene of a script: events of a script, with or without eager delivery, lead to it from one in which nothing has happened.
pub record IsScripted (s : Scene) : Type 0 where
  pub eager : Bool
  pub limits : Limits
  pub schema : List Table
  pub log_limit : ℕ
  pub tables : Tables
  pub clients : ℕ
  pub events : List (ℕ × ScriptEvent)
  pub lines : List (ℕ × TraceLine)
  pub runs : Runs eager (first_scene limits schema log_limit tables clients) events lines s

abbrev pub start_of : (last : Scene) → IsScripted last → Scene
start_of last script = first_scene script.limits script.schema script.log_limit script.tables script.clients

-- Each scene of a script is one of a run, so that all that holds of those holds of it.
abbrev pub ScriptsReach : Type 0
ScriptsReach = (s : Scene) → IsScripted s → IsReached s

-- So each client stands there.
abbrev pub ScriptsStand : Type 0
ScriptsStand = (s : Scene) → IsScripted s → SceneStands s

-- ---- each line is one of an event

-- The event happened at some moment on the way from one scene to the other.
pub record IsMoment (s new : Scene) (event : Event) (report : Report) : Type 0 where
  pub before : Scene
  pub after : Scene
  pub leads : Leads s before
  pub happens : Happens before event report after
  pub follows : Leads after new

-- The line, with the lines behind it, is one of the lines that an event gave at its moment; these stand together.
pub record IsTold (s new : Scene) (number : ℕ) (l : TraceLine) (behind : List (ℕ × TraceLine)) : Type 0 where
  pub event : Event
  pub report : Report
  pub moment : IsMoment s new event report
  pub front : List TraceLine
  pub own : List TraceLine
  pub lines : lines_of event report ≡ front ++ l ∷ own
  pub rest : List (ℕ × TraceLine)
  pub behind_is : behind ≡ numbered number own ++ rest

-- At some moment on the way a client explains how it would answer a query. The line, with the lines behind it, is one of those that
-- tell it; these stand together.
pub record IsExplained (s new : Scene) (number : ℕ) (l : TraceLine) (behind : List (ℕ × TraceLine)) : Type 0 where
  pub there : Scene
  pub leads : Leads s there
  pub follows : Leads there new
  pub client : ℕ
  pub text : Result Query Fault
  pub front : List TraceLine
  pub own : List TraceLine
  pub explains : ExplainsTo there client text (front ++ l ∷ own)
  pub rest : List (ℕ × TraceLine)
  pub behind_is : behind ≡ numbered number own ++ rest

-- the line that ends a settle, or that refuses a write whose text is too long
abbrev pub is_of_no_event : TraceLine → Bool
is_of_no_event (line.Settled n frames) = true
is_of_no_event (line.WriteSql n fault) = true
is_of_no_event other = false

-- The step of a run, of the event with this number, in which the line behind the front is written: the events before and behind it with
-- their lines, and the scenes before and after it.
pub record IsStep (eager : Bool) (s new : Scene) (events : List (ℕ × ScriptEvent)) (number : ℕ) (front : List (ℕ × TraceLine)) : Type 0 where
  pub earlier : List (ℕ × ScriptEvent)
  pub what : ScriptEvent
  pub later : List (ℕ × ScriptEvent)
  pub events_are : events ≡ earlier ++ (number, what) ∷ later
  pub there : Scene
  pub lines : List (ℕ × TraceLine)
  pub runs : Runs eager s earlier lines there
  pub next : Scene
  pub own : List TraceLine
  pub steps : Steps eager there what own next
  pub written : List TraceLine  -- its first lines
  pub front_is : front ≡ lines ++ numbered number written
  pub rest : List (ℕ × TraceLine)
  pub ends : Runs eager next later rest new

-- Each line of a trace is one of an event or of an explanation, at its moment in the step that has its number; but for those of no event.
abbrev pub LinesAreTold : Type 0
LinesAreTold = (eager : Bool) (s new : Scene) (events : List (ℕ × ScriptEvent)) (lines : List (ℕ × TraceLine))
    → Runs eager s events lines new → (front : List (ℕ × TraceLine)) (number : ℕ) (l : TraceLine) (behind : List (ℕ × TraceLine))
    → lines ≡ front ++ (number, l) ∷ behind
    → (step : IsStep eager s new events number front)
    × (IsTold step.there step.next number l behind ⊎ (IsExplained step.there step.next number l behind ⊎ IsTrue (is_of_no_event l)))

-- ---- answers

-- A line of the script asks this query of that client.
pub record IsAsked (events : List (ℕ × ScriptEvent)) (n : ℕ) (q : Query) : Type 0 where
  pub front : List (ℕ × ScriptEvent)
  pub number : ℕ
  pub behind : List (ℕ × ScriptEvent)
  pub events_are : events ≡ front ++ (number, DoQuery n (Ok q)) ∷ behind

-- Behind the line of an answer stand just the rows of the client's query of that number, which the script asks of it, on the tables of the
-- version that it names.
pub record IsRightAnswerLine (last : Scene) (script : IsScripted last) (number n query version rows : ℕ) (behind : List (ℕ × TraceLine)) : Type 0 where
  pub pair : Pair
  pub pair_is : pair_at last n ≡ Some pair
  pub meaning : Query
  pub done : Bool
  pub query_is : query_at pair.client query ≡ Some (record { query = meaning; answered = done })
  pub asked : IsAsked script.events n meaning
  pub there : version ≤ newest last.database
  pub count : rows ≡ length (rows_of meaning (tables_of last.database version))
  pub rest : List (ℕ × TraceLine)
  pub behind_is : behind ≡ numbered number (map line.Row (rows_of meaning (tables_of last.database version))) ++ rest

-- Wherever a trace has the line of an answer, the rows behind it are right.
abbrev pub AnswerLinesAreRight : Type 0
AnswerLinesAreRight = (last : Scene) (script : IsScripted last) (front : List (ℕ × TraceLine)) (number n query version rows : ℕ)
    (behind : List (ℕ × TraceLine)) → script.lines ≡ front ++ (number, line.Answer n query version rows) ∷ behind
    → IsRightAnswerLine last script number n query version rows behind

-- ---- versions

-- Of two answers to one client, the later one in a trace names no lower version.
abbrev pub AnswerVersionsNeverFall : Type 0
AnswerVersionsNeverFall = (last : Scene) (script : IsScripted last) (front between behind : List (ℕ × TraceLine)) (a b n first later v w rows more : ℕ)
    → script.lines ≡ front ++ (a, line.Answer n first v rows) ∷ (between ++ (b, line.Answer n later w more) ∷ behind) → v ≤ w

-- ---- asks

-- Behind the line of an ask stand its parts, and they ask just what was uncovered, at that moment in the step that has the line's number,
-- of the query that it is for, which the script asks of the client.
pub record IsRightAskLine (last : Scene) (script : IsScripted last) (front : List (ℕ × TraceLine)) (number n request : ℕ) (fresh : Bool)
    (count : ℕ) (behind : List (ℕ × TraceLine)) : Type 0 where
  pub step : IsStep script.eager (start_of last script) last script.events number front
  pub event : Event
  pub drops : List Mark
  pub parts : List AskPart
  pub moment : IsMoment step.there step.next event (Did (AskSent drops request fresh parts))
  pub of_client : client_of event ≡ n
  pub uncovered : AsksTheUncovered moment.before moment.after event drops request fresh parts
  pub asked : IsAsked script.events n uncovered.query
  pub count_is : count ≡ length parts
  pub rest : List (ℕ × TraceLine)
  pub behind_is : behind ≡ numbered number (map part_line parts) ++ rest

-- Wherever a trace has the line of an ask, the parts behind it ask the uncovered.
abbrev pub AskLinesAreRight : Type 0
AskLinesAreRight = (last : Scene) (script : IsScripted last) (front : List (ℕ × TraceLine)) (number n request : ℕ) (fresh : Bool)
    (count : ℕ) (behind : List (ℕ × TraceLine)) → script.lines ≡ front ++ (number, line.Ask n request fresh count) ∷ behind
    → IsRightAskLine last script front number n request fresh count behind

-- ---- covered queries

-- The lines begin with the answer of the query at the client's version, its marks and its last line, and none of them is that of an ask
-- of the client.
pub record IsAnsweredAtOnce (s : Scene) (old : Pair) (n : ℕ) (q : Query) (lines : List TraceLine) : Type 0 where
  pub marks : List Mark
  pub rest : List TraceLine
  pub lines_are : lines ≡ answer_lines n (next_query old.client) old.client.version (rows_of q (tables_of s.database old.client.version))
      ++ (mark_lines n marks ++ line.QueryAnswered n (next_query old.client) ∷ rest)
  pub asks_nothing : (front : List TraceLine) (request : ℕ) (fresh : Bool) (count : ℕ) (behind : List TraceLine)
      → lines ≡ front ++ line.Ask n request fresh count ∷ behind → ⊥

-- A query of which each point is covered, of a client with no request out, is answered in its own step, and no line of the step is that of
-- an ask of the client.
abbrev pub ACoveredQueryAsksNothing : Type 0
ACoveredQueryAsksNothing = (eager : Bool) (s new : Scene) (n : ℕ) (q : Query) (lines : List TraceLine) (old : Pair)
    → Steps eager s (DoQuery n (Ok q)) lines new → pair_at s n ≡ Some old → IsCovered s.database.schema old.client.marks q
    → old.client.out ≡ None → IsAnsweredAtOnce s old n q lines
