-- What is known of a client by its contract.
use Rattle.std.specs.Prelude.{ℕ, Bool, true, false, ◌≤◌, List, [], ◌∷◌, ◌≡◌, ◌≢◌, Option, Some, None, Result, Ok, Err}
use Rattle.std.specs.List.{All, AllZip}
use Rattle.sr_cell.specs.declared.fault.Fault.{Fault}
use Rattle.sr_cell.specs.declared.table.Table.{Table}
use Rattle.sr_message.specs.declared.message.Message.{Message}
use Rattle.sr_model.specs.Queries as model
use Rattle.sr_policy.specs.declared.policy.Limits.{Limits}
use Rattle.sr_reader.specs.declared.script.Event as code
use Rattle.sr_reader.specs.declared.script.Event.TheVariants as read
use Rattle.sr_reader.specs.declared.script.EventLine.{EventLine}
use Rattle.sr_reader.specs.Read.{Means}
use Rattle.sr_script.specs.declared.line.TraceLine.{TraceLine}
use Rattle.sr_session.specs.Bases.{basis_of}
use Rattle.sr_session.specs.Clients.{Client}
use Rattle.sr_session.specs.Laws.{IsSound}
use Rattle.sr_session.specs.Sessions.{Database, newest, tables_of}
use Rattle.sr_wire.specs.Limits.{IsSendable}
use Rattle.sr_session.specs.Misfits.{misfit}
use Rattle.sr_session.specs.Refusals.{names_client}
use Rattle.sr_session.specs.Rules.{Outcome, sent_of}
use Rattle.sr_explain.specs.declared.explanation.Explanation.{Explanation}
use Rattle.sr_explain.specs.Explained.{Explains, count_in}
use Rattle.sr_explain.specs.Telling.{explain_lines}
use Rattle.sr_links.specs.Brought.{Holding, IsLawful}
use Rattle.sr_links.specs.Steps.{Standing, Deed, Queried, Wrote, Evicted, Took, WasCut, Resumed, IsFair}
use Rattle.sr_dial.specs.Calls.{Done, Made, Explained, Said, Task, Do, Explain, Say, lines_of, text_of}
use Rattle.sr_dial.specs.Carrying.{spoken}
use Rattle.sr_dial.specs.Following.{answer_of}
use Rattle.sr_dial.specs.declared.parts.Answer.{Answer}
use Rattle.sr_dial.specs.declared.parts.Came.{Came}
use Rattle.sr_dial.specs.declared.parts.Came.TheVariants.{Taken, Bad}

-- ---- lines of a script

-- Which deed a line asks of a client. Statements, pushes and deliveries ask nothing of it, and an explanation is no deed.
abbrev pub IsDeed : List Table → code.Event → Deed → Type 0
IsDeed schema (read.Query n query) deed = (meaning : Result model.Query Fault) × Means schema query meaning × (deed ≡ Queried meaning)
IsDeed schema (read.Write n sql) deed = deed ≡ Wrote sql
IsDeed schema (read.Evict n place) deed = deed ≡ Evicted place
IsDeed schema (read.Cut n) deed = deed ≡ WasCut
IsDeed schema (read.Resume n) deed = deed ≡ Resumed
IsDeed schema other deed = ⊥

-- Which text it asks to explain.
abbrev pub IsExplaining : List Table → code.Event → Result model.Query Fault → Type 0
IsExplaining schema (read.Explain n query) text = Means schema query text
IsExplaining schema other text = ⊥

-- one or the other
abbrev pub IsTask : List Table → code.Event → Task → Type 0
IsTask schema event (Do deed) = IsDeed schema event deed
IsTask schema event (Explain text) = IsExplaining schema event text
IsTask schema event (Say text) = ⊥

-- with the number of the line
abbrev pub IsTaskLine : List Table → EventLine → ℕ × Task → Type 0
IsTaskLine schema line numbered = (task : Task) × IsTask schema line.event task × (numbered ≡ (line.number, task))

abbrev pub AreTasks : List Table → List EventLine → List (ℕ × Task) → Type 0
AreTasks schema lines script = AllZip (IsTaskLine schema) lines script

-- ---- steps

-- what a client knows, which no step changes; whether it keeps the rows of an answer, so as to lend them; and whether its run writes lines
pub record Setting : Type 0 where
  pub number : ℕ
  pub schema : List Table
  pub limits : Limits
  pub keeps : Bool
  pub says : Bool

-- what is written for a thing that was done
abbrev pub said_by : {C : Type 0} → Setting → Done C → List ℕ
said_by {C} k d = spoken k.says (text_of k.schema k.number d)

-- A resume over a cut link brings it up and sends one message; a cut takes it down; nothing else changes it. Requests go out only over a
-- link that is up.
abbrev pub KeepsLink : Deed → List Message → Client → Client → Type 0
KeepsLink Resumed [] c next = (c.cut ≡ false) × (next.cut ≡ false)
KeepsLink Resumed (m ∷ sent) c next = (c.cut ≡ true) × (next.cut ≡ false) × (sent ≡ [])
KeepsLink WasCut sent c next = (next.cut ≡ true) × (sent ≡ [])
KeepsLink deed sent c next = (next.cut ≡ c.cut) × (sent ≢ [] → c.cut ≡ false)

-- a request that names a client names that of this number
abbrev pub IsFrom : ℕ → Message → Type 0
IsFrom number m = names_client number m ≡ true

-- What a client did, from this past: it has an outcome, by which are its lines, what it sends and the answer that it lends, and a next past,
-- for which it stands then. What is sent is from it, and is out, and over a cut link nothing is. And it is fair, and
-- lawful on any link.
pub record Makes {C : Type 0} (Stands : C → Client → Type 0) (lent : C → Option Answer) (IsOf : Standing C) (Has : Holding C) (s : Setting)
    (old new : C) (c : Client) (deed : Deed) (lines : List TraceLine) (sent : List Message) : Type 0 where
  pub outcome : Outcome
  pub next : Client
  pub lines_are : lines ≡ lines_of s.number deed outcome
  pub sent_is : sent ≡ sent_of outcome
  pub from : All (IsFrom s.number) sent
  pub link : KeepsLink deed sent c next
  pub waits : sent ≢ [] → next.out ≢ None
  pub rests : next.cut ≡ true → next.out ≡ None
  pub answers : lent new ≡ answer_of s.keeps outcome
  pub stands : Stands new next
  pub fair : IsFair IsOf s.limits old c (record { deed = deed; outcome = outcome; past = next; code = new })
  pub lawful : IsLawful Has s.limits s.schema old c (record { deed = deed; outcome = outcome; past = next; code = new })

-- What goes out then can be sent.
abbrev pub MaySend : Came → Type 0
MaySend (Taken told) = All IsSendable told.sent
MaySend (Bad why) = Unit {0}

-- A message was taken, which need not be refused; or it is refused.
abbrev pub TakesAs : {C : Type 0} → Came → (C → Client → Type 0) → (C → Option Answer) → Standing C → Holding C → Setting → C → C → Client → Message → Type 0
TakesAs {C} (Taken told) Stands lent IsOf Has s old new c m =
    Makes Stands lent IsOf Has s old new c (Took m) told.lines told.sent × (misfit s.schema c.out c.laid c.version m ≡ None)
TakesAs {C} (Bad why) Stands lent IsOf Has s old new c m = misfit s.schema c.out c.laid c.version m ≡ Some why

-- It leaves the link as it is.
abbrev pub IsPlain : Deed → Type 0
IsPlain (Queried query) = Unit {0}
IsPlain (Wrote sql) = Unit {0}
IsPlain (Evicted place) = Unit {0}
IsPlain other = ⊥

-- ---- explanations

-- What a client explains at this past: why the text is refused; or how it would answer the query, as the rules say on all versions whose
-- rows the client has.
abbrev pub IsFairlyExplained : {C : Type 0} → Standing C → Limits → C → Client → Result model.Query Fault → Result Explanation Fault → Type 0
IsFairlyExplained {C} IsOf limits code c (Err fault) result = result ≡ Err fault
IsFairlyExplained {C} IsOf limits code c (Ok query) result =
    (e : Explanation) × (result ≡ Ok e)
    × ((db : Database) → IsSound db → c.version ≤ newest db → IsOf db.schema code c (tables_of db c.version)
    → Explains (basis_of db limits) (count_in (tables_of db c.version) c.marks c.queries) c query e)

-- All that was explained is, each at the past behind the steps before it.
abbrev pub AreFairlyExplained : {C : Type 0} → Standing C → Limits → C → Client → List (Done C) → Type 0
AreFairlyExplained {C} IsOf limits code c [] = Unit {0}
AreFairlyExplained {C} IsOf limits code c (Made number cause step ∷ ds) = AreFairlyExplained IsOf limits step.code step.past ds
AreFairlyExplained {C} IsOf limits code c (Explained number text result ∷ ds) =
    IsFairlyExplained IsOf limits code c text result × AreFairlyExplained IsOf limits code c ds
AreFairlyExplained {C} IsOf limits code c (Said number text ∷ ds) = AreFairlyExplained IsOf limits code c ds

-- These lines tell it.
pub record Tells {C : Type 0} (IsOf : Standing C) (s : Setting) (code : C) (c : Client) (text : Result model.Query Fault)
    (lines : List TraceLine) : Type 0 where
  pub result : Result Explanation Fault
  pub lines_are : lines ≡ explain_lines s.number result
  pub fair : IsFairlyExplained IsOf s.limits code c text result
