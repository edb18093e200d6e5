-- What a client did, step by step.
use Rattle.std.specs.Prelude.{ℕ, false, ◌<◌, ◌≤◌, List, [], ◌∷◌, ◌++◌, length, ◌≡◌, None, Result}
use Rattle.sr_cell.specs.declared.fault.Fault.{Fault}
use Rattle.sr_cell.specs.declared.table.Table.{Table}
use Rattle.sr_message.specs.declared.message.Message.{Message}
use Rattle.sr_model.specs.Queries.{Query}
use Rattle.sr_model.specs.Statements.{Tables}
use Rattle.sr_policy.specs.declared.policy.Limits.{Limits}
use Rattle.sr_session.specs.Sessions.{Database, Session, newest, tables_of}
use Rattle.sr_session.specs.Clients.{Client, Connection, IsOpen}
use Rattle.sr_session.specs.Laws.{IsSound}
use Rattle.sr_session.specs.Rules.{Basis, Outcome, QueryRefused, sent_of, QueryStep, TakeStep, EvictStep, WriteStep, CutStep, ResumeStep}
use Rattle.sr_session.specs.Texts.{most_text, long_text}
use Rattle.sr_session.specs.Bases.{basis_of}

-- Of a query a deed has what its text means, or why it means nothing.
pub data Deed : Type 0 where
  Queried : (query : Result Query Fault) → Deed
  Wrote : (sql : List ℕ) → Deed
  Evicted : (place : ℕ) → Deed
  Took : (message : Message) → Deed
  WasCut : Deed
  Resumed : Deed

-- A text that is too long is refused by the client itself.
pub data Writes (sql : List ℕ) (c : Client) : Outcome → Client → Type 0 where
  too_long : most_text < length sql → Writes sql c (QueryRefused long_text) c
  writes : (o : Outcome) (new : Client) → length sql ≤ most_text → WriteStep sql c o new → Writes sql c o new

-- the rule of the deed
abbrev pub Does : Basis → Deed → Client → Outcome → Client → Type 0
Does b (Queried query) c o new = QueryStep b c query o new
Does b (Wrote sql) c o new = Writes sql c o new
Does b (Evicted place) c o new = EvictStep b place c o new
Does b (Took m) c o new = TakeStep b c m o new
Does b WasCut c o new = CutStep c o new
Does b Resumed c o new = ResumeStep b.schema c o new

-- What was done, what came of it, and what the client was then: its past, and its code.
pub record Step (C : Type 0) : Type 0 where
  pub deed : Deed
  pub outcome : Outcome
  pub past : Client
  pub code : C

-- the client and its code after the steps
abbrev pub past_after : {C : Type 0} → Client → List (Step C) → Client
past_after {C} c [] = c
past_after {C} c (step ∷ steps) = past_after step.past steps

abbrev pub code_after : {C : Type 0} → C → List (Step C) → C
code_after {C} code [] = code
code_after {C} code (step ∷ steps) = code_after step.code steps

-- ---- over any link

-- Each step goes by the client's rules, whatever the peer is.
abbrev pub AreRuled : {C : Type 0} → Client → List (Step C) → Type 0
AreRuled {C} c [] = Unit {0}
AreRuled {C} c (step ∷ steps) = ((b : Basis) × Does b step.deed c step.outcome step.past) × AreRuled step.past steps

-- A message is awaited only while a request is out.
abbrev pub IsAwaited : Client → Deed → Type 0
IsAwaited c (Took m) = c.out ≡ None → ⊥
IsAwaited c other = Unit {0}

abbrev pub AreAwaited : {C : Type 0} → Client → List (Step C) → Type 0
AreAwaited {C} c [] = Unit {0}
AreAwaited {C} c (step ∷ steps) = IsAwaited c step.deed × AreAwaited step.past steps

-- A resume while the link is up does nothing, so it stays on the connection.
abbrev pub StaysOn : Client → Deed → Type 0
StaysOn c Resumed = c.cut ≡ false
StaysOn c other = Unit {0}

-- all over one connection
abbrev pub OnOne : {C : Type 0} → Client → List (Step C) → Type 0
OnOne {C} c [] = Unit {0}
OnOne {C} c (step ∷ steps) = StaysOn c step.deed × OnOne step.past steps

abbrev pub taken_by : Deed → List Message
taken_by (Took m) = m ∷ []
taken_by other = []

-- the messages that were taken
abbrev pub given_of : {C : Type 0} → List (Step C) → List Message
given_of {C} [] = []
given_of {C} (step ∷ steps) = taken_by step.deed ++ given_of steps

-- the requests that were sent
abbrev pub requests_of : {C : Type 0} → List (Step C) → List Message
requests_of {C} [] = []
requests_of {C} (step ∷ steps) = sent_of step.outcome ++ requests_of steps

-- ---- what the contracts of a client say of its steps

-- The message is the first of those that are on their way to a client for which all stands.
pub record ComesTruly (db : Database) (c : Client) (m : Message) : Type 0 where
  pub connection : Connection
  pub session : Session
  pub queue : List Message
  pub is_open : IsOpen db c connection session
  pub first : connection.to_client ≡ m ∷ queue

abbrev pub ComesIf : Database → Client → Deed → Type 0
ComesIf db c (Took m) = ComesTruly db c m
ComesIf db c other = Unit {0}

-- code that stands for a past, with the rows of some tables of this schema
abbrev pub Standing : Type 0 → Type 1
Standing C = List Table → C → Client → Tables → Type 0

-- For all versions whose rows the client has, and where a message comes truly, the step goes by the rules on these versions, and the
-- client has their rows again.
abbrev pub IsFair : {C : Type 0} → Standing C → Limits → C → Client → Step C → Type 0
IsFair {C} IsOf limits code c step =
    (db : Database) → IsSound db → c.version ≤ newest db → IsOf db.schema code c (tables_of db c.version) → ComesIf db c step.deed
    → Does (basis_of db limits) step.deed c step.outcome step.past × IsOf db.schema step.code step.past (tables_of db step.past.version)

abbrev pub AreFair : {C : Type 0} → Standing C → Limits → C → Client → List (Step C) → Type 0
AreFair {C} IsOf limits code c [] = Unit {0}
AreFair {C} IsOf limits code c (step ∷ steps) = IsFair IsOf limits code c step × AreFair IsOf limits step.code step.past steps
