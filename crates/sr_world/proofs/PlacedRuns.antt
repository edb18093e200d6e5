-- The lines of a run are of tables that are there, and of columns of theirs.
use Rattle.std.proofs.Common.{zero, suc, ◌≡◌, ◌∙◌, ◌+◌, ℕ, Bool, true, List, [], ◌∷◌, ◌++◌, length, map, refl, sym, subst, Option, Some, None}
use Rattle.std.specs.Prelude.{Result, Ok, Err, slice_set, replicate}
use Rattle.std.specs.List.{list_all, AllByRecursion}
use Rattle.sr_cell.specs.declared.fault.Fault.{Fault}
use Rattle.sr_cell.specs.declared.table.Table.{Table}
use Rattle.sr_message.specs.declared.message.Message.{Message}
use Rattle.sr_model.specs.Queries.{Query}
use Rattle.sr_model.specs.Statements.{Tables}
use Rattle.sr_policy.specs.declared.policy.Limits.{Limits}
use Rattle.sr_query.specs.Bound.{is_table}
use Rattle.sr_script.specs.declared.line.TraceLine.{TraceLine}
use Rattle.sr_script.specs.declared.line.TraceLine.TheVariants as line
use Rattle.sr_lines.specs.Events.{ScriptEvent, DoExec, DoQuery, DoWrite, DoExplain, DoPush, DoToServer, DoToClient, DoSettle, DoEvict, DoCut, DoResume}
use Rattle.sr_session.specs.Sessions.{Database, serve_push, tables_of}
use Rattle.sr_session.specs.Clients.{Pair}
use Rattle.sr_session.specs.Laws.{HasTables}
use Rattle.sr_session.specs.Scenes.{Event, QueryOf, Report, Scene, SceneStands, acted, basis_of, client_idle, client_took, cut, cut_off, done, evicted, executed, first_scene, given, new_pair, next, not_executed, pair_at, push_closed, pushed, queried, resumed, server_idle, server_took, taken, with_pair, wrote, Happens}
use Rattle.sr_session.specs.Scenes.{Runs as EventsRun}
use Rattle.sr_session.proofs.BudgetLemmas.{Grows, grows, more, same, tables-before}
use Rattle.sr_session.proofs.EventLemmas.{events-keep, first-stands}
use Rattle.sr_explain.specs.Explained.{count_in}
use Rattle.sr_explain.specs.Telling.{explain_lines}
use Rattle.sr_runs.specs.Lines.{lines_of}
use Rattle.sr_runs.specs.Scripts.{Is, is_cut, is_evict, is_exec, is_push, is_query, is_resume, is_to_client, is_to_server, is_write_of}
use Rattle.sr_runs.specs.Runs.{Acts, AllSettle, Does, Runs, Settles, Steps, acts, alone, delivers, does, does_settle, eagerly, ends, explains, goes_on, is_quiet, next_of, no_client, numbered, one_more, too_long}
use Rattle.sr_runs.proofs.StepLemmas.{Leads, acts-lead, all-settle-lead, both, does-lead, runs-lead, settles-lead, steps-are-events}
use Rattle.sr_script.specs.Printable.{IsPlaced}
use Rattle.sr_world.proofs.Placed.{all-append, all-get, all-map}
use Rattle.sr_world.proofs.PlacedExplained.{IsPlacedText, explain-placed}
use Rattle.sr_world.proofs.PlacedRows.{answer-signed, versions-signed}
use Rattle.sr_world.proofs.PlacedSteps.{AnswersSigned, ArePlaced, IsPlacedClient, cut-placed, evict-placed, query-placed, resume-placed, served-placed, take-placed, write-placed}

-- ---- scenes

abbrev pub ArePlacedPairs : List Table → List Pair → Type 0
ArePlacedPairs schema pairs = AllByRecursion (λ (pair : Pair). IsPlacedClient schema pair.client) pairs

all-set : {X : Type 0} (P : X → Type 0) (xs : List X) (i : ℕ) (x : X) → AllByRecursion P xs → P x → AllByRecursion P (slice_set xs i x)
all-set {X} P [] i x all is = tt
all-set {X} P (y ∷ xs) zero x all is = (is, all.1)
all-set {X} P (y ∷ xs) (suc i) x all is = (all.0, all-set P xs i x all.1 is)

put-placed : (schema : List Table) (s : Scene) (n : ℕ) (pair : Pair) → ArePlacedPairs schema s.pairs → IsPlacedClient schema pair.client → ArePlacedPairs schema (with_pair s n pair).pairs
put-placed schema s zero pair all is = all
put-placed schema s (suc n) pair all is = all-set (λ (p : Pair). IsPlacedClient schema p.client) s.pairs n pair all is

at-placed : (schema : List Table) (s : Scene) (n : ℕ) (pair : Pair) → ArePlacedPairs schema s.pairs → pair_at s n ≡ Some pair → IsPlacedClient schema pair.client
at-placed schema s zero pair all is = absurd (cc)
at-placed schema s (suc n) pair all is = all-get (λ (p : Pair). IsPlacedClient schema p.client) s.pairs n pair all is

pub first-placed : (schema : List Table) (clients : ℕ) → ArePlacedPairs schema (replicate clients new_pair)
first-placed schema zero = tt
first-placed schema (suc n) = ((tt, tt), first-placed schema n)

-- ---- events

abbrev IsPlacedOne : List Table → Event → Type 0
IsPlacedOne schema (QueryOf n text) = IsPlacedText schema text
IsPlacedOne schema other = Unit {0}

happens-placed : (s new : Scene) (event : Event) (report : Report) → AnswersSigned s → ArePlacedPairs s.database.schema s.pairs → IsPlacedOne s.database.schema event
    → Happens s event report new → ArePlaced s.database.schema (lines_of event report) × ArePlacedPairs s.database.schema new.pairs
happens-placed s new event report signed all own (executed tables) = ((tt, tt), all)
happens-placed s new event report signed all own (not_executed fault) = ((tt, tt), all)
happens-placed s new event report signed all own (queried n text old o c is step) =
    let did = query-placed s n old.client c text o signed (at-placed s.database.schema s n old all is) own step in
    (did.0, put-placed s.database.schema s n (acted c old.connection o) all did.1)
happens-placed s new event report signed all own (wrote n sql old o c is step) =
    let did = write-placed s.database.schema n sql old.client c o (at-placed s.database.schema s n old all is) step in
    (did.0, put-placed s.database.schema s n (acted c old.connection o) all did.1)
happens-placed s new event report signed all own (evicted n place old o c is step) =
    let did = evict-placed s n place old.client c o (at-placed s.database.schema s n old all is) step in
    (did.0, put-placed s.database.schema s n (acted c old.connection o) all did.1)
happens-placed s new event report signed all own (cut n old o c is step) =
    let did = cut-placed s.database.schema n old.client c o (at-placed s.database.schema s n old all is) step in
    (did.0, put-placed s.database.schema s n (cut_off c) all did.1)
happens-placed s new event report signed all own (resumed n old o c is step) =
    let did = resume-placed s.database.schema n old.client c o (at-placed s.database.schema s n old all is) step in
    (did.0, put-placed s.database.schema s n (acted c old.connection o) all did.1)
happens-placed s new event report signed all own (pushed n old session is opened) =
    ((tt, tt), put-placed s.database.schema s n (given old old.connection.to_server (serve_push s.database session)) all (at-placed s.database.schema s n old all is))
happens-placed s new event report signed all own (push_closed n old is closed) = ((tt, tt), all)
happens-placed s new event report signed all own (server_idle n result old is empty) = ((tt, tt), all)
happens-placed s new event report signed all own (server_took n result old m queue is first) =
    let t = taken s.database old.connection.session m result in (
      served-placed s.database.schema n (length t.served.sent) m,
      put-placed s.database.schema (record s { database = t.database }) n (given old queue t.served) all (at-placed s.database.schema s n old all is),
    )
happens-placed s new event report signed all own (client_idle n old is empty) = ((tt, tt), all)
happens-placed s new event report signed all own (client_took n old m queue o c is first step) =
    let did = take-placed s n old.client c m o signed (at-placed s.database.schema s n old all is) step in
    (did.0, put-placed s.database.schema s n (acted c (record old.connection { to_client = queue }) o) all did.1)

-- ---- scenes on the way

same-schema : (old new : Database) → Grows old new → new.schema ≡ old.schema
same-schema old new same = refl
same-schema old new (more tables) = refl

-- what events of a script ask
abbrev pub IsPlacedEvent : List Table → ScriptEvent → Type 0
IsPlacedEvent schema (DoQuery n text) = IsPlacedText schema text
IsPlacedEvent schema (DoExplain n text) = IsPlacedText schema text
IsPlacedEvent schema other = Unit {0}

one-placed : (schema : List Table) (s : Scene) (what : ScriptEvent) (event : Event) → Is s what event → IsPlacedEvent schema what → IsPlacedOne schema event
one-placed schema s what event (is_exec statement) own = tt
one-placed schema s what event (is_query n query) own = own
one-placed schema s what event (is_write_of n sql short) own = tt
one-placed schema s what event (is_push n) own = tt
one-placed schema s what event (is_to_server n pair result is makes) own = tt
one-placed schema s what event (is_to_client n) own = tt
one-placed schema s what event (is_evict n place) own = tt
one-placed schema s what event (is_cut n) own = tt
one-placed schema s what event (is_resume n) own = tt

delivery-placed : (schema : List Table) (n : ℕ) (to_server to_client : List Message) (what : ScriptEvent) → next_of n to_server to_client ≡ Some what → IsPlacedEvent schema what
delivery-placed schema n [] [] what is = absurd (cc)
delivery-placed schema n [] (m ∷ to_client) what is = let same : DoToClient n ≡ what = cc in subst (IsPlacedEvent schema) same tt
delivery-placed schema n (m ∷ to_server) [] what is = let same : DoToServer n ≡ what = cc in subst (IsPlacedEvent schema) same tt
delivery-placed schema n (m ∷ to_server) (w ∷ to_client) what is = let same : DoToServer n ≡ what = cc in subst (IsPlacedEvent schema) same tt

-- A scene over these tables that stands, and whose clients hold and ask what is placed.
pub record IsPlacedScene (schema : List Table) (s : Scene) : Type 0 where
  pub same : s.database.schema ≡ schema
  pub pairs : ArePlacedPairs schema s.pairs
  pub stands : SceneStands s

schema-stays : (s : Scene) (events : List Event) (reports : List Report) (new : Scene) → EventsRun s events reports new → new.database.schema ≡ s.database.schema
schema-stays s events reports new (done a) = refl
schema-stays s events reports new (next a event report mid left told end happens rest) =
    schema-stays mid left told new rest ∙ same-schema s.database mid.database (grows s mid event report happens)

still-stands : (s : Scene) (events : List Event) (reports : List Report) (new : Scene) → EventsRun s events reports new → SceneStands s → SceneStands new
still-stands s events reports new (done a) stands = stands
still-stands s events reports new (next a event report mid left told end happens rest) stands = still-stands mid left told new rest (events-keep s mid event report stands happens)

tables-earlier : (s : Scene) (events : List Event) (reports : List Report) (last : Scene) → SceneStands s → EventsRun s events reports last → HasTables last.database → HasTables s.database
tables-earlier s events reports last stands (done a) has = has
tables-earlier s events reports last stands (next a event report mid left told end happens rest) has =
    tables-before s.database mid.database stands.some (grows s mid event report happens)
    (tables-earlier mid left told last (events-keep s mid event report stands happens) rest has)

stand : (s mid : Scene) → SceneStands s → Leads s mid → SceneStands mid
stand s mid stands leads = still-stands s leads.0 leads.1 mid leads.2 stands

before : (s last : Scene) → SceneStands s → Leads s last → HasTables last.database → HasTables s.database
before s last stands leads has = tables-earlier s leads.0 leads.1 last stands leads.2 has

-- ---- steps

acts-by : (s new : Scene) (what : ScriptEvent) (lines : List TraceLine) → AnswersSigned s → ArePlacedPairs s.database.schema s.pairs → IsPlacedEvent s.database.schema what
    → Acts s what lines new → ArePlaced s.database.schema lines × ArePlacedPairs s.database.schema new.pairs
acts-by s new what lines signed all own (acts a event report b is happens) = happens-placed s new event report signed all (one-placed s.database.schema s what event is own) happens
acts-by s new what lines signed all own (too_long n sql pair is long) = ((tt, tt), all)
acts-by s new what lines signed all own (explains n text told is) =
    let mine = at-placed s.database.schema s n is.0 all is.1 in
    let size = count_in (tables_of s.database is.0.client.version) is.0.client.marks is.0.client.queries in
    (subst (ArePlaced s.database.schema) (sym is.4) (explain-placed (basis_of s) size is.0.client n text is.2 mine.0 own is.3), all)

module _ (schema : List Table) (sound : list_all is_table schema ≡ true) where
  -- the lines, and the scene that they lead to
  abbrev Leaves : List TraceLine → Scene → Type 0
  Leaves lines new = ArePlaced schema lines × IsPlacedScene schema new

  all-signed : (s : Scene) → IsPlacedScene schema s → HasTables s.database → AnswersSigned s
  all-signed s is has v q = answer-signed q (tables_of s.database v) (versions-signed s.database (subst (λ ts. list_all is_table ts ≡ true) (sym is.same) sound) has v)

  acts-placed : (s new : Scene) (what : ScriptEvent) (lines : List TraceLine) → IsPlacedScene schema s → IsPlacedEvent schema what → HasTables s.database → Acts s what lines new → Leaves lines new
  acts-placed s new what lines is own has act =
      let leads = acts-lead s new what lines act in
      let by = subst (λ ts. ArePlacedPairs ts s.pairs → IsPlacedEvent ts what → ArePlaced ts lines × ArePlacedPairs ts new.pairs) is.same
      (λ all mine. acts-by s new what lines (all-signed s is has) all mine act) in
      let did = by is.pairs own in
      (did.0, record { same = schema-stays s leads.0 leads.1 new leads.2 ∙ is.same; pairs = did.1; stands = stand s new is.stands leads })

  settles-placed : (n : ℕ) (s : Scene) (frames : ℕ) (lines : List TraceLine) (last : Scene) → IsPlacedScene schema s → HasTables last.database → Settles n s frames lines last → Leaves lines last
  settles-placed n s frames lines last is has (is_quiet a pair there quiet) = (tt, is)
  settles-placed n s frames lines last is has (delivers a pair what front mid left rest end there first act others) =
      let way = both s mid last (acts-lead s mid what front act) (settles-lead n mid left rest last others) in
      let own = delivery-placed schema n pair.connection.to_server pair.connection.to_client what first in
      let one = acts-placed s mid what front is own (before s last is.stands way has) act in
      let behind = settles-placed n mid left rest last one.1 has others in
      (all-append (IsPlaced schema) front rest one.0 behind.0, behind.1)

  all-settle-placed : (n clients : ℕ) (s : Scene) (lines : List TraceLine) (last : Scene) → IsPlacedScene schema s → HasTables last.database → AllSettle n clients s lines last → Leaves lines last
  all-settle-placed n clients s lines last is has (no_client k a) = (tt, is)
  all-settle-placed n clients s lines last is has (one_more k left a frames front mid rest end one others) =
      let stands = stand s mid is.stands (settles-lead n s frames front mid one) in
      let there = settles-placed n s frames front mid is (before mid last stands (all-settle-lead (n + 1) left mid rest last others) has) one in
      let behind = all-settle-placed (n + 1) left mid rest last there.1 has others in
      (all-append (IsPlaced schema) front rest there.0 behind.0, behind.1)

  does-placed : (s new : Scene) (what : ScriptEvent) (lines : List TraceLine) → IsPlacedScene schema s → IsPlacedEvent schema what → HasTables new.database → Does s what lines new → Leaves lines new
  does-placed s new what lines is own has (does a b c act) = acts-placed s new what lines is own (before s new is.stands (acts-lead s new what lines act) has) act
  does-placed s new what lines is own has (does_settle n frames front b settle) =
      let all = settles-placed n s frames front new is has settle in
      (all-append (IsPlaced schema) front (line.Settled n frames ∷ []) all.0 (tt, tt), all.1)

  steps-placed : (eager : Bool) (s new : Scene) (what : ScriptEvent) (lines : List TraceLine) → IsPlacedScene schema s → IsPlacedEvent schema what → HasTables new.database
      → Steps eager s what lines new → Leaves lines new
  steps-placed eager s new what lines is own has (alone a b c d one) = does-placed s new what lines is own has one
  steps-placed eager s new what lines is own has (eagerly a b front mid rest d one settle) =
      let stands = stand s mid is.stands (does-lead s mid what front one) in
      let there = does-placed s mid what front is own (before mid new stands (all-settle-lead 1 (length mid.pairs) mid rest new settle) has) one in
      let behind = all-settle-placed 1 (length mid.pairs) mid rest new there.1 has settle in
      (all-append (IsPlaced schema) front rest there.0 behind.0, behind.1)

  numbered-placed : (number : ℕ) (lines : List TraceLine) → ArePlaced schema lines → AllByRecursion (λ (l : ℕ × TraceLine). IsPlaced schema l.1) (numbered number lines)
  numbered-placed number [] all = tt
  numbered-placed number (l ∷ lines) all = (all.0, numbered-placed number lines all.1)

  runs-placed : (eager : Bool) (s : Scene) (events : List (ℕ × ScriptEvent)) (lines : List (ℕ × TraceLine)) (last : Scene) → IsPlacedScene schema s
      → AllByRecursion (λ (e : ℕ × ScriptEvent). IsPlacedEvent schema e.1) events → HasTables last.database → Runs eager s events lines last
      → AllByRecursion (λ (l : ℕ × TraceLine). IsPlaced schema l.1) lines
  runs-placed eager s events lines last is own has (ends a) = tt
  runs-placed eager s events lines last is own has (goes_on a number what front mid left rest end step others) =
      let stands = stand s mid is.stands (steps-are-events eager s mid what front step) in
      let there = steps-placed eager s mid what front is own.0 (before mid last stands (runs-lead eager mid left rest last others) has) step in
      all-append (λ (l : ℕ × TraceLine). IsPlaced schema l.1) (numbered number front) rest (numbered-placed number front there.0)
      (runs-placed eager mid left rest last there.1 own.1 has others)

-- Of a run from the start, whose events ask what is placed, each line is placed, if the tables of all versions at its end are such.
pub lines-placed : (eager : Bool) (limits : Limits) (schema : List Table) (log : ℕ) (tables : Tables) (clients : ℕ) (events : List (ℕ × ScriptEvent)) (lines : List (ℕ × TraceLine)) (last : Scene)
    → list_all is_table schema ≡ true → AllByRecursion (λ (e : ℕ × ScriptEvent). IsPlacedEvent schema e.1) events → HasTables last.database
    → Runs eager (first_scene limits schema log tables clients) events lines last → AllByRecursion (λ (l : ℕ × TraceLine). IsPlaced schema l.1) lines
lines-placed eager limits schema log tables clients events lines last sound own has run =
    runs-placed schema sound eager (first_scene limits schema log tables clients) events lines last
    (record { same = refl; pairs = first-placed schema clients; stands = first-stands limits schema log tables clients }) own has run
