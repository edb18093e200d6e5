-- What the calls of a client answer, and that it is what the rules allow.
use Rattle.std.specs.Prelude.{ℕ, ◌+◌, ◌≤◌, Bool, true, false, ◌≡◌, ◌≢◌, List, Option, Some, None, Ok}
use Rattle.sr_cell.specs.declared.cause.Cause.TheVariants.{Asked as AskedCause}
use Rattle.sr_message.specs.declared.message.AskPart.{AskPart}
use Rattle.sr_message.specs.declared.message.Message.{Message}
use Rattle.sr_message.specs.declared.message.Message.TheVariants.{Ask, Write}
use Rattle.sr_model.specs.Queries.{Query}
use Rattle.sr_store.specs.Stores.{drop_of}
use Rattle.sr_session.specs.Sessions.{Database}
use Rattle.sr_session.specs.Clients as session
use Rattle.sr_session.specs.Rules.{Outcome, Busy, Down, Answered, AskSent, WriteSent, ResumeSent, AlreadyUp, Evicted, NoSuchClass, CutDone, AlreadyCut, Laid, Applied, Forgot, WriteDone, WriteRefused, Welcomed, next_query}
use Rattle.sr_session.specs.Rules as rules
use Rattle.sr_session.specs.Bases.{basis_of}
use Rattle.sr_session.specs.Brought.{told_after}
use Rattle.sr_client.specs.ByTold.{GoesByTold}
use Rattle.sr_client.specs.declared.client.Client.{Client}
use Rattle.sr_client.specs.declared.client.Request as code
use Rattle.sr_client.specs.declared.client.Request.TheVariants as request
use Rattle.sr_client.specs.declared.steps.CutStep.{CutStep}
use Rattle.sr_client.specs.declared.steps.CutStep.TheVariants.{Cut, Already}
use Rattle.sr_client.specs.declared.steps.Ended.{Ended}
use Rattle.sr_client.specs.declared.steps.Ended.TheVariants as ended
use Rattle.sr_client.specs.declared.steps.QueryStep.{QueryStep}
use Rattle.sr_client.specs.declared.steps.QueryStep.TheVariants.{Answered as QueryAnswered, Asked as QueryAsked, Busy as QueryBusy, Down as QueryDown}
use Rattle.sr_client.specs.declared.steps.Took.{Took}
use Rattle.sr_client.specs.declared.steps.Took.TheVariants.{Laid as TookLaid, Applied as TookApplied, Forgot as TookForgot, Answered as TookAnswered, Asked as TookAsked, Written as TookWritten, Refused as TookRefused, Welcomed as TookWelcomed, Bad as TookBad}
use Rattle.sr_client.specs.declared.steps.WriteStep.{WriteStep}
use Rattle.sr_client.specs.declared.steps.WriteStep.TheVariants.{Sent as WriteIsSent, Sql as WriteSql, Busy as WriteBusy, Down as WriteDown}
use Rattle.sr_client.specs.declared.steps.ResumeStep.{ResumeStep}
use Rattle.sr_client.specs.declared.steps.ResumeStep.TheVariants.{Sent as ResumeIsSent, Up as ResumeUp}
use Rattle.sr_client.specs.declared.steps.EvictStep.{EvictStep}
use Rattle.sr_client.specs.declared.steps.EvictStep.TheVariants.{Dropped as EvictDropped, Busy as EvictBusy, NoSuch as EvictNoSuch}
use Rattle.sr_client.specs.Stands.{StandsOver, StandsFor, Stands, Truly, drawn}

-- ---- what an answer says

-- which outcome the step of a query is
abbrev pub SaysQuery : session.Client → QueryStep → Outcome → Type 0
SaysQuery past (QueryAnswered query version rows marks) o = o ≡ Answered query version rows marks
SaysQuery past (QueryAsked query request message marks) o =
    (query ≡ next_query past) × (fresh : Bool) × (parts : List AskPart) × (message ≡ Ask request fresh parts) × (o ≡ AskSent marks request fresh parts)
SaysQuery past (QueryBusy request) o = o ≡ Busy request
SaysQuery past (QueryDown cut) o = o ≡ Down cut

-- which outcome it is that a message was taken so
abbrev pub SaysTook : Took → Outcome → Type 0
SaysTook TookLaid o = o ≡ Laid
SaysTook (TookApplied version marks) o = o ≡ Applied version marks
SaysTook (TookForgot version marks) o = o ≡ Forgot version marks
SaysTook (TookAnswered query version rows marks) o = o ≡ Answered query version rows marks
SaysTook (TookAsked request message marks) o = (fresh : Bool) × (parts : List AskPart) × (message ≡ Ask request fresh parts) × (o ≡ AskSent marks request fresh parts)
SaysTook (TookWritten request version marks) o = o ≡ WriteDone request version marks
SaysTook (TookRefused request fault marks) o = o ≡ WriteRefused request fault marks
SaysTook (TookWelcomed version kept marks) o = o ≡ Welcomed version kept marks
SaysTook (TookBad why) o = ⊥

-- which outcome the step of a write is; that its text is too long is none
abbrev pub SaysWrite : List ℕ → WriteStep → Outcome → Type 0
SaysWrite sql (WriteIsSent request message) o = (message ≡ Write request sql) × (o ≡ WriteSent request sql)
SaysWrite sql (WriteSql fault) o = ⊥
SaysWrite sql (WriteBusy request) o = o ≡ Busy request
SaysWrite sql (WriteDown cut) o = o ≡ Down cut

-- which outcome the step of a resume of that past is
abbrev pub SaysResume : session.Client → ResumeStep → Outcome → Type 0
SaysResume past (ResumeIsSent request message) o = (request ≡ past.next_request) × (o ≡ ResumeSent message)
SaysResume past ResumeUp o = o ≡ AlreadyUp

-- which outcome the step of an eviction is
abbrev pub SaysEvict : EvictStep → Outcome → Type 0
SaysEvict (EvictDropped region) o = o ≡ Evicted (drop_of AskedCause region)
SaysEvict (EvictBusy request) o = o ≡ Busy request
SaysEvict (EvictNoSuch count) o = o ≡ NoSuchClass count

-- what ends with the request that is out
abbrev pub ended_of : Option code.Request → Ended
ended_of None = ended.Nothing
ended_of (Some (request.Ask o)) = ended.Query o.query_number
ended_of (Some (request.Write number)) = ended.Write number
ended_of (Some (request.Resume number)) = ended.Resume number

-- which outcome the step of a cut of that past is
abbrev pub SaysCut : session.Client → Client → CutStep → Outcome → Type 0
SaysCut past old (Cut number ended) o = (ended ≡ ended_of old.out) × (o ≡ CutDone number past.out)
SaysCut past old (Already number) o = o ≡ AlreadyCut number

-- ---- steps of the rules

-- The outcome and the next past are what the rules allow, and the client stands for that past.
pub record Goes (db : Database) (says : Outcome → Type 0) (rule : Outcome → session.Client → Type 0) (new : Client) : Type 0 where
  pub outcome : Outcome
  pub next : session.Client
  pub is : says outcome
  pub allowed : rule outcome next
  pub stands : StandsOver db next new

-- the message was refused
abbrev pub is_bad : Took → Bool
is_bad (TookBad why) = true
is_bad TookLaid = false
is_bad (TookApplied version marks) = false
is_bad (TookForgot version marks) = false
is_bad (TookAnswered query version rows marks) = false
is_bad (TookAsked request message marks) = false
is_bad (TookWritten request version marks) = false
is_bad (TookRefused request fault marks) = false
is_bad (TookWelcomed version kept marks) = false

-- What is sent is out then, over a link that is up. A resume brings the link up, a cut takes it down, and nothing else changes it.
abbrev pub KeepsLink : session.Client → Outcome → session.Client → Type 0
KeepsLink past (AskSent drops request fresh parts) next = (past.cut ≡ false) × (next.cut ≡ false) × (next.out ≢ None)
KeepsLink past (WriteSent request sql) next = (past.cut ≡ false) × (next.cut ≡ false) × (next.out ≢ None)
KeepsLink past (ResumeSent message) next = (past.cut ≡ true) × (next.cut ≡ false) × (next.out ≢ None)
KeepsLink past AlreadyUp next = (past.cut ≡ false) × (next.cut ≡ false)
KeepsLink past (CutDone cut ended) next = next.cut ≡ true
KeepsLink past (AlreadyCut cut) next = next.cut ≡ true
KeepsLink past other next = next.cut ≡ past.cut

-- From a past that the client stood for on some link: one outcome and one next past, for which it stands, whatever the database. Over
-- each database that it stood over, and of which this holds, they are what the rules allow, and it stands over the next past.
pub record Moves (old new : Client) (past : session.Client) (says : Outcome → Type 0) (If : Database → Type 0) (rule : Database → Outcome → session.Client → Type 0) : Type 0 where
  pub outcome : Outcome
  pub next : session.Client
  pub is : says outcome
  pub link : KeepsLink past outcome next
  pub draws : drawn new + new.cuts ≤ (drawn old + old.cuts) + 2
  pub stands : StandsFor next new
  pub over : (db : Database) → StandsOver db past old → If db → rule db outcome next × StandsOver db next new

-- For every database and past that the client stands over, what a query does is a step of the rules; the next past is the same for all
-- databases. So it is with what else a client does. And on any link it is one by the rows that the frames brought.
pub record Queries (old : Client) (meaning : Query) (new : Client) (step : QueryStep) : Type 0 where
  pub by_rules : (db : Database) (past : session.Client) → StandsOver db past old
      → Goes db (SaysQuery past step) (rules.QueryStep (basis_of db old.store.limits) past (Ok meaning)) new
  pub moves : (past : session.Client) → StandsFor past old
      → Moves old new past (SaysQuery past step) (λ db. Unit {0}) (λ db. rules.QueryStep (basis_of db old.store.limits) past (Ok meaning))
  pub ruled : (past : session.Client) (stands : StandsFor past old) → GoesByTold old new (λ told. told) (λ b. rules.QueryStep b past (Ok meaning) (moves past stands).outcome (moves past stands).next)
  pub stands : Stands new

-- For every database and past that the client stands over, and of which the message is truly promised, what it does is a step of the
-- rules. On any link it is one by the rows that the frames brought, unless the message is refused.
pub record Takes (old : Client) (m : Message) (new : Client) (took : Took) : Type 0 where
  pub by_rules : (db : Database) (past : session.Client) → StandsOver db past old → Truly db past m
      → Goes db (SaysTook took) (rules.TakeStep (basis_of db old.store.limits) past m) new
  pub moves : (past : session.Client) → StandsFor past old → is_bad took ≡ false
      → Moves old new past (SaysTook took) (λ db. Truly db past m) (λ db. rules.TakeStep (basis_of db old.store.limits) past m)
  pub ruled : (past : session.Client) (stands : StandsFor past old) (good : is_bad took ≡ false)
      → GoesByTold old new (told_after old.schema past m) (λ b. rules.TakeStep b past m (moves past stands good).outcome (moves past stands good).next)
  pub stands : Stands new

-- For every database and past that the client stands over, what an eviction does is a step of the rules. So it is on any link.
pub record Evicts (old : Client) (place : ℕ) (new : Client) (step : EvictStep) : Type 0 where
  pub by_rules : (db : Database) (past : session.Client) → StandsOver db past old
      → Goes db (SaysEvict step) (rules.EvictStep (basis_of db old.store.limits) place past) new
  pub moves : (past : session.Client) → StandsFor past old
      → Moves old new past (SaysEvict step) (λ db. Unit {0}) (λ db. rules.EvictStep (basis_of db old.store.limits) place past)
  pub ruled : (past : session.Client) (stands : StandsFor past old) → GoesByTold old new (λ told. told) (λ b. rules.EvictStep b place past (moves past stands).outcome (moves past stands).next)
  pub stands : Stands new

-- For every database and past that the client stands over, what a write does whose text is not too long is a step of the rules. So it is on any
-- link: this rule needs no database.
pub record Writes (old : Client) (sql : List ℕ) (new : Client) (step : WriteStep) : Type 0 where
  pub by_rules : (db : Database) (past : session.Client) → StandsOver db past old → Goes db (SaysWrite sql step) (rules.WriteStep sql past) new
  pub moves : (past : session.Client) → StandsFor past old → Moves old new past (SaysWrite sql step) (λ db. Unit {0}) (λ db. rules.WriteStep sql past)
  pub ruled : (past : session.Client) (stands : StandsFor past old) → rules.WriteStep sql past (moves past stands).outcome (moves past stands).next
  pub stands : Stands new

-- For every database and past that the client stands over, what a resume does is a step of the rules. So it is on any
-- link: this rule needs no database.
pub record Resumes (old new : Client) (step : ResumeStep) : Type 0 where
  pub by_rules : (db : Database) (past : session.Client) → StandsOver db past old
      → Goes db (SaysResume past step) (rules.ResumeStep db.schema past) new
  pub moves : (past : session.Client) → StandsFor past old → Moves old new past (SaysResume past step) (λ db. Unit {0}) (λ db. rules.ResumeStep db.schema past)
  pub ruled : (past : session.Client) (stands : StandsFor past old) → rules.ResumeStep old.schema past (moves past stands).outcome (moves past stands).next
  pub stands : Stands new

-- For every database and past that the client stands over, what a cut does is a step of the rules. So it is on any
-- link: this rule needs no database.
pub record Cuts (old new : Client) (step : CutStep) : Type 0 where
  pub by_rules : (db : Database) (past : session.Client) → StandsOver db past old → Goes db (SaysCut past old step) (rules.CutStep past) new
  pub moves : (past : session.Client) → StandsFor past old → Moves old new past (SaysCut past old step) (λ db. Unit {0}) (λ db. rules.CutStep past)
  pub ruled : (past : session.Client) (stands : StandsFor past old) → rules.CutStep past (moves past stands).outcome (moves past stands).next
  pub stands : Stands new
