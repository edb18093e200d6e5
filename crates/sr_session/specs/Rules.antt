-- What a client may do, by itself: the same rules for a world of many clients and for one client on any link.
use Rattle.std.specs.Prelude.{ℕ, Bool, true, false, ◌&&◌, not, ◌+◌, ◌-◌, ◌<◌, ◌≤◌, ◌↔◌, List, [], ◌∷◌, ◌++◌, length, map, drop, slice_get, slice_set, ◌≡◌, Option, Some, None, Result, Ok, Err, IsTrue, IfSome}
use Rattle.std.specs.List.{list_all, AllZip}
use Rattle.sr_cell.specs.declared.cause.Cause.{Cause}
use Rattle.sr_cell.specs.declared.cause.Cause.TheVariants.{Pieces, Lapsed, Fresh, Asked}
use Rattle.sr_cell.specs.declared.fault.Fault.{Fault}
use Rattle.sr_cell.specs.declared.table.Table.{Table}
use Rattle.sr_cell.specs.Cells.{Row}
use Rattle.sr_cell.specs.Columns.{table_at}
use Rattle.sr_box.specs.Points.{in_any, rect_fits, AreSame}
use Rattle.sr_message.specs.declared.message.AskPart.{AskPart}
use Rattle.sr_message.specs.declared.message.Message.{Message}
use Rattle.sr_message.specs.declared.message.Message.TheVariants.{Ask, Write, Welcome, Notice, Rows, Reply, Written, Refused, Lapse}
use Rattle.sr_message.specs.declared.message.Tell.{Tell}
use Rattle.sr_message.specs.Sizes.{most_rects, count_asked}
use Rattle.sr_model.specs.Queries.{Query}
use Rattle.sr_policy.specs.declared.policy.Limits.{Limits}
use Rattle.sr_history.specs.declared.mark.Mark.{Mark}
use Rattle.sr_history.specs.declared.mark.Mark.TheVariants.{Held, Dropped}
use Rattle.sr_history.specs.Marks.{HoldsNothing, with_marks}
use Rattle.sr_history.specs.Rests.{Asks}
use Rattle.sr_history.specs.Classes.{Numbered, Class, AreClasses}
use Rattle.sr_history.specs.Drops.{DropsAll, Absorbs, IsDropOf}
use Rattle.sr_history.specs.Load.{IsHeavy}
use Rattle.sr_history.specs.Budgets.{MeetsBudgets}
use Rattle.sr_session.specs.Walks.{Request, AskOut, WriteOut, ResumeOut, IsAskOf, IsLaid, has_lapse, version_after}
use Rattle.sr_session.specs.Clients.{Client, Connection, Counting, IsResumeMessage, from_query, answered, asks_again, lays_by, comes_to, settled}

-- What the rules go by: the schema, what may be kept, how many rows some marks keep at a version, and the rows of a query at a version,
-- where anything is known of them.
pub record Basis : Type 0 where
  pub schema : List Table
  pub limits : Limits
  pub count : ℕ → List Mark → ℕ
  pub rows : Option (ℕ → Query → List Row)

-- these are the query's rows at that version, where anything is known of them
abbrev pub AnswersWith : Basis → ℕ → Query → List Row → Type 0
AnswersWith b version q rows = IfSome b.rows (λ f. rows ≡ f version q)

-- ---- what comes of a call

pub data Outcome : Type 0 where
  -- of a query, a write or an eviction
  QueryRefused : (fault : Fault) → Outcome
  Busy : (request : ℕ) → Outcome
  Down : (cut : ℕ) → Outcome
  Answered : (query : ℕ) → (version : ℕ) → (rows : List Row) → (marks : List Mark) → Outcome
  AskSent : (drops : List Mark) → (request : ℕ) → (fresh : Bool) → (parts : List AskPart) → Outcome
  WriteSent : (request : ℕ) → (sql : List ℕ) → Outcome
  Evicted : (drop : Mark) → Outcome
  NoSuchClass : (count : ℕ) → Outcome
  -- of a message
  Laid : Outcome
  Applied : (version : ℕ) → (drops : List Mark) → Outcome
  Forgot : (version : ℕ) → (drops : List Mark) → Outcome
  WriteDone : (request : ℕ) → (version : ℕ) → (drops : List Mark) → Outcome
  WriteRefused : (request : ℕ) → (fault : Fault) → (drops : List Mark) → Outcome
  Welcomed : (version : ℕ) → (kept : Bool) → (drops : List Mark) → Outcome
  -- of a cut, with the request that it ended, or of a resume
  CutDone : (cut : ℕ) → (ended : Option Request) → Outcome
  AlreadyCut : (cut : ℕ) → Outcome
  ResumeSent : (message : Message) → Outcome
  AlreadyUp : Outcome

-- the message that goes out with it
abbrev pub sent_of : Outcome → List Message
sent_of (AskSent drops request fresh parts) = Ask request fresh parts ∷ []
sent_of (WriteSent request sql) = Write request sql ∷ []
sent_of (ResumeSent message) = message ∷ []
sent_of other = []

-- it stands last in the queue to the server
abbrev pub sends : Connection → Outcome → Connection
sends l o = record l { to_server = l.to_server ++ sent_of o }

abbrev pub number_of : Request → ℕ
number_of (AskOut number query meaning fresh parts) = number
number_of (WriteOut number) = number
number_of (ResumeOut number) = number

-- ---- the effects of an answer

-- the mark holds what was asked
abbrev pub Holds : List Table → AskPart → Mark → Type 0
Holds schema ask (Held t attrs rects) =
    (t ≡ ask.table) × (attrs ≡ ask.attrs) × IsTrue (list_all (rect_fits (table_at schema t).columns) rects)
    × AreSame (table_at schema t).columns (in_any rects) (in_any ask.rects)
Holds schema ask (Dropped cause t attrs stamp rects) = ⊥

-- A query that is being answered: its number and meaning, at which version, what was asked for it, and the numbered queries once it is
-- answered.
pub record Answering : Type 0 where
  pub number : ℕ
  pub query : Query
  pub version : ℕ
  pub asked : List AskPart
  pub queries : List Numbered

-- What was asked is held, then the absorbed classes are dropped, and then the budgets are met.
pub record Renews (b : Basis) (a : Answering) (c : Client) (marks : List Mark) : Type 0 where
  pub held : List Mark
  pub absorbed : List Mark
  pub drops : List Mark
  pub holds : AllZip (Holds b.schema) a.asked held
  pub absorbs : Absorbs b.schema (with_marks c.marks held) a.queries absorbed
  pub budgets : MeetsBudgets b.schema b.limits (b.count a.version) a.queries (with_marks (with_marks c.marks held) absorbed) drops
  pub all : marks ≡ held ++ (absorbed ++ drops)

-- the queries whose tests count for the load: those of the start, and those from that number on
abbrev pub counted : Counting → List Numbered → List Query
counted whose queries = whose.start ++ map (λ n. n.query) (drop (whose.from - 1) queries)

-- Where the load is too high all classes may be dropped, as they stood before the answer, and nothing that was asked is held. There is
-- something to give up: a class that is held, or a part that was asked.
pub record GivesUp (b : Basis) (a : Answering) (c : Client) (marks : List Mark) : Type 0 where
  pub heavy : IsHeavy b.schema c.marks a.asked a.query (counted c.counted_from a.queries)
  pub drops : DropsAll b.schema c.marks c.queries Pieces marks
  pub some : 0 < length marks + length a.asked

-- What an answer leaves. Once all is given up, the load counts from the next query on, and of no start.
pub data AnswerStep (b : Basis) (a : Answering) (c : Client) : List Mark → Client → Type 0 where
  renewed : (marks : List Mark) → Renews b a c marks → AnswerStep b a c marks (answered c a.queries c.counted_from a.version marks)
  given_up : (marks : List Mark) → GivesUp b a c marks → AnswerStep b a c marks (answered c a.queries (from_query (a.number + 1)) a.version marks)

-- ---- a query

abbrev pub next_query : Client → ℕ
next_query c = length c.queries + 1

abbrev pub with_query : Query → Bool → Client → List Numbered
with_query q done c = c.queries ++ record { query = q; answered = done } ∷ []

-- a query that asks nothing
abbrev pub answering_now : Client → Query → Answering
answering_now c q = record { number = next_query c; query = q; version = c.version; asked = []; queries = with_query q true c }

-- something of the query is left to ask
abbrev pub LeavesSome : Basis → Query → Client → Type 0
LeavesSome b q c = Asks b.schema c.marks q.parts [] → ⊥

-- Where the load is too high, and something is left to ask, all classes may be dropped before the query; the load counts from it on, and
-- of no start.
pub record DropsFirst (b : Basis) (q : Query) (c : Client) (drops : List Mark) : Type 0 where
  pub left : LeavesSome b q c
  pub heavy : IsHeavy b.schema c.marks [] q (counted c.counted_from (with_query q false c))
  pub all : DropsAll b.schema c.marks c.queries Pieces drops
  pub some : 0 < length drops

-- the client by whose marks a query asks
pub data Before (b : Basis) (q : Query) (c : Client) : List Mark → Client → Type 0 where
  as_it_is : Before b q c [] c
  emptied : (drops : List Mark) → DropsFirst b q c drops
      → Before b q c drops (record c { marks = with_marks c.marks drops; counted_from = from_query (next_query c) })

-- one request asks all that has to be asked
abbrev pub with_ask : Client → Query → Bool → List AskPart → Client
with_ask c q fresh asks = record c {
  queries = with_query q false c;
  next_request = c.next_request + 1;
  out = Some (AskOut c.next_request (next_query c) q fresh asks);
}

-- What a query does to a client.
pub data QueryStep (b : Basis) (c : Client) : Result Query Fault → Outcome → Client → Type 0 where
  -- Its text says no query of these tables.
  query_refused : (fault : Fault) → QueryStep b c (Err fault) (QueryRefused fault) c
  -- A request is out.
  query_busy : (q : Query) (request : Request) → c.out ≡ Some request → QueryStep b c (Ok q) (Busy (number_of request)) c
  -- Nothing has to be asked: the query is answered at once, at the client's version, and nothing is sent.
  query_answered : (q : Query) (rows : List Row) (marks : List Mark) (new : Client) → c.out ≡ None → Asks b.schema c.marks q.parts []
      → AnswersWith b c.version q rows → AnswerStep b (answering_now c q) c marks new
      → QueryStep b c (Ok q) (Answered (next_query c) c.version rows marks) new
  -- Something has to be asked, and the link is cut: nothing is done.
  query_down : (q : Query) → c.out ≡ None → c.cut ≡ true → LeavesSome b q c → QueryStep b c (Ok q) (Down c.cuts) c
  -- Something has to be asked, and is, in rects of which there are not too many; the ask is fresh just where nothing is held.
  query_asks : (q : Query) (drops : List Mark) (old : Client) (ask : AskPart) (others : List AskPart) (fresh : Bool) → c.out ≡ None → Before b q c drops old
      → old.cut ≡ false → Asks b.schema old.marks q.parts (ask ∷ others) → count_asked (ask ∷ others) ≤ most_rects
      → IsTrue fresh ↔ HoldsNothing b.schema old.marks
      → QueryStep b c (Ok q) (AskSent drops old.next_request fresh (ask ∷ others)) (with_ask old q fresh (ask ∷ others))

-- ---- a message

-- Rows are for the ask that is out.
abbrev pub IsForRequest : Request → Message → Type 0
IsForRequest request (Rows number part rows) = IsAskOf (Some request) number
IsForRequest request other = Unit {0}

-- Where a Lapse was laid by under an ask that is not fresh, the rows that came are given up.
abbrev pub is_given_up : Bool → List Message → Bool
is_given_up fresh laid = not fresh && has_lapse laid

-- the query of this number is answered
abbrev pub with_answered : ℕ → Query → List Numbered → List Numbered
with_answered number q queries = slice_set queries (number - 1) (record { query = q; answered = true })

-- a query whose ask is replied to
abbrev pub answering_then : Client → ℕ → Query → List AskPart → ℕ → Answering
answering_then c query q parts version = record { number = query; query = q; version = version; asked = parts; queries = with_answered query q c.queries }

-- What was laid by is applied: after a Lapse all is dropped, else the budgets are met.
abbrev pub DropsFor : Bool → Basis → ℕ → Client → List Mark → Type 0
DropsFor true b version c drops = DropsAll b.schema c.marks c.queries Lapsed drops
DropsFor false b version c drops = MeetsBudgets b.schema b.limits (b.count version) c.queries c.marks drops

-- why all is dropped where a session begins afresh: a Lapse that was laid by is applied first
abbrev pub cause_afresh : Bool → Cause
cause_afresh true = Lapsed
cause_afresh false = Fresh

-- A client that is welcomed keeps what it holds, or drops it all.
abbrev pub DropsWelcomed : Bool → Basis → ℕ → Client → List Mark → Type 0
DropsWelcomed true b version c drops = DropsFor (has_lapse c.laid) b version c drops
DropsWelcomed false b version c drops = DropsAll b.schema c.marks c.queries (cause_afresh (has_lapse c.laid)) drops

-- What a message from the server does to a client. What is not listed does not come.
pub data TakeStep (b : Basis) (c : Client) : Message → Outcome → Client → Type 0 where
  -- A request is out, and this is not its last message: it is laid by.
  lays : (request : Request) (m : Message) → c.out ≡ Some request → IsLaid m → IsForRequest request m → TakeStep b c m Laid (lays_by c m)
  -- Nothing is out: a notice is applied at once, and the budgets are met at its version.
  applies : (version : ℕ) (told : List Tell) (drops : List Mark) → c.out ≡ None → c.version ≤ version
      → MeetsBudgets b.schema b.limits (b.count version) c.queries c.marks drops
      → TakeStep b c (Notice version told) (Applied version drops) (comes_to c version drops)
  -- Nothing is out: after a Lapse all is dropped.
  forgets : (version : ℕ) (drops : List Mark) → c.out ≡ None → c.version ≤ version → DropsAll b.schema c.marks c.queries Lapsed drops
      → TakeStep b c (Lapse version) (Forgot version drops) (comes_to c version drops)
  -- The reply of an ask: the query is answered at the reply's version.
  answers : (number query : ℕ) (q : Query) (fresh : Bool) (parts : List AskPart) (version : ℕ) (rows : List Row) (marks : List Mark) (new : Client)
      → c.out ≡ Some (AskOut number query q fresh parts) → is_given_up fresh c.laid ≡ false → c.version ≤ version
      → AnswersWith b version q rows → AnswerStep b (answering_then c query q parts version) c marks new
      → TakeStep b c (Reply number version) (Answered query version rows marks) new
  -- The reply of an ask whose rows are given up: all is dropped, and the whole of the query is asked, under the next number.
  asks_once_more : (number query : ℕ) (q : Query) (fresh : Bool) (parts : List AskPart) (version : ℕ) (drops : List Mark) (whole : List AskPart)
      → c.out ≡ Some (AskOut number query q fresh parts) → is_given_up fresh c.laid ≡ true → c.version ≤ version
      → DropsAll b.schema c.marks c.queries Lapsed drops → Asks b.schema (with_marks c.marks drops) q.parts whole
      → count_asked whole ≤ most_rects
      → TakeStep b c (Reply number version) (AskSent drops c.next_request true whole) (asks_again c version drops query q whole)
  -- The write that is out made a version.
  written : (number version : ℕ) (drops : List Mark) → c.out ≡ Some (WriteOut number) → c.version ≤ version
      → DropsFor (has_lapse c.laid) b version c drops
      → TakeStep b c (Written number version) (WriteDone number version drops) (settled c version drops)
  -- The write that is out was refused: the client comes to the version of what was laid by.
  refused_write : (number : ℕ) (fault : Fault) (drops : List Mark) → c.out ≡ Some (WriteOut number) → c.version ≤ version_after c.version c.laid
      → DropsFor (has_lapse c.laid) b (version_after c.version c.laid) c drops
      → TakeStep b c (Refused number fault) (WriteRefused number fault drops) (settled c (version_after c.version c.laid) drops)
  -- The session is open.
  is_welcomed : (number version : ℕ) (kept : Bool) (drops : List Mark) → c.out ≡ Some (ResumeOut number) → c.version ≤ version
      → DropsWelcomed kept b version c drops
      → TakeStep b c (Welcome number version kept) (Welcomed version kept drops) (settled c version drops)

-- ---- an eviction

-- What the user's dropping of the class in that place in class order does.
pub data EvictStep (b : Basis) (place : ℕ) (c : Client) : Outcome → Client → Type 0 where
  evict_busy : (request : Request) → c.out ≡ Some request → EvictStep b place c (Busy (number_of request)) c
  evicts_none : (classes : List Class) → c.out ≡ None → AreClasses b.schema c.marks c.queries classes → length classes ≤ place
      → EvictStep b place c (NoSuchClass (length classes)) c
  evicts : (classes : List Class) (chosen : Class) (d : Mark) → c.out ≡ None → AreClasses b.schema c.marks c.queries classes
      → slice_get classes place ≡ Some chosen → IsDropOf b.schema c.marks c.queries Asked chosen d
      → EvictStep b place c (Evicted d) (record c { marks = with_marks c.marks (d ∷ []) })

-- ---- a write

-- What a write does: it is sent as it is, and judged by the server.
pub data WriteStep (sql : List ℕ) (c : Client) : Outcome → Client → Type 0 where
  write_busy : (request : Request) → c.out ≡ Some request → WriteStep sql c (Busy (number_of request)) c
  write_down : c.out ≡ None → c.cut ≡ true → WriteStep sql c (Down c.cuts) c
  write_sends : c.out ≡ None → c.cut ≡ false
      → WriteStep sql c (WriteSent c.next_request sql) (record c { next_request = c.next_request + 1; out = Some (WriteOut c.next_request) })

-- ---- a cut, and a resume

-- What a cut does: the request that is out ends, and what was laid by is given up. What is held stays, and the version.
pub data CutStep (c : Client) : Outcome → Client → Type 0 where
  already_cut : c.cut ≡ true → CutStep c (AlreadyCut c.cuts) c
  cuts : c.cut ≡ false → CutStep c (CutDone (c.cuts + 1) c.out) (record c { out = None; laid = []; cut = true; cuts = c.cuts + 1 })

-- What a resume does: the first message of a new session goes out.
pub data ResumeStep (schema : List Table) (c : Client) : Outcome → Client → Type 0 where
  already_up : c.cut ≡ false → ResumeStep schema c AlreadyUp c
  resumes : (message : Message) → c.cut ≡ true → IsResumeMessage schema c c.next_request message
      → ResumeStep schema c (ResumeSent message) (record c { next_request = c.next_request + 1; out = Some (ResumeOut c.next_request); cut = false })
