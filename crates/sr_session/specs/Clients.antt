-- A client's past, its connection to the server, and when these stand.
use Rattle.std.specs.Prelude.{ℕ, Bool, true, false, ◌+◌, ◌≤◌, ◌↔◌, List, [], ◌∷◌, ◌++◌, length, ◌≡◌, Option, Some, None, IsTrue}
use Rattle.std.specs.List.{AllZip, list_all}
use Rattle.sr_cell.specs.declared.table.Table.{Table}
use Rattle.sr_cell.specs.Columns.{table_at}
use Rattle.sr_box.specs.Points.{AreSame, in_any}
use Rattle.sr_message.specs.declared.message.AskPart.{AskPart}
use Rattle.sr_message.specs.declared.message.Holding.{Holding}
use Rattle.sr_message.specs.declared.message.Message.{Message}
use Rattle.sr_message.specs.declared.message.Message.TheVariants.{Hello, Resume, Ask, Write}
use Rattle.sr_model.specs.Queries.{Query}
use Rattle.sr_history.specs.declared.mark.Mark.{Mark}
use Rattle.sr_history.specs.Marks.{HoldsNothing, with_marks}
use Rattle.sr_history.specs.Classes.{AreClasses, Class, in_class, Numbered}
use Rattle.sr_history.specs.Rests.{Asks}
use Rattle.sr_session.specs.Sessions.{Database, Session, newest}
use Rattle.sr_session.specs.Places.{held}
use Rattle.sr_session.specs.Refusals.{holding_suits}
use Rattle.sr_session.specs.Walks.{Request, AskOut, WriteOut, ResumeOut, Mirror, Walks, AreLaid}

-- Whose tests count for the load: those of queries that stand for a start, and those of the client's queries from that number on.
pub record Counting : Type 0 where
  pub start : List Query
  pub from : ℕ

-- those of the queries from that number on, and of no start
abbrev pub from_query : ℕ → Counting
from_query n = record { start = []; from = n }

-- The past of a client, by itself.
pub record Client : Type 0 where
  pub marks : List Mark  -- newest first
  pub queries : List Numbered  -- numbered 1, 2, ..
  pub counted_from : Counting  -- whose tests count for the load
  pub version : ℕ
  pub next_request : ℕ
  pub out : Option Request
  pub laid : List Message
  pub cut : Bool  -- whether the link is cut
  pub cuts : ℕ  -- how often it was

-- What lies between a client and the server: both queues, oldest first, and the server's session for the client.
pub record Connection : Type 0 where
  pub to_server : List Message
  pub to_client : List Message
  pub session : Option Session

pub record Pair : Type 0 where
  pub client : Client
  pub connection : Connection

-- all that is on its way to the client, or laid by
abbrev pub pending : Client → Connection → List Message
pending c l = c.laid ++ l.to_client

-- the client as it is now
abbrev pub mirror_of : Client → Mirror
mirror_of c = record { places = held c.marks; version = c.version; lapsed = false; came = [] }

-- ---- the request that is out

-- The ask that is out asks the rest of the newest query, which is not answered, by the marks of this moment. It is fresh just where
-- nothing is held.
pub record AsksRest (schema : List Table) (c : Client) (number query : ℕ) (meaning : Query) (fresh : Bool) (parts : List AskPart) : Type 0 where
  pub asks : Asks schema c.marks meaning.parts parts
  pub some : parts ≡ [] → ⊥
  pub fresh_where : IsTrue fresh ↔ HoldsNothing schema c.marks
  pub earlier : List Numbered
  pub newest : c.queries ≡ earlier ++ record { query = meaning; answered = false } ∷ []
  pub query_is : query ≡ length c.queries

-- The request that is out has the last number that was drawn.
abbrev pub IsOut : List Table → Client → Request → Type 0
IsOut schema c (AskOut number query meaning fresh parts) = (number + 1 ≡ c.next_request) × AsksRest schema c number query meaning fresh parts
IsOut schema c (WriteOut number) = number + 1 ≡ c.next_request
IsOut schema c (ResumeOut number) = number + 1 ≡ c.next_request

-- the message is the one of this request
abbrev pub IsMessageOf : Request → Message → Type 0
IsMessageOf (AskOut number query meaning fresh parts) (Ask k mode asked) = (k ≡ number) × (mode ≡ fresh) × (asked ≡ parts)
IsMessageOf (WriteOut number) (Write k sql) = k ≡ number
IsMessageOf request m = ⊥

-- ---- an open session

-- The request is still on its way to the server: what is pending was promised before it.
pub record IsSent (db : Database) (c : Client) (l : Connection) (session : Session) (request : Request) : Type 0 where
  pub message : Message
  pub is : IsMessageOf request message
  pub to_server : l.to_server ≡ message ∷ []
  pub walks : Walks db None (mirror_of c) (pending c l) session

-- The server has taken it: its last message is pending.
pub record IsServed (db : Database) (c : Client) (l : Connection) (session : Session) (request : Request) : Type 0 where
  pub to_server : l.to_server ≡ []
  pub walks : Walks db (Some request) (mirror_of c) (pending c l) session

-- What is pending brings the client to its session. While nothing is out, nothing is on its way to the server or laid by.
pub data Flows (db : Database) (c : Client) (l : Connection) (session : Session) : Option Request → Type 0 where
  is_idle : l.to_server ≡ [] → c.laid ≡ [] → Walks db None (mirror_of c) l.to_client session → Flows db c l session None
  is_sent : (request : Request) → IsOut db.schema c request → AreLaid c.laid → IsSent db c l session request → Flows db c l session (Some request)
  is_served : (request : Request) → IsOut db.schema c request → AreLaid c.laid → IsServed db c l session request → Flows db c l session (Some request)

-- The link is up and the session is open. Of the other clients this says nothing.
pub record IsOpen (db : Database) (c : Client) (l : Connection) (session : Session) : Type 0 where
  pub up : c.cut ≡ false
  pub session_is : l.session ≡ Some session
  pub wire : session.wire ≡ 2
  pub upto : session.upto ≤ newest db
  pub flows : Flows db c l session c.out

-- ---- a cut link, and a session that begins

-- The link is cut: nothing is under way.
pub record IsDown (db : Database) (c : Client) (l : Connection) : Type 0 where
  pub down : c.cut ≡ true
  pub out : c.out ≡ None
  pub laid : c.laid ≡ []
  pub to_server : l.to_server ≡ []
  pub to_client : l.to_client ≡ []
  pub session_is : l.session ≡ None
  pub version : c.version ≤ newest db

-- what a Resume says of a class: its table, its columns and its points
pub record IsHoldingOf (schema : List Table) (marks : List Mark) (queries : List Numbered) (k : Class) (h : Holding) : Type 0 where
  pub table : h.table ≡ k.table
  pub attrs : h.attrs ≡ k.attrs
  pub points : AreSame (table_at schema k.table).columns (in_any h.rects) (in_class marks queries k)

-- one holding for each class that is held, in class order
abbrev pub AreHoldings : List Table → List Mark → List Numbered → List Holding → Type 0
AreHoldings schema marks queries holdings =
    (classes : List Class) × AreClasses schema marks queries classes × AllZip (IsHoldingOf schema marks queries) classes holdings

-- The first message of a session, over wire 2: a Hello where nothing is held, else a Resume of the client's version with just what it
-- holds, class by class, in the shape that a server wants.
abbrev pub IsResumeMessage : List Table → Client → ℕ → Message → Type 0
IsResumeMessage schema c number (Hello wire client k) = (k ≡ number) × (wire ≡ 2) × HoldsNothing schema c.marks
IsResumeMessage schema c number (Resume wire client k version holdings) =
    (k ≡ number) × (wire ≡ 2) × (version ≡ c.version) × AreHoldings schema c.marks c.queries holdings
    × (HoldsNothing schema c.marks → ⊥) × (list_all (holding_suits schema wire) holdings ≡ true)
IsResumeMessage schema c number m = ⊥

-- The link is up, and the server has not taken the first message of the session yet.
pub record IsResuming (db : Database) (c : Client) (l : Connection) : Type 0 where
  pub up : c.cut ≡ false
  pub number : ℕ
  pub out : c.out ≡ Some (ResumeOut number)
  pub next : number + 1 ≡ c.next_request
  pub laid : c.laid ≡ []
  pub message : Message
  pub is : IsResumeMessage db.schema c number message
  pub to_server : l.to_server ≡ message ∷ []
  pub to_client : l.to_client ≡ []
  pub session_is : l.session ≡ None
  pub version : c.version ≤ newest db

-- How a client and its connection stand, at every moment.
pub data Stands (db : Database) (pair : Pair) : Type 0 where
  is_open : (session : Session) → IsOpen db pair.client pair.connection session → Stands db pair
  is_down : IsDown db pair.client pair.connection → Stands db pair
  is_resuming : IsResuming db pair.client pair.connection → Stands db pair

-- ---- what steps make of a client

-- nothing is out any more, and what was laid by is gone
abbrev pub answered : Client → List Numbered → Counting → ℕ → List Mark → Client
answered c queries from version marks =
    record c { queries = queries; counted_from = from; version = version; out = None; laid = []; marks = with_marks c.marks marks }

-- the second ask of a query, after a Lapse: all is dropped, and the whole is asked under the next number
abbrev pub asks_again : Client → ℕ → List Mark → ℕ → Query → List AskPart → Client
asks_again c version drops query meaning parts = record c {
  version = version;
  marks = with_marks c.marks drops;
  next_request = c.next_request + 1;
  out = Some (AskOut c.next_request query meaning true parts);
  laid = [];
}

-- a message is laid by
abbrev pub lays_by : Client → Message → Client
lays_by c m = record c { laid = c.laid ++ m ∷ [] }

-- the client comes to a version while nothing is out
abbrev pub comes_to : Client → ℕ → List Mark → Client
comes_to c version drops = record c { version = version; marks = with_marks c.marks drops }

-- a request that is no ask has ended, and what was laid by is applied
abbrev pub settled : Client → ℕ → List Mark → Client
settled c version drops = record c { version = version; marks = with_marks c.marks drops; out = None; laid = [] }
