-- What each event leaves standing, for one client.
use Rattle.std.specs.Prelude.{slice_get, ℕ, Bool, true, false, ◌<◌, ◌≤◌, List, [], ◌∷◌, ◌++◌, length, ◌≡◌, Option, Some, None}
use Rattle.std.specs.List.{list_all, All}
use Rattle.sr_cell.specs.declared.table.Table.{Table}
use Rattle.sr_cell.specs.Attrs.{has_column}
use Rattle.sr_cell.specs.Cells.{Row}
use Rattle.sr_cell.specs.Columns.{table_at, fits_columns}
use Rattle.sr_message.specs.declared.message.AskPart.{AskPart}
use Rattle.sr_message.specs.declared.message.Message.{Message}
use Rattle.sr_message.specs.declared.message.Message.TheVariants.{Ask, Notice, Rows, Reply, Lapse}
use Rattle.sr_message.specs.declared.message.Tell.{Tell}
use Rattle.sr_model.specs.Queries.{Query, rows_at}
use Rattle.sr_model.specs.Statements.{Tables}
use Rattle.sr_query.specs.Bound.{is_table}
use Rattle.sr_history.specs.declared.mark.Mark.{Mark}
use Rattle.sr_history.specs.Marks.{HoldsNothing, with_marks}
use Rattle.sr_history.specs.Classes.{Numbered}
use Rattle.sr_history.specs.Rests.{Asks}
use Rattle.sr_region.specs.Applied.{AreTables}
use Rattle.sr_session.specs.Sessions.{Database, Session, newest, tables_of, with_version, asked_rows, serve, serve_push}
use Rattle.sr_session.specs.Places.{held, Within}
use Rattle.sr_session.specs.Walks.{Request, AskOut, Walks, Passes, AreLaid, walked, replied, places_after, Replies}
use Rattle.sr_session.specs.Arrivals.{arrived_at}
use Rattle.sr_session.specs.Misfits.{misfit, IsShapely, rows_suit, told_suits}
use Rattle.sr_session.specs.Clients.{Client, Connection, Counting, IsOpen, IsOut, mirror_of, answered, asks_again, lays_by, comes_to}

-- ---- the server, and what is laid by

-- A version more leaves each client standing: the log and what it drops are no part of what is promised.
abbrev pub ExecKeeps : Type 0
ExecKeeps = (db : Database) (tables : Tables) (c : Client) (l : Connection) (session : Session) → 0 < length db.versions → IsOpen db c l session
    → IsOpen (with_version db tables) c l session

-- A push to a client goes on with the promise.
abbrev pub PushKeeps : Type 0
PushKeeps = (db : Database) (c : Client) (l : Connection) (session next : Session) → IsOpen db c l session
    → (serve_push db session).session ≡ Some next
    → IsOpen db c (record l { to_client = l.to_client ++ (serve_push db session).sent; session = Some next }) next

-- The server takes the ask of a client, fresh or not: what is due, the rows and the reply.
abbrev pub TakingAsksKeeps : Type 0
TakingAsksKeeps = (db : Database) (c : Client) (l : Connection) (session next : Session) (number : ℕ) (fresh : Bool) (parts : List AskPart)
    → IsOpen db c l session
    → l.to_server ≡ Ask number fresh parts ∷ []
    → (serve db (Some session) (Ask number fresh parts)).session ≡ Some next
    → IsOpen db c (record { to_server = []; to_client = l.to_client ++ (serve db (Some session) (Ask number fresh parts)).sent; session = Some next }) next

-- A message is laid by.
abbrev pub LayingKeeps : Type 0
LayingKeeps = (db : Database) (c : Client) (l : Connection) (session : Session) (m : Message) (queue : List Message) (request : Request)
    → IsOpen db c l session → c.out ≡ Some request
    → AreLaid (m ∷ []) → l.to_client ≡ m ∷ queue → IsOpen db (lays_by c m) (record l { to_client = queue }) session

-- ---- a reply

-- What is known where the reply of an ask comes: the mirror behind the laid messages has the reply's version, and the rows that
-- came are those of that version.
pub record IsAnswerable (db : Database) (c : Client) (queue : List Message) (session : Session) (number query : ℕ) (meaning : Query) (fresh : Bool)
    (parts : List AskPart) (k w : ℕ) : Type 0 where
  pub out : IsOut db.schema c (AskOut number query meaning fresh parts)
  pub passes : Passes db (Some (AskOut number query meaning fresh parts)) (mirror_of c) c.laid
  pub number_is : k ≡ number
  pub later : c.version ≤ w
  pub within : w ≤ newest db
  pub replies : Replies db (Some (AskOut number query meaning fresh parts)) (walked (mirror_of c) c.laid) k w
  pub rest : Walks db None (replied (Some (AskOut number query meaning fresh parts)) (walked (mirror_of c) c.laid) w) queue session

-- Where a reply comes first, it is of the ask that is out.
abbrev pub RepliesAreAnswerable : Type 0
RepliesAreAnswerable = (db : Database) (c : Client) (l : Connection) (session : Session) (queue : List Message) (number query : ℕ) (meaning : Query)
    (fresh : Bool) (parts : List AskPart) (k w : ℕ)
    → IsOpen db c l session → c.out ≡ Some (AskOut number query meaning fresh parts) → l.to_client ≡ Reply k w ∷ queue
    → IsAnswerable db c queue session number query meaning fresh parts k w

-- The rows that were laid by are then those that are asked, part by part.
abbrev pub RowsAreAsked : Type 0
RowsAreAsked = (db : Database) (c : Client) (queue : List Message) (session : Session) (number query : ℕ) (meaning : Query) (fresh : Bool)
    (parts : List AskPart) (k w : ℕ) (i : ℕ) (ask : AskPart)
    → IsAnswerable db c queue session number query meaning fresh parts k w → slice_get parts i ≡ Some ask
    → arrived_at i c.laid ≡ asked_rows (tables_of db w) ask

-- After the answer, whatever marks came, what is held is at most what was held and what was asked.
abbrev pub AnsweringKeeps : Type 0
AnsweringKeeps = (db : Database) (c : Client) (l : Connection) (session : Session) (queue : List Message) (number query : ℕ) (meaning : Query)
    (fresh : Bool) (parts : List AskPart) (k w : ℕ) (from : Counting) (queries : List Numbered) (marks : List Mark)
    → IsOpen db c l session → c.out ≡ Some (AskOut number query meaning fresh parts) → l.to_client ≡ Reply k w ∷ queue
    → Within db.schema (held (with_marks c.marks marks)) (places_after fresh (walked (mirror_of c) c.laid).lapsed parts (walked (mirror_of c) c.laid).places)
    → IsOpen db (answered c queries from w marks) (record l { to_client = queue }) session

-- A Lapse was laid by under an ask that is not fresh: the second ask goes out, and nothing that is on its way contradicts it.
abbrev pub AskingAgainKeeps : Type 0
AskingAgainKeeps = (db : Database) (c : Client) (l : Connection) (session : Session) (queue : List Message) (number query : ℕ) (meaning : Query)
    (parts : List AskPart) (k w : ℕ) (drops : List Mark) (whole : List AskPart)
    → IsOpen db c l session → c.out ≡ Some (AskOut number query meaning false parts) → l.to_client ≡ Reply k w ∷ queue
    → (walked (mirror_of c) c.laid).lapsed ≡ true
    → HoldsNothing db.schema (with_marks c.marks drops) → Asks db.schema (with_marks c.marks drops) meaning.parts whole → (whole ≡ [] → ⊥)
    → IsOpen db (asks_again c w drops query meaning whole) (record l { to_server = Ask c.next_request true whole ∷ []; to_client = queue }) session

-- ---- while nothing is out

-- A Lapse comes.
abbrev pub ForgettingKeeps : Type 0
ForgettingKeeps = (db : Database) (c : Client) (l : Connection) (session : Session) (queue : List Message) (w : ℕ) (drops : List Mark)
    → IsOpen db c l session → c.out ≡ None → l.to_client ≡ Lapse w ∷ queue → HoldsNothing db.schema (with_marks c.marks drops)
    → IsOpen db (comes_to c w drops) (record l { to_client = queue }) session

-- A notice comes; marks are only dropped.
abbrev pub NoticingKeeps : Type 0
NoticingKeeps = (db : Database) (c : Client) (l : Connection) (session : Session) (queue : List Message) (w : ℕ) (told : List Tell) (drops : List Mark)
    → IsOpen db c l session → c.out ≡ None → l.to_client ≡ Notice w told ∷ queue → Within db.schema (held (with_marks c.marks drops)) (held c.marks)
    → IsOpen db (comes_to c w drops) (record l { to_client = queue }) session

-- ---- nothing that is promised is refused

-- The tables of all versions are tables of the schema.
abbrev pub HasTables : Database → Type 0
HasTables db = (v : ℕ) → v ≤ newest db → AreTables db.schema (tables_of db v)

-- And there is a version, and the rows fit them.
pub record IsSound (db : Database) : Type 0 where
  pub some : 0 < length db.versions
  pub tables : HasTables db
  pub fits : (v : ℕ) → v ≤ newest db → (t : ℕ) → list_all (fits_columns (table_at db.schema t).columns) (rows_at (tables_of db v) t) ≡ true

-- A message that is promised has the right direction, state, number and version.
abbrev pub PromisesFit : Type 0
PromisesFit = (db : Database) (c : Client) (l : Connection) (session : Session) (m : Message) (queue : List Message) → IsOpen db c l session
    → l.to_client ≡ m ∷ queue
    → IsShapely (misfit db.schema c.out c.laid c.version m)

-- the key is asked
abbrev pub AsksKey : List Table → AskPart → Type 0
AsksKey schema ask = has_column ask.attrs (table_at schema ask.table).key ≡ true

-- Promised rows fit the asked columns, lie in the asked rects, and ascend by part and key over all messages.
abbrev pub PromisedRowsSuit : Type 0
PromisedRowsSuit = (db : Database) (c : Client) (l : Connection) (session : Session) (queue : List Message) (number query : ℕ) (meaning : Query)
    (fresh : Bool) (parts : List AskPart) (k part : ℕ) (rows : List Row)
    → IsSound db → All (AsksKey db.schema) parts → IsOpen db c l session → c.out ≡ Some (AskOut number query meaning fresh parts)
    → l.to_client ≡ Rows k part rows ∷ queue
    → rows_suit db.schema parts c.laid part rows ≡ true

-- Promised tells are of tables of the schema, fit them, and ascend by table and key.
abbrev pub PromisedTellsSuit : Type 0
PromisedTellsSuit = (db : Database) (c : Client) (l : Connection) (session : Session) (queue : List Message) (w : ℕ) (told : List Tell)
    → IsSound db → list_all is_table db.schema ≡ true → IsOpen db c l session → l.to_client ≡ Notice w told ∷ queue → told_suits db.schema told ≡ true

-- where an ask is out, its parts ask the keys
abbrev pub OutAsksKeys : List Table → Option Request → Type 0
OutAsksKeys schema None = Unit {0}
OutAsksKeys schema (Some (AskOut number query meaning fresh parts)) = All (AsksKey schema) parts
OutAsksKeys schema (Some other) = Unit {0}

-- So nothing that is promised is refused.
abbrev pub NeverRefused : Type 0
NeverRefused = (db : Database) (c : Client) (l : Connection) (session : Session) (m : Message) (queue : List Message)
    → IsSound db → list_all is_table db.schema ≡ true → OutAsksKeys db.schema c.out → IsOpen db c l session → l.to_client ≡ m ∷ queue
    → misfit db.schema c.out c.laid c.version m ≡ None
