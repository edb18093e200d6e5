-- Which pasts a client stands for.
use Rattle.std.specs.Prelude.{ℕ, Bool, true, false, ◌+◌, ◌-◌, ◌^◌, nat_lt, ◌≤◌, ◌≡◌, List, [], ◌∷◌, ◌++◌, length, Option, Some, None, if◌then◌else◌}
use Rattle.std.specs.List.{list_all}
use Rattle.sr_cell.specs.declared.table.Table.{Table}
use Rattle.sr_message.specs.declared.message.Message.{Message}
use Rattle.sr_message.specs.Sizes.{most_rects, count_asked}
use Rattle.sr_model.specs.Queries.{Query}
use Rattle.sr_model.specs.Statements.{Tables}
use Rattle.sr_policy.specs.declared.policy.Limits.{Limits}
use Rattle.sr_query.specs.Bound.{is_table}
use Rattle.sr_lines.specs.Short.{is_short}
use Rattle.sr_history.specs.declared.mark.Mark.{Mark}
use Rattle.sr_history.specs.Marks.{is_held}
use Rattle.sr_history.specs.Classes.{Numbered, stamp}
use Rattle.sr_history.specs.Ends.{part_ends}
use Rattle.sr_history.specs.Load.{parts_on}
use Rattle.sr_history.specs.Victims.{AreLast, last_parts}
use Rattle.sr_store.specs.Classes.{Keeps}
use Rattle.sr_store.specs.Told.{told_of, AreTrueOf}
use Rattle.sr_store.specs.Fitted.{count_rows}
use Rattle.sr_store.specs.Stores.{IsStore, IsSettled}
use Rattle.sr_session.specs.Sessions.{Database, Session, newest, tables_of}
use Rattle.sr_session.specs.Walks.{Request, AskOut, WriteOut, ResumeOut}
use Rattle.sr_session.specs.Clients as session
use Rattle.sr_session.specs.Clients.{Connection, Counting, IsOpen}
use Rattle.sr_session.specs.Rules.{counted}
use Rattle.sr_session.specs.Misfits.{misfit}
use Rattle.sr_session.specs.Laws.{IsSound}
use Rattle.sr_session.specs.Tidy.{IsTidy}
use Rattle.sr_client.specs.Bound.{IsMeaning}
use Rattle.sr_client.specs.Cutting.{RegionsEnd, PartsEnd, AsksEnd}
use Rattle.sr_client.specs.declared.client.Client.{Client}
use Rattle.sr_client.specs.declared.client.Request as code
use Rattle.sr_client.specs.declared.client.Request.TheVariants.{Ask, Write, Resume}

-- ---- the past

-- What of a client's past its code does not keep.
pub record Hidden : Type 0 where
  pub marks : List Mark
  pub queries : List Numbered
  pub counted_from : Counting
  -- what the query means whose ask is out
  pub meaning : Query

abbrev pub request_of : Query → code.Request → Request
request_of meaning (Ask o) = AskOut o.number o.query_number meaning o.fresh o.parts
request_of meaning (Write number) = WriteOut number
request_of meaning (Resume number) = ResumeOut number

abbrev pub out_of : Query → Option code.Request → Option Request
out_of meaning None = None
out_of meaning (Some request) = Some (request_of meaning request)

abbrev pub past_of : Client → Hidden → session.Client
past_of c h = record {
  marks = h.marks;
  queries = h.queries;
  counted_from = h.counted_from;
  version = c.version;
  next_request = c.next_request;
  out = out_of h.meaning c.out;
  laid = c.laid;
  cut = c.cut;
  cuts = c.cuts;
}

-- ---- what is known of a client, on any link

-- The ask that is out is of a query that means this; both begin and end only where tests of these queries do.
abbrev pub IsMeant : List Table → List Query → Query → Option code.Request → Type 0
IsMeant schema queries meaning None = Unit {0}
IsMeant schema queries meaning (Some (Ask o)) =
    IsMeaning schema o.query meaning × PartsEnd schema queries o.query.parts × AsksEnd schema queries o.parts × (count_asked o.parts ≤ most_rects)
IsMeant schema queries meaning (Some (Write number)) = Unit {0}
IsMeant schema queries meaning (Some (Resume number)) = Unit {0}

-- None of these messages was refused when it came, behind those that had been laid by.
abbrev pub AreFit : List Table → Option Request → ℕ → List Message → List Message → Type 0
AreFit schema out version laid [] = Unit {0}
AreFit schema out version laid (m ∷ ms) = (misfit schema out laid version m ≡ None) × AreFit schema out version (laid ++ m ∷ []) ms

-- the texts at which tests of these queries begin and end are short
abbrev pub HaveShortEnds : List Query → Type 0
HaveShortEnds queries = (t c : ℕ) → list_all (is_short 121) (part_ends (parts_on t queries) c) ≡ true

-- Over a cut link nothing is out. The client's regions are the classes of what its marks hold, within the limits; they, and what is out,
-- are cut only along tests of counted queries, which begin and end at short texts.
pub record Facts (c : Client) (h : Hidden) : Type 0 where
  pub tables : list_all is_table c.schema ≡ true
  pub tidy : IsTidy c.schema (past_of c h)
  pub down : c.cut ≡ true → c.out ≡ None
  pub meant : IsMeant c.schema (counted h.counted_from h.queries) h.meaning c.out
  pub fit : AreFit c.schema (out_of h.meaning c.out) c.version [] c.laid
  pub store : IsStore c.schema c.store.regions
  pub settled : c.store.settled ≡ true → IsSettled c.schema c.store.regions
  pub keeps : Keeps c.schema (is_held h.marks) (stamp h.queries) c.store.regions
  pub queries : length h.queries ≡ c.queries
  pub last : AreLast c.schema (last_parts h.queries) c.store.last
  pub rows : count_rows c.store.regions ≤ c.store.limits.rows
  pub few : length c.store.regions ≤ c.store.limits.regions
  pub from : h.counted_from.from ≤ length h.queries + 1
  pub short : HaveShortEnds (counted h.counted_from h.queries)
  pub ends : RegionsEnd c.schema (counted h.counted_from h.queries) c.store.regions

-- The client stands for some past.
abbrev pub Stands : Client → Type 0
Stands c = (h : Hidden) × Facts c h

-- The client stands for this past, on any link.
abbrev pub StandsFor : session.Client → Client → Type 0
StandsFor past c = (h : Hidden) × Facts c h × (past ≡ past_of c h)

-- the numbers that were drawn: queries and requests
abbrev pub drawn : Client → ℕ
drawn c = c.queries + c.next_request

-- ---- over a database

-- The client stands for this past, and its regions have the rows that these tables have there.
pub record IsClient (c : Client) (past : session.Client) (tables : Tables) : Type 0 where
  pub hidden : Hidden
  pub facts : Facts c hidden
  pub same : past ≡ past_of c hidden
  pub are_true : AreTrueOf (told_of tables) c.store.regions

-- The database is sound, and the client stands for this past, with the rows of its version.
pub record StandsOver (db : Database) (past : session.Client) (c : Client) : Type 0 where
  pub sound : IsSound db
  pub schema : db.schema ≡ c.schema
  pub within : past.version ≤ newest db
  pub client : IsClient c past (tables_of db past.version)

-- The message is truly promised: it comes first to a client whose session is open.
pub record Truly (db : Database) (past : session.Client) (m : Message) : Type 0 where
  pub connection : Connection
  pub session : Session
  pub is_open : IsOpen db past connection session
  pub rest : List Message
  pub first : connection.to_client ≡ m ∷ rest

-- ---- without anything

-- the client that holds nothing, and whose link is cut
abbrev pub given_up : Client → ℕ → Client
given_up c cuts = record c { store = record c.store { regions = []; last = []; settled = true }; out = None; laid = []; cut = true; cuts = cuts }

-- how often its link was cut, once it is down; at the greatest number of the type it stays
abbrev pub cuts_down : Client → ℕ
cuts_down c = if c.cut then c.cuts else (if nat_lt c.cuts (2 ^ 64 - 1) then c.cuts + 1 else c.cuts)

-- the client before anything happens: its link is down
abbrev pub new_client : ℕ → List Table → Limits → Client
new_client id schema limits = record {
  id = id;
  schema = schema;
  store = record { regions = []; limits = limits; last = []; settled = true };
  version = 0;
  queries = 0;
  next_request = 0;
  out = None;
  laid = [];
  cut = true;
  cuts = 0;
}

-- the client once its first messages have passed
abbrev pub opened_client : ℕ → List Table → Limits → Client
opened_client id schema limits = record (new_client id schema limits) { next_request = 1; cut = false }

-- ---- what calls leave

-- what no call changes
pub record Stays (old new : Client) : Type 0 where
  pub id : new.id ≡ old.id
  pub schema : new.schema ≡ old.schema
  pub limits : new.store.limits ≡ old.store.limits

-- Its version, its numbers and whether its link is cut are as they were.
pub record KeepsNumbers (old new : Client) : Type 0 where
  pub version : new.version ≡ old.version
  pub queries : new.queries ≡ old.queries
  pub next_request : new.next_request ≡ old.next_request
  pub cut : new.cut ≡ old.cut

-- Nothing stands against the message.
abbrev pub IsFit : Client → Message → Type 0
IsFit c m = (meaning : Query) → misfit c.schema (out_of meaning c.out) c.laid c.version m ≡ None

-- What comes first to a client that stands is truly promised.
abbrev pub PromisesAreTrue : Type 0
PromisesAreTrue = (db : Database) (pair : session.Pair) (m : Message) (rest : List Message) → session.Stands db pair → pair.connection.to_client ≡ m ∷ rest → Truly db pair.client m
