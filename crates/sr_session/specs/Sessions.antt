-- What a server sends.
use Rattle.std.specs.Prelude.{ℕ, Bool, true, false, not, ◌&&◌, nat_lt, nat_le, List, [], ◌∷◌, ◌++◌, ◌+◌, ◌-◌, ◌==◌, suc, zero, map, filter, take, drop, length, Option, Some, None, if◌then◌else◌}
use Rattle.std.specs.List.{list_all}
use Rattle.sr_union.specs.Search.{is_nothing}
use Rattle.sr_cell.specs.declared.change.Change.{Change}
use Rattle.sr_cell.specs.declared.fault.Fault.{Fault}
use Rattle.sr_cell.specs.declared.table.Table.{Table}
use Rattle.sr_cell.specs.Cells.{Row}
use Rattle.sr_cell.specs.Attrs.{project}
use Rattle.sr_box.specs.Points.{in_any}
use Rattle.sr_message.specs.declared.message.AskPart.{AskPart}
use Rattle.sr_message.specs.declared.message.Holding.{Holding}
use Rattle.sr_message.specs.declared.message.Message.{Message}
use Rattle.sr_message.specs.declared.message.Message.TheVariants.{Hello, Resume, Ask, Welcome, Notice, Rows, Reply, Written, Refused, Lapse}
use Rattle.sr_message.specs.declared.message.Tell.{Tell}
use Rattle.sr_message.specs.Tells.{tell_of}
use Rattle.sr_subs.specs.Subscription.{touches}
use Rattle.sr_log.specs.Kept.{floor}
use Rattle.sr_model.specs.Queries.{rows_at}
use Rattle.sr_model.specs.Statements.{Tables}
use Rattle.sr_model.specs.Changes.{changes, changes_at, newest_of, version_at}

-- What all clients stand on: the schema, all versions of the tables, and how many changes the log keeps.
pub record Database : Type 0 where
  pub schema : List Table
  pub log_limit : ℕ
  pub versions : List Tables  -- version 0 first

abbrev pub newest : Database → ℕ
newest db = newest_of db.versions

abbrev pub tables_of : Database → ℕ → Tables
tables_of db v = version_at db.versions v

-- with one version more
abbrev pub with_version : Database → Tables → Database
with_version db tables = record db { versions = db.versions ++ tables ∷ [] }

-- An open session: its wire, the points that the client asked for, and the version that the messages to it have reached.
pub record Session : Type 0 where
  pub wire : ℕ
  pub subscription : List Holding
  pub upto : ℕ

-- ---- the log

-- the changes of each version but the first
abbrev pub all_changes : List Table → List Tables → List (List Change)
all_changes schema [] = []
all_changes schema (old ∷ []) = []
all_changes schema (old ∷ new ∷ versions) = changes schema old new ∷ all_changes schema (new ∷ versions)

-- the log has dropped the versions up to this one
abbrev pub floor_of : Database → ℕ
floor_of db = floor db.log_limit (all_changes db.schema db.versions)

abbrev pub subscribes_some : List Holding → Bool
subscribes_some subscription = not (list_all (λ h. is_nothing h.rects) subscription)

-- The log has dropped a version of which the session would have to be told.
abbrev pub is_lost : Database → Session → Bool
is_lost db session = subscribes_some session.subscription && nat_lt session.upto (floor_of db)

-- ---- notices

-- Where nothing is told there is no notice.
abbrev pub notice : ℕ → List Tell → List Message
notice v [] = []
notice v (tell ∷ told) = Notice v (tell ∷ told) ∷ []

-- What is told of version v: those of its changes that touch the subscription.
abbrev pub told_at : Database → List Holding → ℕ → List Tell
told_at db subscription v = map tell_of (filter (touches subscription) (changes_at db.schema db.versions v))

-- A notice for each of the n versions after v that has changes which touch the subscription, with just those changes.
abbrev pub notices : Database → List Holding → ℕ → ℕ → List Message
notices db subscription v zero = []
notices db subscription v (suc n) = notice (v + 1) (told_at db subscription (v + 1)) ++ notices db subscription (v + 1) n

-- What is sent before anything else, and what is subscribed from then on.
pub record Due : Type 0 where
  pub sent : List Message
  pub subscription : List Holding

-- Where the log does not reach back, one Lapse stands for all notices, and nothing is subscribed any more.
abbrev pub due_if : Bool → Database → Session → Due
due_if true db session = record { sent = Lapse (newest db) ∷ []; subscription = [] }
due_if false db session = record { sent = notices db session.subscription session.upto (newest db - session.upto); subscription = session.subscription }

abbrev pub due : Database → Session → Due
due db session = due_if (is_lost db session) db session

-- ---- a push

-- a notice that tells nothing, where nothing is told of the newest version
abbrev pub closing : ℕ → List Tell → List Message
closing v [] = Notice v [] ∷ []
closing v (tell ∷ told) = []

-- Behind the notices a push names the newest version, if they do not; behind a Lapse it sends nothing.
abbrev pub closing_if : Bool → Database → Session → List Message
closing_if true db session = []
closing_if false db session = if nat_lt session.upto (newest db) then closing (newest db) (told_at db session.subscription (newest db)) else []

abbrev pub pushed : Database → Session → List Message
pushed db session = (due db session).sent ++ closing_if (is_lost db session) db session

-- ---- the rows of an ask

-- in pieces of 256 rows, the last possibly shorter; at most n pieces
abbrev pub pieces : ℕ → List Row → List (List Row)
pieces n [] = []
pieces zero (row ∷ rows) = []
pieces (suc n) (row ∷ rows) = (row ∷ take 255 rows) ∷ pieces n (drop 255 rows)

-- the rows of an asked part: those in the asked rects, with the asked columns
abbrev pub asked_rows : Tables → AskPart → List Row
asked_rows tables ask = map (project ask.attrs) (filter (in_any ask.rects) (rows_at tables ask.table))

-- the rows of the parts, part by part, the first of them being number i
abbrev pub row_messages : Tables → ℕ → ℕ → List AskPart → List Message
row_messages tables number i [] = []
row_messages tables number i (ask ∷ asks) =
    map (Rows number i) (pieces (length (asked_rows tables ask)) (asked_rows tables ask)) ++ row_messages tables number (i + 1) asks

-- the rows of an ask on the newest tables, and its reply
abbrev pub reply_messages : Database → ℕ → List AskPart → List Message
reply_messages db number parts = row_messages (tables_of db (newest db)) number 0 parts ++ Reply number (newest db) ∷ []

-- the set of all twelve columns that a table may have
abbrev pub all_columns : ℕ
all_columns = 4095

-- the columns of an entry: those that were asked, and over wire 1 all
abbrev pub entry_columns : ℕ → ℕ → ℕ
entry_columns wire attrs = if wire == 1 then all_columns else attrs

-- the entry of an asked part
abbrev pub holding_of : ℕ → AskPart → Holding
holding_of wire ask = record { table = ask.table; attrs = entry_columns wire ask.attrs; rects = ask.rects }

-- ---- requests

-- what a request makes of the client's session, and what is sent
pub record Served : Type 0 where
  pub session : Option Session
  pub sent : List Message

-- a session that has reached the newest version
abbrev pub opened : Database → ℕ → List Holding → Option Session
opened db wire subscription = Some (record { wire = wire; subscription = subscription; upto = newest db })

-- A fresh ask begins the subscription anew; another one brings what is due first, and adds to the subscription.
abbrev pub serve_ask : Database → Session → ℕ → Bool → List AskPart → Served
serve_ask db session number true parts =
    record { session = opened db session.wire (map (holding_of session.wire) parts); sent = reply_messages db number parts }
serve_ask db session number false parts =
    let d = due db session in
    record { session = opened db session.wire (d.subscription ++ map (holding_of session.wire) parts); sent = d.sent ++ reply_messages db number parts }

-- A client that resumes at a version from which the log reaches on is told of what changed since, and keeps what it holds; another one
-- begins with nothing.
abbrev pub serve_resume : Database → ℕ → ℕ → ℕ → List Holding → Served
serve_resume db wire number version holdings =
    if nat_le version (newest db) && nat_le (floor_of db) version
    then record { session = opened db wire holdings; sent = notices db holdings version (newest db - version) ++ Welcome number (newest db) true ∷ [] }
    else record { session = opened db wire []; sent = Welcome number (newest db) false ∷ [] }

-- A write that was refused sends that alone. One that was carried out, whose version the database has already, sends what is due first.
abbrev pub serve_write : Database → Session → ℕ → Option Fault → Served
serve_write db session number (Some fault) = record { session = Some session; sent = Refused number fault ∷ [] }
serve_write db session number None =
    let d = due db session in
    record { session = opened db session.wire d.subscription; sent = d.sent ++ Written number (newest db) ∷ [] }

-- A message that must be refused sends nothing.
abbrev pub nothing_served : Option Session → Served
nothing_served session = record { session = session; sent = [] }

-- What the server makes of a request of a client with this session, unless it is a write.
abbrev pub serve : Database → Option Session → Message → Served
serve db (Some session) (Ask number fresh parts) = serve_ask db session number fresh parts
serve db None (Hello wire client number) = record { session = opened db wire []; sent = Welcome number (newest db) false ∷ [] }
serve db None (Resume wire client number version holdings) = serve_resume db wire number version holdings
serve db session m = nothing_served session

-- What a push to this session makes.
abbrev pub serve_push : Database → Session → Served
serve_push db session = record { session = opened db session.wire (due db session).subscription; sent = pushed db session }
