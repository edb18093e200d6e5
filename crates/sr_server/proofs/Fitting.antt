-- What a server makes of a session is one of its database, where nothing stands against the message.
use Rattle.std.proofs.Common.{◌≡◌, ℕ, Bool, true, false, List, [], ◌∷◌, ◌++◌, length, map, refl, arith, Option, Some, None}
use Rattle.std.specs.Prelude.{◌&&◌, ◌||◌, ◌==◌, not, nat_lt, nat_le}
use Rattle.std.specs.List.{AllByRecursion, list_all}
use Rattle.std.proofs.lemmas.Bool.{and_parts}
use Rattle.sr_cell.specs.declared.fault.Fault.{Fault}
use Rattle.sr_cell.specs.declared.table.Table.{Table}
use Rattle.sr_cell.specs.Attrs.{has_column}
use Rattle.sr_cell.specs.Columns.{table_at}
use Rattle.sr_box.specs.Points.{constrains_only, rect_fits}
use Rattle.sr_message.specs.declared.message.AskPart.{AskPart}
use Rattle.sr_message.specs.declared.message.Holding.{Holding}
use Rattle.sr_message.specs.declared.message.Message.{Message}
use Rattle.sr_message.specs.declared.message.Message.TheVariants.{Hello, Resume, Ask, Write, Welcome, Notice, Rows, Reply, Written, Refused, Lapse}
use Rattle.sr_wire.specs.declared.bad_frame.BadFrame.{BadFrame}
use Rattle.sr_wire.specs.declared.bad_frame.BadFrame.TheVariants.{Direction, State, Shape}
use Rattle.sr_subs.specs.Subscription.{FitsSome}
use Rattle.sr_session.specs.Misfits.{or_else}
use Rattle.sr_session.specs.Sessions.{Database, Session, due, due_if, floor_of, holding_of, is_lost, newest, opened, serve, serve_ask, serve_resume, serve_write}
use Rattle.sr_session.specs.Refusals.{are_columns, holding_suits, suits_columns, suits_wire, is_open, is_request, part_suits, server_misfit, suits_schema, suits_state, suits_table}
use Rattle.sr_server.specs.Servers.{IsSession, IsSessionIf}

-- ---- points

holdings-fit : (schema : List Table) (wire : ℕ) (holdings : List Holding) → list_all (holding_suits schema wire) holdings ≡ true → AllByRecursion FitsSome holdings
holdings-fit schema wire [] all = tt
holdings-fit schema wire (h ∷ holdings) all =
    let both = and_parts (holding_suits schema wire h) (list_all (holding_suits schema wire) holdings) all in
    let fits = and_parts (nat_lt h.table (length schema) && list_all (rect_fits (table_at schema h.table).columns) h.rects) (wire == 1 || suits_columns (table_at schema h.table) h) both.0 in
    let here = and_parts (nat_lt h.table (length schema)) (list_all (rect_fits (table_at schema h.table).columns) h.rects) fits.0 in
    (((table_at schema h.table).columns, here.1), holdings-fit schema wire holdings both.1)

rects-fit : (table : Table) (part : AskPart) → suits_table table part ≡ true → list_all (rect_fits table.columns) part.rects ≡ true
rects-fit table part suits =
    let only = and_parts (are_columns part.attrs (length table.columns) && has_column part.attrs table.key && list_all (rect_fits table.columns) part.rects) (list_all (constrains_only part.attrs 0) part.rects) suits in
    (and_parts (are_columns part.attrs (length table.columns) && has_column part.attrs table.key) (list_all (rect_fits table.columns) part.rects) only.0).1

parts-fit : (schema : List Table) (wire : ℕ) (parts : List AskPart) → list_all (part_suits schema) parts ≡ true → AllByRecursion FitsSome (map (holding_of wire) parts)
parts-fit schema wire [] all = tt
parts-fit schema wire (part ∷ parts) all =
    let both = and_parts (part_suits schema part) (list_all (part_suits schema) parts) all in
    let here = and_parts (nat_lt part.table (length schema)) (suits_table (table_at schema part.table) part) both.0 in
    (((table_at schema part.table).columns, rects-fit (table_at schema part.table) part here.1), parts-fit schema wire parts both.1)

more-fit : (some others : List Holding) → AllByRecursion FitsSome some → AllByRecursion FitsSome others → AllByRecursion FitsSome (some ++ others)
more-fit [] others all rest = rest
more-fit (h ∷ some) others all rest = (all.0, more-fit some others all.1 rest)

-- ---- no reason

shape-of : (suits : Bool) → or_else (not suits) Shape None ≡ None → suits ≡ true
shape-of true is = refl
shape-of false is = absurd (cc)

behind-state : (suits : Bool) (later : Option BadFrame) → or_else (not suits) State later ≡ None → later ≡ None
behind-state true later is = is
behind-state false later is = absurd (cc)

behind-direction : (request : Bool) (later : Option BadFrame) → or_else (not request) Direction later ≡ None → later ≡ None
behind-direction true later is = is
behind-direction false later is = absurd (cc)

-- nothing stands against the shape of a message that is not refused
pub suits-schema : (schema : List Table) (session : Option Session) (client : ℕ) (m : Message) → server_misfit schema session client m ≡ None → suits_schema schema m ≡ true
suits-schema schema session client m none =
    shape-of (suits_schema schema m)
    (behind-state (suits_state (is_open session) client m) (or_else (not (suits_schema schema m)) Shape None)
    (behind-direction (is_request m) (or_else (not (suits_state (is_open session) client m)) State (or_else (not (suits_schema schema m)) Shape None)) none))

-- ---- sessions

due-fits : (db : Database) (session : Session) (lost : Bool) → AllByRecursion FitsSome session.subscription → AllByRecursion FitsSome (due_if lost db session).subscription
due-fits db session true all = tt
due-fits db session false all = all

reached : (db : Database) (wire : ℕ) (subscription : List Holding) → AllByRecursion FitsSome subscription → IsSessionIf db (opened db wire subscription)
reached db wire subscription all = record { upto = omega arith; points = all }

pub write-fits : (db : Database) (session : Session) (number : ℕ) (fault : Option Fault) → IsSession db session → IsSessionIf db (serve_write db session number fault).session
write-fits db session number None is = reached db session.wire (due db session).subscription (due-fits db session (is_lost db session) is.points)
write-fits db session number (Some fault) is = is

ask-fits : (db : Database) (session : Session) (number : ℕ) (fresh : Bool) (parts : List AskPart) → IsSession db session → list_all (part_suits db.schema) parts ≡ true
    → IsSessionIf db (serve_ask db session number fresh parts).session
ask-fits db session number true parts is all = reached db session.wire (map (holding_of session.wire) parts) (parts-fit db.schema session.wire parts all)
ask-fits db session number false parts is all =
    reached db session.wire ((due db session).subscription ++ map (holding_of session.wire) parts)
    (more-fit (due db session).subscription (map (holding_of session.wire) parts) (due-fits db session (is_lost db session) is.points) (parts-fit db.schema session.wire parts all))

resume-fits : (db : Database) (wire number version : ℕ) (holdings : List Holding) → list_all (holding_suits db.schema wire) holdings ≡ true
    → IsSessionIf db (serve_resume db wire number version holdings).session
resume-fits db wire number version holdings all = by (nat_le version (newest db) && nat_le (floor_of db) version) refl
  where
    by : (b : Bool) → (nat_le version (newest db) && nat_le (floor_of db) version) ≡ b → IsSessionIf db (serve_resume db wire number version holdings).session
    by true is = rw is (reached db wire holdings (holdings-fit db.schema wire holdings all))
    by false is = rw is (reached db wire [] tt)

pub serve-fits : (db : Database) (session : Option Session) (m : Message) → suits_schema db.schema m ≡ true → IsSessionIf db session → IsSessionIf db (serve db session m).session
serve-fits db None (Hello wire client number) suits is = reached db wire [] tt
serve-fits db None (Resume wire client number version holdings) suits is =
    resume-fits db wire number version holdings (and_parts (suits_wire db.schema wire) (list_all (holding_suits db.schema wire) holdings) suits).1
serve-fits db None (Ask number fresh parts) suits is = tt
serve-fits db None (Write number sql) suits is = tt
serve-fits db None (Welcome number version kept) suits is = tt
serve-fits db None (Notice version told) suits is = tt
serve-fits db None (Rows number part rows) suits is = tt
serve-fits db None (Reply number version) suits is = tt
serve-fits db None (Written number version) suits is = tt
serve-fits db None (Refused number fault) suits is = tt
serve-fits db None (Lapse version) suits is = tt
serve-fits db (Some session) (Ask number fresh parts) suits is = ask-fits db session number fresh parts is suits
serve-fits db (Some session) (Hello wire client number) suits is = is
serve-fits db (Some session) (Resume wire client number version holdings) suits is = is
serve-fits db (Some session) (Write number sql) suits is = is
serve-fits db (Some session) (Welcome number version kept) suits is = is
serve-fits db (Some session) (Notice version told) suits is = is
serve-fits db (Some session) (Rows number part rows) suits is = is
serve-fits db (Some session) (Reply number version) suits is = is
serve-fits db (Some session) (Written number version) suits is = is
serve-fits db (Some session) (Refused number fault) suits is = is
serve-fits db (Some session) (Lapse version) suits is = is
