-- Which messages a server must refuse: the first of three reasons.
use Rattle.std.specs.Prelude.{ℕ, ◌^◌, ◌/◌, Bool, true, false, not, ◌&&◌, ◌||◌, ◌==◌, nat_lt, nat_le, List, length, Option, Some, None}
use Rattle.std.specs.List.{list_all}
use Rattle.sr_cell.specs.declared.table.Column.{Column}
use Rattle.sr_cell.specs.declared.table.Table.{Table}
use Rattle.sr_cell.specs.Attrs.{has_column}
use Rattle.sr_cell.specs.Columns.{table_at}
use Rattle.sr_box.specs.Points.{rect_fits, constrains_only}
use Rattle.sr_message.specs.declared.message.AskPart.{AskPart}
use Rattle.sr_message.specs.declared.message.Holding.{Holding}
use Rattle.sr_message.specs.declared.message.Message.{Message}
use Rattle.sr_message.specs.declared.message.Message.TheVariants.{Hello, Resume, Ask, Write, Welcome, Notice, Rows, Reply, Written, Refused, Lapse}
use Rattle.sr_wire.specs.declared.bad_frame.BadFrame.{BadFrame}
use Rattle.sr_wire.specs.declared.bad_frame.BadFrame.TheVariants.{Direction, State, Shape}
use Rattle.sr_session.specs.Sessions.{Session}
use Rattle.sr_session.specs.Misfits.{or_else}

-- ---- direction: a client sends requests alone

abbrev pub is_request : Message → Bool
is_request (Hello wire client number) = true
is_request (Resume wire client number version holdings) = true
is_request (Ask number fresh parts) = true
is_request (Write number sql) = true
is_request (Welcome number version kept) = false
is_request (Notice version told) = false
is_request (Rows number part rows) = false
is_request (Reply number version) = false
is_request (Written number version) = false
is_request (Refused number fault) = false
is_request (Lapse version) = false

-- ---- state: a session begins where there is none, by the client itself; another request needs one

abbrev pub is_open : Option Session → Bool
is_open None = false
is_open (Some session) = true

abbrev pub begins : Bool → ℕ → ℕ → Bool
begins opened client named = not opened && named == client

abbrev pub suits_state : Bool → ℕ → Message → Bool
suits_state opened client (Hello wire named number) = begins opened client named
suits_state opened client (Resume wire named number version holdings) = begins opened client named
suits_state opened client (Ask number fresh parts) = opened
suits_state opened client (Write number sql) = opened
suits_state opened client (Welcome number version kept) = true
suits_state opened client (Notice version told) = true
suits_state opened client (Rows number part rows) = true
suits_state opened client (Reply number version) = true
suits_state opened client (Written number version) = true
suits_state opened client (Refused number fault) = true
suits_state opened client (Lapse version) = true

-- ---- shape

-- no column of the set is one that a table of so many columns lacks
abbrev pub are_columns : ℕ → ℕ → Bool
are_columns attrs count = attrs / 2 ^ count == 0

-- The columns are the table's, the key among them; each rect fits the table, and constrains none but these columns.
abbrev pub suits_table : Table → AskPart → Bool
suits_table table part =
    are_columns part.attrs (length table.columns) && has_column part.attrs table.key
    && list_all (rect_fits table.columns) part.rects && list_all (constrains_only part.attrs 0) part.rects

abbrev pub part_suits : List Table → AskPart → Bool
part_suits schema part = nat_lt part.table (length schema) && suits_table (table_at schema part.table) part

-- the columns are the table's, the key among them, and no other is constrained
abbrev pub suits_columns : Table → Holding → Bool
suits_columns table h = are_columns h.attrs (length table.columns) && has_column h.attrs table.key && list_all (constrains_only h.attrs 0) h.rects

-- The table is there, and each rect fits its columns. Over wire 1 a holding stands for all columns; else its columns have to suit too.
abbrev pub holding_suits : List Table → ℕ → Holding → Bool
holding_suits schema wire h =
    nat_lt h.table (length schema) && list_all (rect_fits (table_at schema h.table).columns) h.rects
    && (wire == 1 || suits_columns (table_at schema h.table) h)

abbrev pub has_no_nullable : Table → Bool
has_no_nullable table = list_all (λ (column : Column). not column.nullable) table.columns

-- over wire 1 no column is nullable
abbrev pub suits_wire : List Table → ℕ → Bool
suits_wire schema wire = not (wire == 1) || list_all has_no_nullable schema

abbrev pub suits_schema : List Table → Message → Bool
suits_schema schema (Hello wire named number) = suits_wire schema wire
suits_schema schema (Resume wire named number version holdings) = suits_wire schema wire && list_all (holding_suits schema wire) holdings
suits_schema schema (Ask number fresh parts) = list_all (part_suits schema) parts
suits_schema schema (Write number sql) = true
suits_schema schema (Welcome number version kept) = true
suits_schema schema (Notice version told) = true
suits_schema schema (Rows number part rows) = true
suits_schema schema (Reply number version) = true
suits_schema schema (Written number version) = true
suits_schema schema (Refused number fault) = true
suits_schema schema (Lapse version) = true

-- ---- the first reason

-- What stands against a message of the client of that number, which has this session or none.
abbrev pub server_misfit : List Table → Option Session → ℕ → Message → Option BadFrame
server_misfit schema session client m =
    or_else (not (is_request m)) Direction
    (or_else (not (suits_state (is_open session) client m)) State
    (or_else (not (suits_schema schema m)) Shape None))

-- An ask has at most four parts; that is the format's, whose messages alone come to a server.
abbrev pub has_few_parts : Message → Bool
has_few_parts (Hello wire named number) = true
has_few_parts (Resume wire named number version holdings) = true
has_few_parts (Ask number fresh parts) = nat_le (length parts) 4
has_few_parts (Write number sql) = true
has_few_parts (Welcome number version kept) = true
has_few_parts (Notice version told) = true
has_few_parts (Rows number part rows) = true
has_few_parts (Reply number version) = true
has_few_parts (Written number version) = true
has_few_parts (Refused number fault) = true
has_few_parts (Lapse version) = true

-- ---- what a client sends

-- where a message names a client, it is this one
abbrev pub names_client : ℕ → Message → Bool
names_client client (Hello wire named number) = named == client
names_client client (Resume wire named number version holdings) = named == client
names_client client other = true

-- a request of this client that suits the schema, in the format
abbrev pub is_request_of : List Table → ℕ → Message → Bool
is_request_of schema client m = is_request m && names_client client m && suits_schema schema m && has_few_parts m
