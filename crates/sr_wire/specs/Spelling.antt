-- Messages as frames of bytes. All numbers have the highest byte first.
use Rattle.std.specs.Prelude.{ℕ, ◌^◌, ◌==◌, Bool, true, false, ◌&&◌, nat_le, nat_lt, List, [], ◌∷◌, ◌++◌, length, Option, Some, None, if◌then◌else◌}
use Rattle.std.specs.List.{flat_map, list_all}
use Rattle.std.specs.Str.{is_utf8}
use Rattle.sr_cell.specs.declared.fault.Fault.{Fault}
use Rattle.sr_cell.specs.Cells.{Row}
use Rattle.sr_message.specs.declared.message.Message.{Message}
use Rattle.sr_message.specs.declared.message.Message.TheVariants.{Hello, Resume, Ask, Write, Welcome, Notice, Rows, Reply, Written, Refused, Lapse}
use Rattle.sr_message.specs.declared.message.Holding.{Holding}
use Rattle.sr_message.specs.declared.message.AskPart.{AskPart}
use Rattle.sr_message.specs.declared.message.Tell.{Tell}
use Rattle.sr_bytes.specs.Spelling.{long_bytes, count_bytes, short_count_bytes, cell_bytes, row_bytes, rows_bytes, rects_bytes, is_from_to, has_key_bytes, has_row_bytes, have_rows_bytes, have_rects_bytes}
use Rattle.sr_wire.specs.declared.kind.FrameKind.{FrameKind}
use Rattle.sr_wire.specs.declared.kind.FrameKind.TheVariants as kinds
use Rattle.sr_wire.specs.Kinds.{kind_byte, why_byte}

abbrev pub flag_bytes : Bool → List ℕ
flag_bytes false = 0 ∷ []
flag_bytes true = 1 ∷ []

-- ---- the items of lists

-- the columns of a holding; over wire 1 it has none of its own
abbrev pub held_attrs_bytes : ℕ → ℕ → List ℕ
held_attrs_bytes wire attrs = if wire == 1 then [] else short_count_bytes attrs

abbrev pub holding_bytes : ℕ → Holding → List ℕ
holding_bytes wire h = h.table ∷ (held_attrs_bytes wire h.attrs ++ rects_bytes h.rects)

abbrev pub part_bytes : AskPart → List ℕ
part_bytes p = p.table ∷ (short_count_bytes p.attrs ++ rects_bytes p.rects)

-- the row that a key has from now on, or that it is gone
abbrev pub after_bytes : Option Row → List ℕ
after_bytes None = 0 ∷ []
after_bytes (Some row) = 1 ∷ row_bytes row

abbrev pub tell_bytes : Tell → List ℕ
tell_bytes t = t.table ∷ (cell_bytes t.key ++ after_bytes t.after)

-- ---- messages

abbrev pub kind_of : Message → FrameKind
kind_of (Hello wire client number) = kinds.Hello
kind_of (Resume wire client number version holdings) = kinds.Resume
kind_of (Ask number fresh parts) = kinds.Ask
kind_of (Write number sql) = kinds.Write
kind_of (Welcome number version kept) = kinds.Welcome
kind_of (Notice version told) = kinds.Notice
kind_of (Rows number part rows) = kinds.Rows
kind_of (Reply number version) = kinds.Reply
kind_of (Written number version) = kinds.Written
kind_of (Refused number fault) = kinds.Refused
kind_of (Lapse version) = kinds.Lapse

abbrev pub fault_bytes : Fault → List ℕ
fault_bytes fault = why_byte fault.why ∷ count_bytes fault.at

-- the fields, in their order
abbrev pub fields_of : Message → List ℕ
fields_of (Hello wire client number) = wire ∷ client ∷ long_bytes number
fields_of (Resume wire client number version holdings) =
    wire ∷ client ∷ (long_bytes number ++ (long_bytes version ++ (count_bytes (length holdings) ++ flat_map (holding_bytes wire) holdings)))
fields_of (Ask number fresh parts) = long_bytes number ++ (flag_bytes fresh ++ length parts ∷ flat_map part_bytes parts)
fields_of (Write number sql) = long_bytes number ++ (count_bytes (length sql) ++ sql)
fields_of (Welcome number version kept) = long_bytes number ++ (long_bytes version ++ flag_bytes kept)
fields_of (Notice version told) = long_bytes version ++ (count_bytes (length told) ++ flat_map tell_bytes told)
fields_of (Rows number part rows) = long_bytes number ++ part ∷ rows_bytes rows
fields_of (Reply number version) = long_bytes number ++ long_bytes version
fields_of (Written number version) = long_bytes number ++ long_bytes version
fields_of (Refused number fault) = long_bytes number ++ fault_bytes fault
fields_of (Lapse version) = long_bytes version

-- the byte of the kind, and the fields
abbrev pub body_of : Message → List ℕ
body_of message = kind_byte (kind_of message) ∷ fields_of message

-- the whole frame: how many bytes the body has, and the body
abbrev pub spelling : Message → List ℕ
spelling message = count_bytes (length (body_of message)) ++ body_of message

-- ---- which messages have a spelling

abbrev pub is_long : ℕ → Bool
is_long n = nat_lt n (2 ^ 64)

abbrev pub is_table : ℕ → Bool
is_table n = nat_lt n 256

abbrev pub is_client : ℕ → Bool
is_client n = is_from_to 1 64 n

-- the two versions of this format, with one of which a session begins
abbrev pub is_wire : ℕ → Bool
is_wire n = is_from_to 1 2 n

-- over wire 1 a holding stands for all columns that a table may have
abbrev pub has_held_attrs : ℕ → ℕ → Bool
has_held_attrs wire attrs = if wire == 1 then attrs == 4095 else is_from_to 0 4095 attrs

abbrev pub has_holding_bytes : ℕ → Holding → Bool
has_holding_bytes wire h = is_from_to 0 15 h.table && (has_held_attrs wire h.attrs && have_rects_bytes h.rects)

abbrev pub has_part_bytes : AskPart → Bool
has_part_bytes p = is_table p.table && (is_from_to 0 4095 p.attrs && have_rects_bytes p.rects)

abbrev pub has_after_bytes : Option Row → Bool
has_after_bytes None = true
has_after_bytes (Some row) = has_row_bytes row

abbrev pub has_tell_bytes : Tell → Bool
has_tell_bytes t = is_table t.table && (has_key_bytes t.key && has_after_bytes t.after)

abbrev pub has_fields : Message → Bool
has_fields (Hello wire client number) = is_wire wire && (is_client client && is_long number)
has_fields (Resume wire client number version holdings) =
    is_wire wire
    && (is_client client && (is_long number && (is_long version && (is_from_to 1 1024 (length holdings) && list_all (has_holding_bytes wire) holdings))))
has_fields (Ask number fresh parts) = is_long number && (is_from_to 1 4 (length parts) && list_all has_part_bytes parts)
has_fields (Write number sql) = is_long number && (is_from_to 0 65536 (length sql) && is_utf8 sql)
has_fields (Welcome number version kept) = is_long number && is_long version
has_fields (Notice version told) = is_long version && (is_from_to 0 10000 (length told) && list_all has_tell_bytes told)
has_fields (Rows number part rows) = is_long number && (is_from_to 0 3 part && have_rows_bytes rows)
has_fields (Reply number version) = is_long number && is_long version
has_fields (Written number version) = is_long number && is_long version
has_fields (Refused number fault) = is_long number && nat_lt fault.at (2 ^ 32)
has_fields (Lapse version) = is_long version

-- the most bytes of a body
abbrev pub most_bytes : ℕ
most_bytes = 134217728

abbrev pub has_spelling : Message → Bool
has_spelling message = has_fields message && nat_le (length (body_of message)) most_bytes
