-- What bytes begin with: a frame, or what stands against it.
use Rattle.std.specs.Prelude.{ℕ, ◌-◌, ◌+◌, ◌==◌, Bool, true, false, nat_lt, List, [], ◌∷◌, length, take, drop, slice_index_or, Option, Some, None, Result, Ok, Err, if◌then◌else◌}
use Rattle.std.specs.Int.{w16, w32, w64, from_be_bytes}
use Rattle.std.specs.Str.{is_utf8}
use Rattle.sr_cell.specs.declared.fault.Why.{Why}
use Rattle.sr_cell.specs.declared.fault.Why.TheVariants.{LongText}
use Rattle.sr_cell.specs.declared.fault.Fault.{Fault}
use Rattle.sr_cell.specs.Cells.{Row}
use Rattle.sr_message.specs.declared.message.Message.{Message}
use Rattle.sr_message.specs.declared.message.Message.TheVariants.{Hello, Resume, Ask, Write, Welcome, Notice, Rows, Reply, Written, Refused, Lapse}
use Rattle.sr_message.specs.declared.message.Holding.{Holding}
use Rattle.sr_message.specs.declared.message.AskPart.{AskPart}
use Rattle.sr_message.specs.declared.message.Tell.{Tell}
use Rattle.sr_bytes.specs.Reading.{Reading, Got, Bad, Reader, ◌>>=◌, give, passing, many, a_byte, a_number, bytes_that, a_key, a_row, some_rows, some_rects}
use Rattle.sr_bytes.specs.Spelling.{is_from_to}
use Rattle.sr_wire.specs.declared.kind.FrameKind.{FrameKind}
use Rattle.sr_wire.specs.declared.kind.FrameKind.TheVariants as kinds
use Rattle.sr_wire.specs.declared.wire_fault.WireFault.{WireFault}
use Rattle.sr_wire.specs.declared.wire_fault.WireFault.TheVariants.{Short, Long, Kind, Field}
use Rattle.sr_wire.specs.Kinds.{kind_at, reasons}
use Rattle.sr_wire.specs.Spelling.{most_bytes}

-- ---- values made of several fields, one behind the other

abbrev pub one : {A Y : Type 0} → Reader A → (A → Y) → Reader Y
one r make = do
  a ← r
  give (make a)

abbrev pub two : {A B Y : Type 0} → Reader A → Reader B → (A → B → Y) → Reader Y
two r s make = do
  a ← r
  b ← s
  give (make a b)

abbrev pub three : {A B C Y : Type 0} → Reader A → Reader B → Reader C → (A → B → C → Y) → Reader Y
three r s t make = do
  a ← r
  b ← s
  c ← t
  give (make a b c)

abbrev pub four : {A B C D Y : Type 0} → Reader A → Reader B → Reader C → Reader D → (A → B → C → D → Y) → Reader Y
four r s t u make = do
  a ← r
  b ← s
  c ← t
  d ← u
  give (make a b c d)

-- ---- fields

abbrev pub a_long : Reader ℕ
a_long = a_number w64

abbrev pub a_byte_in : ℕ → ℕ → Reader ℕ
a_byte_in low high = passing (is_from_to low high) a_byte

abbrev pub a_flag : Reader Bool
a_flag = one (a_byte_in 0 1) (λ n. n == 1)

abbrev pub a_reason : Reader Why
a_reason = one (a_byte_in 1 33) (λ n. slice_index_or reasons (n - 1) LongText)

abbrev pub a_fault : Reader Fault
a_fault = two a_reason (a_number w32) (λ why at. record { why = why; at = at })

-- the version of the format
abbrev pub a_wire : Reader ℕ
a_wire = a_byte_in 1 2

abbrev pub a_client : Reader ℕ
a_client = a_byte_in 1 64

-- so many bytes of UTF-8, behind their number
abbrev pub a_statement : Reader (List ℕ)
a_statement = do
  n ← passing (is_from_to 0 65536) (a_number w32)
  bytes_that is_utf8 n

-- ---- lists and their items

abbrev pub some_attrs : Reader ℕ
some_attrs = passing (is_from_to 0 4095) (a_number w16)

-- the columns of a holding: over wire 1 there are none to be read, and it stands for all
abbrev pub some_held_attrs : ℕ → Reader ℕ
some_held_attrs wire = if wire == 1 then give 4095 else some_attrs

abbrev pub a_holding : ℕ → Reader Holding
a_holding wire = three (a_byte_in 0 15) (some_held_attrs wire) some_rects (λ table attrs rects. record { table = table; attrs = attrs; rects = rects })

abbrev pub some_holdings : ℕ → Reader (List Holding)
some_holdings wire = do
  n ← passing (is_from_to 1 1024) (a_number w32)
  many (a_holding wire) n

abbrev pub a_part : Reader AskPart
a_part = three a_byte some_attrs some_rects (λ table attrs rects. record { table = table; attrs = attrs; rects = rects })

abbrev pub some_parts : Reader (List AskPart)
some_parts = do
  n ← a_byte_in 1 4
  many a_part n

abbrev pub after_flag : Bool → Reader (Option Row)
after_flag false = give None
after_flag true = one a_row Some

abbrev pub an_after : Reader (Option Row)
an_after = do
  has_row ← a_flag
  after_flag has_row

abbrev pub a_tell : Reader Tell
a_tell = three a_byte a_key an_after (λ table key after. record { table = table; key = key; after = after })

-- there may be none
abbrev pub some_told : Reader (List Tell)
some_told = do
  n ← passing (is_from_to 0 10000) (a_number w32)
  many a_tell n

-- ---- the fields of each kind

abbrev pub fields_at : FrameKind → Reader Message
fields_at kinds.Hello = three a_wire a_client a_long Hello
fields_at kinds.Resume = do
  wire ← a_wire
  four a_client a_long a_long (some_holdings wire) (Resume wire)
fields_at kinds.Ask = three a_long a_flag some_parts Ask
fields_at kinds.Write = two a_long a_statement Write
fields_at kinds.Welcome = three a_long a_long a_flag Welcome
fields_at kinds.Notice = two a_long some_told Notice
fields_at kinds.Rows = three a_long (a_byte_in 0 3) some_rows Rows
fields_at kinds.Reply = two a_long a_long Reply
fields_at kinds.Written = two a_long a_long Written
fields_at kinds.Refused = two a_long a_fault Refused
fields_at kinds.Lapse = one a_long Lapse

-- ---- frames

-- what is left over is at fault
abbrev pub nothing_left : {A : Type 0} → Reading A → Reading A
nothing_left (Got x []) = Got x []
nothing_left (Got x (b ∷ rest)) = Bad (b ∷ rest)
nothing_left (Bad rest) = Bad rest

-- a message and the size of its frame, or a fault
pub data Decoded : Type 0 where
  Whole : Message → (size : ℕ) → Decoded
  Faulty : WireFault → Decoded

-- places are counted from the frame's first byte
abbrev pub finished : ℕ → Reading Message → Decoded
finished size (Got message rest) = Whole message size
finished size (Bad rest) = Faulty (Field (size - length rest))

-- a frame that is all there
abbrev pub in_frame : FrameKind → List ℕ → Decoded
in_frame kind frame = finished (length frame) (nothing_left (fields_at kind (drop 5 frame)))

abbrev pub go_on : {A : Type 0} → Result A WireFault → (A → Decoded) → Decoded
go_on (Ok x) f = f x
go_on (Err fault) f = Faulty fault

-- the length of a body, if it may be one and more than it is there
abbrev pub length_if : ℕ → ℕ → Result ℕ WireFault
length_if n there =
    if n == 0 then Err (Field 0)
    else if nat_lt most_bytes n then Err (Long n)
    else if there == 4 then Err Short
    else Ok n

abbrev pub length_at : List ℕ → Result ℕ WireFault
length_at bytes = if nat_lt (length bytes) 4 then Err Short else length_if (from_be_bytes w32 (take 4 bytes)) (length bytes)

abbrev pub kind_or : ℕ → Option FrameKind → Result FrameKind WireFault
kind_or byte None = Err (Kind byte)
kind_or byte (Some kind) = Ok kind

-- the kind behind the length
abbrev pub kind_in : List ℕ → Result FrameKind WireFault
kind_in bytes = kind_or (slice_index_or bytes 4 0) (kind_at (slice_index_or bytes 4 0))

abbrev pub cut : ℕ → List ℕ → Result (List ℕ) WireFault
cut size bytes = if nat_lt (length bytes) size then Err Short else Ok (take size bytes)

-- what the bytes begin with: the length is looked at first, then the kind, then whether all is there, then the fields
abbrev pub decoded : List ℕ → Decoded
decoded bytes = go_on (length_at bytes) (λ n. go_on (kind_in bytes) (λ kind. go_on (cut (n + 4) bytes) (in_frame kind)))
