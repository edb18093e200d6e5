-- Which lines can be printed so that their text tells them.
use Rattle.std.specs.Prelude.{◌≡◌, ℕ, ℤ, pos, negsuc, ◌<◌, ◌^◌, ◌==◌, ◌&&◌, ◌||◌, not, Bool, true, false, IsTrue, List, [], ◌∷◌, length, map, int_le, bytes_eq}
use Rattle.std.specs.Char.{is_ascii_alphanumeric}
use Rattle.std.specs.List.{list_all, list_any, AllByRecursion}
use Rattle.sr_cell.specs.declared.cell.Cell.{Cell}
use Rattle.sr_cell.specs.declared.cell.Cell.TheVariants.{Num, Str, Null}
use Rattle.sr_cell.specs.declared.fault.Fault.{Fault}
use Rattle.sr_cell.specs.declared.table.Column.{Column}
use Rattle.sr_cell.specs.declared.table.Table.{Table}
use Rattle.sr_cell.specs.Cells.{Row}
use Rattle.sr_cell.specs.Columns.{table_at}
use Rattle.sr_box.specs.Points.{Rect, rect_fits}
use Rattle.sr_script.specs.declared.line.TraceLine.{TraceLine}
use Rattle.sr_script.specs.declared.line.TraceLine.TheVariants as line
use Rattle.sr_script.specs.TraceText.{trace_text}

-- a letter, a digit or _
abbrev pub in_name : ℕ → Bool
in_name b = is_ascii_alphanumeric b || b == 95

-- one or more letters, digits and _
abbrev pub is_name : List ℕ → Bool
is_name [] = false
is_name (b ∷ bytes) = in_name b && list_all in_name bytes

-- no two of the names are the same
abbrev pub are_different : List (List ℕ) → Bool
are_different [] = true
are_different (name ∷ names) = not (list_any (bytes_eq name) names) && are_different names

-- each is a name, and no two are the same
abbrev pub are_names : List (List ℕ) → Bool
are_names names = list_all is_name names && are_different names

-- a number that an i64 holds
abbrev pub is_signed : ℤ → Bool
is_signed n = int_le (negsuc 9223372036854775807) n && int_le n (pos 9223372036854775807)

-- both ends of the column's domain are numbers that an i64 holds
abbrev pub has_signed_ends : Column → Bool
has_signed_ends c = is_signed c.lo && is_signed c.hi

-- the columns have names, no two the same, and domains with such ends
abbrev pub has_named_columns : Table → Bool
has_named_columns table = are_names (map (λ (c : Column). c.name) table.columns) && list_all has_signed_ends table.columns

-- the tables have names, no two the same, and so have the columns of each table
abbrev pub IsNamed : List Table → Type 0
IsNamed schema = IsTrue (are_names (map (λ (t : Table). t.name) schema)) × IsTrue (list_all has_named_columns schema)

-- a number that a u64 holds
abbrev pub IsNumber : ℕ → Type 0
IsNumber n = n < 2 ^ 64

-- a table of the schema, and columns of this table
abbrev pub IsPlace : List Table → ℕ → ℕ → Type 0
IsPlace schema t attrs = (t < length schema) × (attrs < 2 ^ length (table_at schema t).columns)

-- each rect fits the table
abbrev pub AreRects : List Table → ℕ → List Rect → Type 0
AreRects schema t rects = IsTrue (list_all (rect_fits (table_at schema t).columns) rects)

-- a text, a number that an i64 holds, or Null
abbrev pub is_cell : Cell → Bool
is_cell (Num n) = is_signed n
is_cell (Str s) = true
is_cell Null = true

abbrev pub IsRow : Row → Type 0
IsRow row = IsTrue (list_all is_cell row)

abbrev pub IsFault : Fault → Type 0
IsFault fault = IsNumber fault.at

-- Each number is one that a u64 holds, each table is one of the schema, attributes are columns of their table, rects fit it, and
-- the numbers of rows are such as an i64 holds.
abbrev pub IsPrintable : List Table → TraceLine → Type 0
IsPrintable schema (line.Answer n q v rows) = IsNumber n × IsNumber q × IsNumber v × IsNumber rows
IsPrintable schema (line.Row row) = IsRow row
IsPrintable schema (line.Held n t attrs rects) = IsNumber n × IsPlace schema t attrs × AreRects schema t rects
IsPrintable schema (line.Drop n why t attrs stamp rects) = IsNumber n × IsNumber stamp × IsPlace schema t attrs × AreRects schema t rects
IsPrintable schema (line.Ask n k fresh parts) = IsNumber n × IsNumber k × IsNumber parts
IsPrintable schema (line.Part t attrs rects) = IsPlace schema t attrs × AreRects schema t rects
IsPrintable schema (line.Fail n what k) = IsNumber n × IsNumber k
IsPrintable schema line.Pieces = Unit {0}
IsPrintable schema (line.Need t attrs) = IsPlace schema t attrs
IsPrintable schema (line.Probe t attrs stamp rects) = IsNumber stamp × IsPlace schema t attrs × AreRects schema t rects
IsPrintable schema (line.Rest t attrs rects) = IsPlace schema t attrs × AreRects schema t rects
IsPrintable schema (line.Victim place t attrs stamp rows) = IsNumber place × IsNumber stamp × IsNumber rows × IsPlace schema t attrs
IsPrintable schema (line.ExecVersion v) = IsNumber v
IsPrintable schema (line.ExecRefused fault) = IsFault fault
IsPrintable schema (line.QueryAnswered n q) = IsNumber n × IsNumber q
IsPrintable schema (line.QueryAsked n k) = IsNumber n × IsNumber k
IsPrintable schema (line.QuerySql n fault) = IsNumber n × IsFault fault
IsPrintable schema (line.QueryBusy n k) = IsNumber n × IsNumber k
IsPrintable schema (line.QueryDown n x) = IsNumber n × IsNumber x
IsPrintable schema (line.WriteSent n k) = IsNumber n × IsNumber k
IsPrintable schema (line.WriteSql n fault) = IsNumber n × IsFault fault
IsPrintable schema (line.WriteBusy n k) = IsNumber n × IsNumber k
IsPrintable schema (line.WriteDown n x) = IsNumber n × IsNumber x
IsPrintable schema (line.PushSent n frames) = IsNumber n × IsNumber frames
IsPrintable schema (line.PushClosed n) = IsNumber n
IsPrintable schema (line.ServerEmpty n) = IsNumber n
IsPrintable schema (line.ServerTook n request frames) = IsNumber n × IsNumber frames
IsPrintable schema (line.ClientEmpty n) = IsNumber n
IsPrintable schema (line.ClientLaid n) = IsNumber n
IsPrintable schema (line.ClientApplied n v) = IsNumber n × IsNumber v
IsPrintable schema (line.ClientAnswered n) = IsNumber n
IsPrintable schema (line.ClientAsked n k) = IsNumber n × IsNumber k
IsPrintable schema (line.ClientWritten n k v) = IsNumber n × IsNumber k × IsNumber v
IsPrintable schema (line.ClientRefused n k fault) = IsNumber n × IsNumber k × IsFault fault
IsPrintable schema (line.ClientForgot n v) = IsNumber n × IsNumber v
IsPrintable schema (line.ClientWelcome n v kept) = IsNumber n × IsNumber v
IsPrintable schema (line.Settled n frames) = IsNumber n × IsNumber frames
IsPrintable schema (line.EvictDropped n) = IsNumber n
IsPrintable schema (line.EvictBusy n k) = IsNumber n × IsNumber k
IsPrintable schema (line.EvictNone n count) = IsNumber n × IsNumber count
IsPrintable schema (line.Explained n v) = IsNumber n × IsNumber v
IsPrintable schema (line.ExplainSql n fault) = IsNumber n × IsFault fault
IsPrintable schema (line.CutDone n x) = IsNumber n × IsNumber x
IsPrintable schema (line.CutAlready n x) = IsNumber n × IsNumber x
IsPrintable schema (line.ResumeSent n k) = IsNumber n × IsNumber k
IsPrintable schema (line.ResumeUp n) = IsNumber n

-- The table of the line is one of the schema, its attributes are columns of this table, and its rects fit it; and the numbers of a row are
-- such as an i64 holds.
abbrev pub IsPlaced : List Table → TraceLine → Type 0
IsPlaced schema (line.Row row) = IsRow row
IsPlaced schema (line.Held n t attrs rects) = IsPlace schema t attrs × AreRects schema t rects
IsPlaced schema (line.Drop n why t attrs stamp rects) = IsPlace schema t attrs × AreRects schema t rects
IsPlaced schema (line.Part t attrs rects) = IsPlace schema t attrs × AreRects schema t rects
IsPlaced schema (line.Need t attrs) = IsPlace schema t attrs
IsPlaced schema (line.Probe t attrs stamp rects) = IsPlace schema t attrs × AreRects schema t rects
IsPlaced schema (line.Rest t attrs rects) = IsPlace schema t attrs × AreRects schema t rects
IsPlaced schema (line.Victim place t attrs stamp rows) = IsPlace schema t attrs
IsPlaced schema other = Unit {0}

-- the numbers of the line are such as a u64 holds: where it is placed, it can be printed
abbrev pub HasNumbers : List Table → TraceLine → Type 0
HasNumbers schema line = IsPlaced schema line → IsPrintable schema line

-- the number of the event can be printed, and so can the line
abbrev pub IsNumbered : List Table → ℕ × TraceLine → Type 0
IsNumbered schema numbered = IsNumber numbered.0 × IsPrintable schema numbered.1

-- Over one schema, lists of printable lines with the same text are the same.
abbrev pub TextsTellLines : Type 0
TextsTellLines = (schema : List Table) (one other : List (ℕ × TraceLine)) → IsNamed schema
    → AllByRecursion (IsNumbered schema) one → AllByRecursion (IsNumbered schema) other
    → trace_text schema one ≡ trace_text schema other → one ≡ other
