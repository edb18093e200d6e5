-- What a schema file and an exec file say.
use Rattle.std.specs.Prelude.{◌≡◌, ℕ, ◌+◌, ◌||◌, Bool, not, filter, List, [], ◌∷◌, nat_eq, codes, Option, Some, None, Result, Ok, Err, if◌then◌else◌}
use Rattle.std.specs.List.{starts_with}
use Rattle.std.specs.Option.{option_or}
use Rattle.std.specs.Str.{is_utf8}
use Rattle.std.specs.Str.Lossy.{utf8_valid_len}
use Rattle.sr_cell.specs.declared.fault.Fault.{Fault}
use Rattle.sr_cell.specs.declared.table.Table.{Table}
use Rattle.sr_cell.specs.Clients.{most_clients}
use Rattle.sr_lines.specs.Creates.{Creates}
use Rattle.sr_lines.specs.Lines.{lines_of}
use Rattle.sr_lines.specs.Script.{Line, Silent, CreateLine, EventLine, LinePlace, line_of, is_blank, FirstRefused}
use Rattle.sr_load.specs.Filling.{filled}
use Rattle.sr_load.specs.declared.fill.Load.{Load}
use Rattle.sr_tables.specs.Stored.{Stored, no_rows}

-- ---- the first bad line

-- the place in line i, if there is one; else what is said of the lines behind it
abbrev pub or_later : ℕ → Option LinePlace → Option ℕ → Option LinePlace
or_later i later None = later
or_later i later (Some place) = Some (record { line = i; place = place })

-- The first of the lines that has a fault, with its place. i is the number of the first of these lines.
abbrev pub first_fault : (List ℕ → Option ℕ) → ℕ → List (List ℕ) → Option LinePlace
first_fault fault i [] = None
first_fault fault i (line ∷ lines) = or_later i (first_fault fault (i + 1) lines) (fault line)

-- ---- a schema file

-- A schema file has blank lines, comments and CREATE lines. Another line has its fault where it has one as a line of a script, and else
-- at its start.
abbrev pub schema_fault : List ℕ → Option ℕ
schema_fault line = no_setup (line_of most_clients line)
  where
    no_setup : Result Line ℕ → Option ℕ
    no_setup (Ok Silent) = None
    no_setup (Ok (CreateLine sql)) = None
    no_setup (Ok (EventLine words)) = Some 0
    no_setup (Err place) = Some place

-- ---- an exec file

-- a line of an exec file is UTF-8
abbrev pub exec_fault : List ℕ → Option ℕ
exec_fault line = if is_utf8 line then None else Some (utf8_valid_len line)

-- a blank line or a comment
abbrev pub is_silent : List ℕ → Bool
is_silent line = is_blank line || starts_with nat_eq line (codes "#")

-- every other line is a statement
abbrev pub statements_of : List (List ℕ) → List (List ℕ)
statements_of lines = filter (λ line. not (is_silent line)) lines

-- ---- all files

-- the first line that is outside the grammar of its file; those of the schema file come first
abbrev pub outside : List ℕ → List ℕ → Option LinePlace
outside schema exec = option_or (first_fault schema_fault 1 (lines_of schema)) (first_fault exec_fault 1 (lines_of exec))

-- no line is outside the grammar, and line n is the first CREATE line that is refused, with this fault
pub record RefusesCreate (schema exec : List ℕ) (n : ℕ) (fault : Fault) : Type 0 where
  pub inside : outside schema exec ≡ None
  pub first : FirstRefused most_clients 1 [] (lines_of schema) n fault

-- No line is outside the grammar, the CREATE lines make these tables, and the file for the table of this name is the first that is
-- refused, with this fault.
pub record RefusesLoad (schema exec : List ℕ) (loads : List Load) (name : List ℕ) (fault : Fault) : Type 0 where
  pub inside : outside schema exec ≡ None
  pub tables : List Table
  pub created : Creates most_clients [] (lines_of schema) tables
  pub first : filled tables loads (no_rows tables) ≡ Err (record { table = name; fault = fault })

-- No line is outside the grammar, the CREATE lines make the tables, the loads give them their rows, and these are the statements.
pub record SetsUp (schema exec : List ℕ) (loads : List Load) (tables : Stored) (statements : List (List ℕ)) : Type 0 where
  pub inside : outside schema exec ≡ None
  pub created : Creates most_clients [] (lines_of schema) tables.schema
  pub accepts : (n : ℕ) (fault : Fault) → ¬ FirstRefused most_clients 1 [] (lines_of schema) n fault
  pub loaded : filled tables.schema loads (no_rows tables.schema) ≡ Ok tables.rows
  pub are : statements ≡ statements_of (lines_of exec)
