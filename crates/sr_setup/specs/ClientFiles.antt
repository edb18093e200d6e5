-- What a schema file and the script of one client say.
use Rattle.std.specs.Prelude.{◌≡◌, ℕ, ◌+◌, ◌≤◌, ◌==◌, Bool, false, List, [], ◌∷◌, length, Option, Some, None, Result, Ok, Err, IsTrue, if◌then◌else◌}
use Rattle.std.specs.List.{list_all, AllZip}
use Rattle.std.specs.Option.{option_or}
use Rattle.sr_cell.specs.declared.fault.Fault.{Fault}
use Rattle.sr_cell.specs.declared.table.Table.{Table}
use Rattle.sr_cell.specs.Clients.{most_clients}
use Rattle.sr_lines.specs.Creates.{Creates}
use Rattle.sr_lines.specs.Events.{ScriptEvent}
use Rattle.sr_lines.specs.Lines.{lines_of}
use Rattle.sr_lines.specs.Script.{Words, QuerySql, WriteSql, ExplainSql, Evict, Cut, Resume, Line, Silent, CreateLine, EventLine, line_of, LinePlace, FirstRefused, Phase, Running, Reads}
use Rattle.sr_reader.specs.declared.script.Event as code
use Rattle.sr_reader.specs.declared.script.Event.TheVariants as read
use Rattle.sr_reader.specs.declared.script.EventLine as lined
use Rattle.sr_reader.specs.Read.{IsEventLine}
use Rattle.sr_setup.specs.Files.{first_fault, schema_fault}

-- ---- a line of the script

-- the client that does what the words say, where a client does it by itself
abbrev pub doer_of : Words → Option ℕ
doer_of (QuerySql n sql) = Some n
doer_of (WriteSql n sql) = Some n
doer_of (ExplainSql n sql) = Some n
doer_of (Evict n place) = Some n
doer_of (Cut n) = Some n
doer_of (Resume n) = Some n
doer_of other = None

-- where the second part of a line begins: right behind the first space, or at the end, where there is none
abbrev pub second_place : List ℕ → ℕ
second_place [] = 0
second_place (b ∷ line) = if b == 32 then 1 else second_place line + 1

-- Words that are not this client's. Where another does what they say, only the number is wrong, which is the second part.
abbrev pub words_fault : ℕ → List ℕ → Option ℕ → Option ℕ
words_fault id line None = Some 0
words_fault id line (Some n) = if n == id then None else Some (second_place line)

abbrev pub read_fault : ℕ → List ℕ → Result Line ℕ → Option ℕ
read_fault id line (Ok Silent) = None
read_fault id line (Ok (CreateLine sql)) = Some 0
read_fault id line (Ok (EventLine words)) = words_fault id line (doer_of words)
read_fault id line (Err place) = Some place

-- The script of a client has blank lines, comments, and queries, writes, explanations, evictions, cuts and resumes of that client. Another
-- line has its fault where it has one as a line of a script, and else at its start, or at the number of another client.
abbrev pub client_fault : ℕ → List ℕ → Option ℕ
client_fault id line = read_fault id line (line_of most_clients line)

-- ---- the events

-- a query, a write, an explanation, an eviction, a cut or a resume of this client
abbrev pub is_own : ℕ → code.Event → Bool
is_own id (read.Query n query) = n == id
is_own id (read.Write n sql) = n == id
is_own id (read.Explain n query) = n == id
is_own id (read.Evict n place) = n == id
is_own id (read.Cut n) = n == id
is_own id (read.Resume n) = n == id
is_own id other = false

-- where a script stands that has no CREATE lines of its own
abbrev pub over : List Table → Phase
over tables = record { tables = tables; stage = Running }

-- The lines of the script say just these events over the tables, in order, each with the number of its line; all are this client's.
pub record AreAsked (id : ℕ) (script : List ℕ) (tables : List Table) (lines : List lined.EventLine) : Type 0 where
  pub events : List (ℕ × ScriptEvent)
  pub are : AllZip (IsEventLine tables) lines events
  pub reads : Reads most_clients 1 (over tables) (lines_of script) events (over tables)
  pub own : IsTrue (list_all (λ line. is_own id line.event) lines)
  pub few : length lines ≤ length script

-- ---- both files

-- the first line that is outside the grammar of its file, where a line of the script has this fault; those of the schema file come first
abbrev pub script_outside : (List ℕ → Option ℕ) → List ℕ → List ℕ → Option LinePlace
script_outside fault schema script = option_or (first_fault schema_fault 1 (lines_of schema)) (first_fault fault 1 (lines_of script))

abbrev pub client_outside : ℕ → List ℕ → List ℕ → Option LinePlace
client_outside id schema script = script_outside (client_fault id) schema script

-- no line is outside the grammar, and line n is the first CREATE line that is refused, with this fault
pub record Refuses (line_fault : List ℕ → Option ℕ) (schema script : List ℕ) (n : ℕ) (fault : Fault) : Type 0 where
  pub inside : script_outside line_fault schema script ≡ None
  pub first : FirstRefused most_clients 1 [] (lines_of schema) n fault

abbrev pub ClientRefuses : ℕ → List ℕ → List ℕ → ℕ → Fault → Type 0
ClientRefuses id schema script n fault = Refuses (client_fault id) schema script n fault

-- no line is outside the grammar, the CREATE lines make the tables, and these are the events of the script
pub record IsAsked (id : ℕ) (schema script : List ℕ) (tables : List Table) (lines : List lined.EventLine) : Type 0 where
  pub inside : client_outside id schema script ≡ None
  pub created : Creates most_clients [] (lines_of schema) tables
  pub accepts : (n : ℕ) (fault : Fault) → ¬ FirstRefused most_clients 1 [] (lines_of schema) n fault
  pub asked : AreAsked id script tables lines
