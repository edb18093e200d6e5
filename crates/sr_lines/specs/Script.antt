-- What the lines of a script say and do.
use Rattle.std.specs.Prelude.{◌≡◌, ℕ, ◌+◌, ◌-◌, ◌==◌, ◌&&◌, ◌||◌, Bool, true, false, not, nat_le, List, [], ◌∷◌, ◌++◌, ◌⊎◌, length, nat_eq, codes, Option, Some, None, Result, Ok, Err, if◌then◌else◌}
use Rattle.std.specs.Char.{is_ascii_digit}
use Rattle.std.specs.List.{list_all, starts_with}
use Rattle.std.specs.Str.{is_utf8, bytes_eq}
use Rattle.std.specs.Str.Lossy.{utf8_valid_len}
use Rattle.std.specs.Str.Parse.{digits_value}
use Rattle.sr_cell.specs.declared.table.Table.{Table}
use Rattle.sr_cell.specs.declared.fault.Fault.{Fault}
use Rattle.sr_cell.specs.Faults.{fault_with}
use Rattle.sr_grammar.specs.Tokens.{Key, Tok, is, tokens_of}
use Rattle.sr_grammar.specs.Trees.{Statement, Create}
use Rattle.sr_grammar.specs.Says.{Says}
use Rattle.sr_model.specs.Queries.{Query}
use Rattle.sr_model.specs.Statements.{Write}
use Rattle.sr_lines.specs.Events.{ScriptEvent, DoExec, DoQuery, DoWrite, DoExplain, DoPush, DoToServer, DoToClient, DoSettle, DoEvict, DoCut, DoResume}
use Rattle.sr_query.specs.Binding.{bound_query}
use Rattle.sr_query.specs.Writes.{bound_write}

-- ---- what a line is

-- an event, as a line writes it
pub data Words : Type 0 where
  ExecSql : (sql : List ℕ) → Words
  QuerySql : (client : ℕ) → (sql : List ℕ) → Words
  WriteSql : (client : ℕ) → (sql : List ℕ) → Words
  ExplainSql : (client : ℕ) → (sql : List ℕ) → Words
  PushTo : (client : ℕ) → Words
  ToServer : (client : ℕ) → Words
  ToClient : (client : ℕ) → Words
  Settle : (client : ℕ) → Words
  Evict : (client : ℕ) → (place : ℕ) → Words
  Cut : (client : ℕ) → Words
  Resume : (client : ℕ) → Words

-- Silent is a blank line or a comment.
pub data Line : Type 0 where
  Silent : Line
  CreateLine : (sql : List ℕ) → Line
  EventLine : (words : Words) → Line

-- ---- parts of a line

-- the part in front, up to the first space
abbrev pub part_of : List ℕ → List ℕ
part_of [] = []
part_of (b ∷ line) = if b == 32 then [] else b ∷ part_of line

-- what stands behind the first space: nothing, where there is none
abbrev pub behind : List ℕ → List ℕ
behind [] = []
behind (b ∷ line) = if b == 32 then line else behind line

-- so many digits at most, and one at least
abbrev pub are_digits : ℕ → List ℕ → Bool
are_digits most part = nat_le 1 (length part) && nat_le (length part) most && list_all is_ascii_digit part

-- Clients are numbered from 1, in at most three digits.
abbrev pub client_number : ℕ → List ℕ → Option ℕ
client_number clients part =
    if are_digits 3 part && nat_le 1 (digits_value 10 part) && nat_le (digits_value 10 part) clients then Some (digits_value 10 part) else None

-- a place in class order, counted from 0
abbrev pub place_number : List ℕ → Option ℕ
place_number part = if are_digits 9 part then Some (digits_value 10 part) else None

-- ---- events

-- The words of an event; or the bytes from the first part on that does not fit. These are none where a part is missing.
abbrev pub Reading : Type 0
Reading = Result Words (List ℕ)

-- a text is all that is left of the line, and is not empty
abbrev pub text : (List ℕ → Words) → List ℕ → Reading
text made [] = Err []
text made (b ∷ sql) = Ok (made (b ∷ sql))

-- nothing stands behind the part in front
abbrev pub ending : Words → List ℕ → Reading
ending words line = if length (part_of line) == length line then Ok words else Err (behind line)

-- the part in front is a number
abbrev pub number : Option ℕ → (ℕ → Reading) → List ℕ → Reading
number None made line = Err line
number (Some n) made line = made n

-- the part in front is the number of a client
abbrev pub client : ℕ → (ℕ → Reading) → List ℕ → Reading
client clients made line = number (client_number clients (part_of line)) made line

-- the last part is the number of a client
abbrev pub last_client : ℕ → (ℕ → Words) → List ℕ → Reading
last_client clients made line = client clients (λ n. ending (made n) line) line

-- a client, and then a text
abbrev pub client_text : ℕ → (ℕ → List ℕ → Words) → List ℕ → Reading
client_text clients made line = client clients (λ n. text (made n) (behind line)) line

-- a client, and then a place
abbrev pub client_place : ℕ → (ℕ → ℕ → Words) → List ℕ → Reading
client_place clients made line =
    client clients (λ n. number (place_number (part_of (behind line))) (λ place. ending (made n place) (behind line)) (behind line)) line

-- The parts of an event stand behind its word, with one space between two.
abbrev pub event_of : ℕ → List ℕ → Reading
event_of clients line = by_word (part_of line) (behind line)
  where
    by_word : List ℕ → List ℕ → Reading
    by_word word rest =
        if bytes_eq word (codes "exec") then text ExecSql rest
        else (if bytes_eq word (codes "query") then client_text clients QuerySql rest
        else (if bytes_eq word (codes "write") then client_text clients WriteSql rest
        else (if bytes_eq word (codes "explain") then client_text clients ExplainSql rest
        else (if bytes_eq word (codes "push") then last_client clients PushTo rest
        else (if bytes_eq word (codes "toserver") then last_client clients ToServer rest
        else (if bytes_eq word (codes "toclient") then last_client clients ToClient rest
        else (if bytes_eq word (codes "settle") then last_client clients Settle rest
        else (if bytes_eq word (codes "cut") then last_client clients Cut rest
        else (if bytes_eq word (codes "resume") then last_client clients Resume rest
        else (if bytes_eq word (codes "evict") then client_place clients Evict rest
        else Err line))))))))))

-- ---- lines

abbrev pub is_blank : List ℕ → Bool
is_blank line = list_all (λ b. b == 32) line

abbrev pub begins_create : List Tok → Bool
begins_create [] = false
begins_create (t ∷ ts) = is Key (codes "CREATE") t

-- where the bytes stand that are left of the line
abbrev pub placed : List ℕ → Reading → Result Line ℕ
placed line (Ok words) = Ok (EventLine words)
placed line (Err rest) = Err (length line - length rest)

-- the event that the line says
abbrev pub event_line : ℕ → List ℕ → Result Line ℕ
event_line clients line = placed line (event_of clients line)

-- A line of a script with so many clients; or the place of its fault. A line is UTF-8. It is blank, or begins with #, or its first word
-- is CREATE in any case, or it is an event.
abbrev pub line_of : ℕ → List ℕ → Result Line ℕ
line_of clients line =
    if not (is_utf8 line) then Err (utf8_valid_len line)
    else (if is_blank line || starts_with nat_eq line (codes "#") then Ok Silent
    else (if begins_create (tokens_of line) then Ok (CreateLine line) else event_line clients line))

-- ---- the first line that is outside the grammar

-- where a script stands: among its CREATE lines, or among its events
pub data Stage : Type 0 where
  Creating : Stage
  Running : Stage

-- a line by its number, and a place in it
pub record LinePlace : Type 0 where
  pub line : ℕ
  pub place : ℕ

-- what a line says of it, where `later` says it of the lines behind
abbrev pub outside_from : ℕ → (Stage → Option LinePlace) → Stage → Result Line ℕ → Option LinePlace
outside_from i later stage (Err place) = Some (record { line = i; place = place })
outside_from i later stage (Ok Silent) = later stage
outside_from i later stage (Ok (EventLine words)) = later Running
outside_from i later Creating (Ok (CreateLine sql)) = later Creating
outside_from i later Running (Ok (CreateLine sql)) = Some (record { line = i; place = 0 })

-- The CREATE lines stand in front of all events. i is the number of the first of these lines.
abbrev pub first_outside : ℕ → ℕ → Stage → List (List ℕ) → Option LinePlace
first_outside clients i stage [] = None
first_outside clients i stage (line ∷ lines) = outside_from i (λ next. first_outside clients (i + 1) next lines) stage (line_of clients line)

-- ---- the tables of a script

-- the text of a CREATE is refused, or its table has a fault behind these tables
abbrev pub RefusesTable : List Table → List ℕ → Fault → Type 0
RefusesTable tables sql fault = Says sql (Err fault) ⊎ ((t : Table) × Says sql (Ok (Create t)) × (fault_with true tables t ≡ Some fault))

abbrev pub AddsTable : List Table → List ℕ → Table → Type 0
AddsTable tables sql t = Says sql (Ok (Create t)) × (fault_with true tables t ≡ None)

-- what a line says of it, where Later says it of the lines behind, with the tables so far
abbrev pub RefusedFrom : ℕ → List Table → (List Table → Type 0) → Result Line ℕ → ℕ → Fault → Type 0
RefusedFrom i tables Later (Ok Silent) n fault = Later tables
RefusedFrom i tables Later (Ok (CreateLine sql)) n fault =
    ((n ≡ i) × RefusesTable tables sql fault) ⊎ ((t : Table) × AddsTable tables sql t × Later (tables ++ t ∷ []))
RefusedFrom i tables Later (Ok (EventLine words)) n fault = ⊥
RefusedFrom i tables Later (Err place) n fault = ⊥

-- The CREATE lines stand in front of all other lines that are not silent. Line n is the first of them that is refused, with
-- this fault; i is the number of the first of these lines, and the tables are those of the lines before it.
abbrev pub FirstRefused : ℕ → ℕ → List Table → List (List ℕ) → ℕ → Fault → Type 0
FirstRefused clients i tables [] n fault = ⊥
FirstRefused clients i tables (line ∷ lines) n fault =
    RefusedFrom i tables (λ known. FirstRefused clients (i + 1) known lines n fault) (line_of clients line) n fault

-- ---- the events of a script

pub record Phase : Type 0 where
  pub tables : List Table
  pub stage : Stage

abbrev pub start_phase : Phase
start_phase = record { tables = []; stage = Creating }

-- A text that is no statement, or whose statement writes nothing to the tables, is refused. Another writes this.
abbrev pub Writes : List Table → List ℕ → Result Write Fault → Type 0
Writes tables sql (Err fault) = Says sql (Err fault) ⊎ ((s : Statement) × Says sql (Ok s) × (bound_write tables s ≡ Err fault))
Writes tables sql (Ok write) = (s : Statement) × Says sql (Ok s) × (bound_write tables s ≡ Ok write)

-- A text that is no statement, or whose statement asks nothing of the tables, is refused. Another asks this query.
abbrev pub AsksOf : List Table → List ℕ → Result Query Fault → Type 0
AsksOf tables sql (Err fault) = Says sql (Err fault) ⊎ ((s : Statement) × Says sql (Ok s) × (bound_query tables s ≡ Err fault))
AsksOf tables sql (Ok query) = (s : Statement) × Says sql (Ok s) × (bound_query tables s ≡ Ok query)

-- The event that the words say over these tables.
abbrev pub Means : List Table → Words → ScriptEvent → Type 0
Means tables (ExecSql sql) event = (statement : Result Write Fault) × Writes tables sql statement × (event ≡ DoExec statement)
Means tables (QuerySql n sql) event = (query : Result Query Fault) × AsksOf tables sql query × (event ≡ DoQuery n query)
Means tables (WriteSql n sql) event = event ≡ DoWrite n sql
Means tables (ExplainSql n sql) event = (query : Result Query Fault) × AsksOf tables sql query × (event ≡ DoExplain n query)
Means tables (PushTo n) event = event ≡ DoPush n
Means tables (ToServer n) event = event ≡ DoToServer n
Means tables (ToClient n) event = event ≡ DoToClient n
Means tables (Settle n) event = event ≡ DoSettle n
Means tables (Evict n place) event = event ≡ DoEvict n place
Means tables (Cut n) event = event ≡ DoCut n
Means tables (Resume n) event = event ≡ DoResume n

-- The CREATE lines stand in front, and then the events.
abbrev pub LineDoes : Phase → ℕ → Result Line ℕ → List (ℕ × ScriptEvent) → Phase → Type 0
LineDoes phase n (Ok Silent) events next = (events ≡ []) × (next ≡ phase)
LineDoes phase n (Ok (CreateLine sql)) events next =
    (t : Table) × AddsTable phase.tables sql t × (phase.stage ≡ Creating)
    × (events ≡ []) × (next ≡ record phase { tables = phase.tables ++ t ∷ [] })
LineDoes phase n (Ok (EventLine words)) events next =
    (event : ScriptEvent) × Means phase.tables words event × (events ≡ (n, event) ∷ []) × (next ≡ record phase { stage = Running })
LineDoes phase n (Err place) events next = ⊥

-- the lines, the first of which has number i, give these events, each with the number of its line
abbrev pub Reads : ℕ → ℕ → Phase → List (List ℕ) → List (ℕ × ScriptEvent) → Phase → Type 0
Reads clients i phase [] events end = (events ≡ []) × (end ≡ phase)
Reads clients i phase (line ∷ lines) events end =
    (some : List (ℕ × ScriptEvent)) × (others : List (ℕ × ScriptEvent)) × (next : Phase)
    × LineDoes phase i (line_of clients line) some next × Reads clients (i + 1) next lines others end × (events ≡ some ++ others)
