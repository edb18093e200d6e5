-- What the code found that a text means.
use Rattle.std.specs.Prelude.{◌≡◌, ℕ, List, Option, Some, None, Result, Ok, Err, IsTrue}
use Rattle.sr_cell.specs.declared.table.Table.{Table}
use Rattle.sr_cell.specs.declared.fault.Fault.{Fault}
use Rattle.sr_grammar.specs.declared.statement.Statement as code
use Rattle.sr_grammar.specs.Trees.{Statement, Create}
use Rattle.sr_grammar.specs.Seen.{statement_seen}
use Rattle.sr_grammar.specs.Says.{Says}
use Rattle.sr_model.specs.Queries as model
use Rattle.sr_query.specs.Binding.{bound_query}
use Rattle.sr_query.specs.declared.query.Query.{Query}
use Rattle.sr_lines.specs.Events.{ScriptEvent}
use Rattle.sr_lines.specs.Parts.{names_client}
use Rattle.sr_lines.specs.Script.{Words, AsksOf}
use Rattle.sr_lines.specs.Script as script
use Rattle.sr_reader.specs.declared.script.Event.{Event}
use Rattle.sr_reader.specs.Read.{Means, IsEvent, event_fits}

abbrev pub said_seen : Result code.Statement Fault → Result Statement Fault
said_seen (Ok s) = Ok (statement_seen s)
said_seen (Err fault) = Err fault

-- the table of a CREATE, or none if the text says no CREATE
abbrev pub IsCreated : List ℕ → Option Table → Type 0
IsCreated sql None = (t : Table) → Says sql (Ok (Create t)) → ⊥
IsCreated sql (Some t) = Says sql (Ok (Create t))

-- what a statement asks of the tables, or why it asks nothing
abbrev pub IsBound : List Table → Statement → Result Query Fault → Type 0
IsBound tables s query = (meaning : Result model.Query Fault) × (bound_query tables s ≡ meaning) × Means tables query meaning

-- what a text asks of the tables, or why it is refused
abbrev pub IsAsking : List Table → List ℕ → Result Query Fault → Type 0
IsAsking tables sql query = (meaning : Result model.Query Fault) × AsksOf tables sql meaning × Means tables query meaning

-- what the words of an event say to the tables
abbrev pub IsSaid : List Table → Words → Event → Type 0
IsSaid tables words event =
    (meaning : ScriptEvent) × script.Means tables words meaning × IsEvent tables event meaning
    × ((clients : ℕ) → IsTrue (names_client clients words) → IsTrue (event_fits clients tables event))
