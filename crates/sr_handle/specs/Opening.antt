-- How a client is opened.
use Rattle.std.specs.Prelude.{ℕ, ◌≡◌, ◌==◌, ◌||◌, nat_lt, List, [], Option, Some, None, Result, Ok, Err, if◌then◌else◌}
use Rattle.sr_cell.specs.declared.table.Table.{Table}
use Rattle.sr_cell.specs.Clients.{most_clients}
use Rattle.sr_lines.specs.Creates.{Creates}
use Rattle.sr_lines.specs.Lines.{lines_of}
use Rattle.sr_lines.specs.Script.{FirstRefused}
use Rattle.sr_policy.specs.declared.policy.Limits.{Limits}
use Rattle.sr_policy.specs.declared.policy.Policy.{Policy}
use Rattle.sr_policy.specs.declared.policy.Policy.TheVariants.{Recency, Distance}
use Rattle.sr_setup.specs.Files.{first_fault, schema_fault}
use Rattle.sr_handle.specs.declared.handle.Handle.{Handle}
use Rattle.sr_handle.specs.declared.open.Closed.{Closed}
use Rattle.sr_handle.specs.declared.open.Closed.TheVariants as closed
use Rattle.sr_handle.specs.declared.open.Setting.{Setting}
use Rattle.sr_handle.specs.declared.told.Told.{Told}
use Rattle.sr_handle.specs.Handles.{new_handle}
use Rattle.sr_handle.specs.Told.{bare, blamed, of_fault}

abbrev pub policy_of : ℕ → Option Policy
policy_of n = if n == 0 then Some Recency else (if n == 1 then Some Distance else None)

abbrev pub with_policy : Setting → Option Policy → Option (ℕ × Limits)
with_policy s None = None
with_policy s (Some policy) = Some (s.client, record { rows = s.rows; regions = s.regions; policy = policy })

-- a client's number is 1 to 64; it keeps 200,000 rows and 1,024 regions at most
abbrev pub limits_of : Setting → Option (ℕ × Limits)
limits_of s =
    if nat_lt s.client 1 || nat_lt 64 s.client then None
    else (if nat_lt 200000 s.rows || nat_lt 1024 s.regions then None else with_policy s (policy_of s.policy))

-- the tables of the CREATE lines, or the first line that is outside the grammar, or else the first CREATE that is refused
abbrev pub CreatesFor : List ℕ → Result (List Table) Closed → Type 0
CreatesFor schema (Ok tables) = Creates most_clients [] (lines_of schema) tables
CreatesFor schema (Err closed.NoMemory) = Unit {0}
CreatesFor schema (Err closed.Range) = Unit {0}
CreatesFor schema (Err (closed.Line line place)) = first_fault schema_fault 1 (lines_of schema) ≡ Some (record { line = line; place = place })
CreatesFor schema (Err (closed.Create line fault)) = FirstRefused most_clients 1 [] (lines_of schema) line fault

-- a new client of that number, with these tables and limits
abbrev pub Opens : List ℕ → Setting → Result Handle Closed → Type 0
Opens schema s (Ok handle) =
    (id : ℕ) × (limits : Limits) × (tables : List Table) × (limits_of s ≡ Some (id, limits)) × CreatesFor schema (Ok tables)
    × (handle ≡ new_handle id tables limits)
Opens schema s (Err why) = CreatesFor schema (Err why)

abbrev pub told_of_closed : Closed → Told
told_of_closed closed.NoMemory = bare 21
told_of_closed closed.Range = bare 24
told_of_closed (closed.Line line place) = blamed 25 0 place line
told_of_closed (closed.Create line fault) = of_fault 26 fault line
