-- Why files are refused.
use Rattle.std.specs.Prelude.{◌≡◌, ℕ, List, [], Err}
use Rattle.sr_lines.specs.Creates.{Creates}
use Rattle.sr_lines.specs.Lines.{lines_of}
use Rattle.sr_lines.specs.Script.{FirstRefused}
use Rattle.sr_cell.specs.declared.table.Table.{Table}
use Rattle.sr_cell.specs.Clients.{most_clients}
use Rattle.sr_load.specs.Filling.{filled}
use Rattle.sr_load.specs.declared.fill.Load.{Load}
use Rattle.sr_tables.specs.Stored.{no_rows}
use Rattle.sr_setup.specs.declared.setup.SetupFault.{SetupFault}
use Rattle.sr_setup.specs.declared.setup.SetupFault.TheVariants as fault

-- a CREATE line that is refused, or else a file for a table
abbrev pub IsRefusal : List ℕ → List Load → SetupFault → Type 0
IsRefusal schema loads (fault.Line line place) = ⊥
IsRefusal schema loads (fault.Create line why) = FirstRefused most_clients 1 [] (lines_of schema) line why
IsRefusal schema loads (fault.Load name why) =
    (tables : List Table) × Creates most_clients [] (lines_of schema) tables
    × (filled tables loads (no_rows tables) ≡ Err (record { table = name; fault = why }))
