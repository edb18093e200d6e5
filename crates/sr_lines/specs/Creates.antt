-- The tables of a script's CREATE lines.
use Rattle.std.specs.Prelude.{◌≡◌, ℕ, List, [], ◌∷◌, ◌++◌, Result, Ok, Err}
use Rattle.sr_cell.specs.declared.table.Table.{Table}
use Rattle.sr_lines.specs.Script.{Line, Silent, CreateLine, EventLine, line_of, AddsTable}

-- what a line adds to the tables so far, where Later says it of the lines behind
abbrev pub CreatesFrom : List Table → (List Table → Type 0) → List Table → Result Line ℕ → Type 0
CreatesFrom tables Later all (Ok Silent) = Later tables
CreatesFrom tables Later all (Ok (CreateLine sql)) = (t : Table) × AddsTable tables sql t × Later (tables ++ t ∷ [])
CreatesFrom tables Later all (Ok (EventLine words)) = all ≡ tables
CreatesFrom tables Later all (Err place) = all ≡ tables

-- The CREATE lines that stand in front of all other lines that are not silent are accepted; with their tables behind these
-- tables, these are all.
abbrev pub Creates : ℕ → List Table → List (List ℕ) → List Table → Type 0
Creates clients tables [] all = all ≡ tables
Creates clients tables (line ∷ lines) all = CreatesFrom tables (λ known. Creates clients known lines all) all (line_of clients line)
