-- What is written of a join.
use Rattle.std.specs.Prelude.{ℕ, List, [], ◌∷◌, ◌++◌, length, flat_map, decimal, codes}
use Rattle.sr_cell.specs.Cells.{Row}
use Rattle.sr_script.specs.declared.line.TraceLine.TheVariants as line
use Rattle.sr_script.specs.TraceText.{ended, line_text}

-- whose join it is, how many keys were asked, the version, and how many rows there are, behind the number of the script's line
abbrev pub head_text : ℕ → ℕ → ℕ → ℕ → ℕ → List ℕ
head_text number client keys version rows =
    decimal number ++ (codes " " ++ ended (codes "semi" ∷ decimal client ∷ codes "keys" ∷ decimal keys ∷ decimal version ∷ decimal rows ∷ []))

-- a row, as in a trace
abbrev pub row_text : ℕ → Row → List ℕ
row_text number row = line_text [] number (line.Row row)

-- the lines of a join: its head, and its rows
abbrev pub semi_text : ℕ → ℕ → ℕ → ℕ → List Row → List ℕ
semi_text number client keys version rows = head_text number client keys version (length rows) ++ flat_map (row_text number) rows
