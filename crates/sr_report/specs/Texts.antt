-- The texts of an aggregate's lines.
use Rattle.std.specs.Prelude.{ℕ, List, [], ◌∷◌, ◌++◌, length, map, flat_map, Option, Some, None, decimal, codes}
use Rattle.sr_cell.specs.declared.cell.Cell.{Cell}
use Rattle.sr_lines.specs.Texts.{joined, cell_text}
use Rattle.sr_script.specs.TraceText.{ended, fault_words}
use Rattle.sr_agg.specs.declared.agg.AggFault.{AggFault}
use Rattle.sr_agg.specs.declared.agg.AggFault.TheVariants.{Sql, NotGrouped, SumOfText}

-- words with a blank between two and the end of the line, and the number of the script's line in front
abbrev pub numbered : ℕ → List (List ℕ) → List ℕ
numbered number words = decimal number ++ (codes " " ++ ended words)

-- ---- a text that begins no aggregate

-- why it begins none
abbrev pub refusal_words : AggFault → List (List ℕ)
refusal_words (Sql fault) = codes "sql" ∷ fault_words fault
refusal_words (NotGrouped place) = codes "not-grouped" ∷ decimal place ∷ []
refusal_words (SumOfText place) = codes "sum-of-text" ∷ decimal place ∷ []

-- its line
abbrev pub refused_text : ℕ → ℕ → AggFault → List ℕ
refused_text client number fault = numbered number (codes "agg" ∷ decimal client ∷ refusal_words fault)

-- ---- what is told of groups

-- a cell as rows print it, and null where there is none
abbrev pub told_text : Option Cell → List ℕ
told_text None = codes "null"
told_text (Some cell) = cell_text cell

abbrev pub group_text : ℕ → List (Option Cell) → List ℕ
group_text number row = numbered number (codes "group" ∷ joined (codes ", ") (map told_text row) ∷ [])

-- how many groups there are at that version, and a line for each of them
abbrev pub groups_text : ℕ → ℕ → ℕ → List (List (Option Cell)) → List ℕ
groups_text client number version groups =
    numbered number (codes "groups" ∷ decimal client ∷ decimal version ∷ decimal (length groups) ∷ []) ++ flat_map (group_text number) groups
