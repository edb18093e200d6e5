-- Which versions are kept. A list has the changes of each version, oldest first.
use Rattle.std.specs.Prelude.{ℕ, ◌≤◌, ◌+◌, nat_le, List, [], ◌∷◌, length, drop, if◌then◌else◌}
use Rattle.std.specs.List.{sum_by}
use Rattle.sr_cell.specs.declared.change.Change.{Change}

-- how many changes there are
abbrev pub total : List (List Change) → ℕ
total all = sum_by length all

-- the least number of versions to leave out, oldest first, so that the others have at most `limit` changes
abbrev pub floor : ℕ → List (List Change) → ℕ
floor limit [] = 0
floor limit (changes ∷ later) = if nat_le (total (changes ∷ later)) limit then 0 else floor limit later + 1

-- the versions that are kept
abbrev pub kept : ℕ → List (List Change) → List (List Change)
kept limit all = drop (floor limit all) all

-- The others have at most `limit` changes, and no lesser number would do.
abbrev pub FloorIsLeast : Type 0
FloorIsLeast = (limit : ℕ) (all : List (List Change))
    → (total (kept limit all) ≤ limit) × ((left_out : ℕ) → total (drop left_out all) ≤ limit → floor limit all ≤ left_out)
