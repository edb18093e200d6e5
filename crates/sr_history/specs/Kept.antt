-- How many rows a client keeps.
use Rattle.std.specs.Prelude.{ℕ, ◌+◌, ◌==◌, List, [], ◌∷◌, map, sum_by, count_by, if◌then◌else◌}
use Rattle.std.specs.List.{list_any}
use Rattle.sr_model.specs.Statements.{Tables}
use Rattle.sr_history.specs.declared.mark.Mark.{Mark}
use Rattle.sr_history.specs.Marks.{attrs_of, is_held}

-- each number of a list once
abbrev pub each_once : List ℕ → List ℕ
each_once [] = []
each_once (x ∷ xs) = if list_any (λ y. x == y) xs then each_once xs else x ∷ each_once xs

-- the sets of columns of the marks
abbrev pub sets_of : List Mark → List ℕ
sets_of marks = each_once (map attrs_of marks)

-- the rows that are held, counted under each set of columns; t is the number of the first table
abbrev pub kept_from : List Mark → ℕ → Tables → ℕ
kept_from marks t [] = 0
kept_from marks t (rows ∷ tables) = sum_by (λ attrs. count_by (is_held marks t attrs) rows) (sets_of marks) + kept_from marks (t + 1) tables

-- the rows of these tables that are held
abbrev pub kept : Tables → List Mark → ℕ
kept tables marks = kept_from marks 0 tables
