-- What holds of every list of rows by key.
use Rattle.std.specs.Prelude.{◌≡◌, ℕ, Bool, true, not, ◌&&◌, ◌||◌, List, filter}
use Rattle.std.specs.List.{list_all}
use Rattle.sr_cell.specs.Cells.{Row}
use Rattle.sr_model.specs.SortedRows.{ascend, with_rows}

-- two parts of the rows that have none in common, put together by key, are the rows of either
abbrev pub PartsJoin : Type 0
PartsJoin = (key : ℕ) (f g : Row → Bool) (all : List Row) → ascend key all ≡ true → list_all (λ row. not (f row && g row)) all ≡ true
    → with_rows key (filter f all) (filter g all) ≡ filter (λ row. f row || g row) all
