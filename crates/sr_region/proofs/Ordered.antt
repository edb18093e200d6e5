-- Rows put among others by key.
use Rattle.std.proofs.Common.{◌≡◌, ℕ, true, List, [], ◌∷◌, ◌++◌, take, drop, arith}
use Rattle.std.specs.List.{list_all, All}
use Rattle.std.proofs.lemmas.List.Elements.{All-same, All-append, All-take, All-drop, All-cons, All-head, All-tail}
use Rattle.sr_cell.specs.Cells.{Row, cell_at}
use Rattle.sr_model.specs.SortedRows.{ascend, with_row, with_rows}
use Rattle.sr_rows.specs.Places.{place_at, is_apart}
use Rattle.sr_rows.proofs.Order.{ascend-tail, ascend-first}
use Rattle.sr_rows.proofs.Places.{with_row-place, with_row-ascend}
use Rattle.sr_rows.proofs.Elements.{apart-next}

pub All-with_row : (P : Row → Type 0) (key : ℕ) (rows : List Row) (row : Row) → All P rows → P row → All P (with_row key rows row)
All-with_row P key rows row all one =
    let n = place_at key (cell_at row key) rows in
    All-same P (with_row key rows row) (take n rows ++ row ∷ drop n rows) (with_row-place key rows row)
    (All-append P (take n rows) (row ∷ drop n rows) (All-take P n rows all) (All-cons P row (drop n rows) one (All-drop P n rows all)))

pub All-with_rows : (P : Row → Type 0) (key : ℕ) (rows more : List Row) → All P rows → All P more → All P (with_rows key rows more)
All-with_rows P key rows [] all each = all
All-with_rows P key rows (m ∷ more) all each =
    All-with_rows P key (with_row key rows m) more (All-with_row P key rows m all (All-head P m more each)) (All-tail P m more each)

pub with_rows-ascend : (key : ℕ) (rows more : List Row) → ascend key rows ≡ true → ascend key more ≡ true → list_all (is_apart key rows) more ≡ true → ascend key (with_rows key rows more) ≡ true
with_rows-ascend key rows [] h k apart = h
with_rows-ascend key rows (m ∷ more) h k apart =
    with_rows-ascend key (with_row key rows m) more (with_row-ascend key rows m h (grind arith)) (ascend-tail key m more k)
    (apart-next key rows more m (ascend-first key m more k) (grind arith))
