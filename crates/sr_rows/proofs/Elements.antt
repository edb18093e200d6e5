-- What holds of all rows, or of some, where one is put among them; and the equality of rows.
use Rattle.std.proofs.Common.{◌≡◌, ℕ, Bool, true, false, ◌||◌, List, [], ◌∷◌, refl, arith, ◌&&◌}
use Rattle.std.specs.Prelude.{if◌then◌else◌}
use Rattle.std.specs.List.{list_any, list_all}
use Rattle.sr_cell.specs.Cells.{Row, cell_at, cell_le}
use Rattle.sr_cell.proofs.Order.{cell_eq-sound, cell_eq-refl}
use Rattle.sr_model.specs.SortedRows.{with_row, with_rows, key_lt, row_eq}
use Rattle.sr_rows.specs.Places.{is_apart}
use Rattle.sr_rows.proofs.Order.{is_first}

pub list_any-with_row : (p : Row → Bool) (key : ℕ) (rows : List Row) (row : Row) → list_any p (with_row key rows row) ≡ (p row || list_any p rows)
list_any-with_row p key [] row = refl
list_any-with_row p key (r ∷ rows) row = go (cell_le (cell_at r key) (cell_at row key)) (list_any-with_row p key rows row)
  where
    go : (b : Bool) → list_any p (with_row key rows row) ≡ (p row || list_any p rows)
        → list_any p (if b then r ∷ with_row key rows row else row ∷ r ∷ rows) ≡ (p row || (p r || list_any p rows))
    go true ih = grind (arith, ih)
    go false ih = refl

pub list_any-with_rows : (p : Row → Bool) (key : ℕ) (rows more : List Row) → list_any p (with_rows key rows more) ≡ (list_any p rows || list_any p more)
list_any-with_rows p key rows [] = or_false (list_any p rows)
  where
    or_false : (b : Bool) → b ≡ (b || false)
    or_false true = refl
    or_false false = refl
list_any-with_rows p key rows (row ∷ more) =
    let ih = list_any-with_rows p key (with_row key rows row) more in
    let one = list_any-with_row p key rows row in
    grind (arith, ih, one)

pub list_all-row : (p : Row → Bool) (key : ℕ) (rows : List Row) (row : Row) → list_all p (with_row key rows row) ≡ (p row && list_all p rows)
list_all-row p key [] row = refl
list_all-row p key (r ∷ rows) row = go (cell_le (cell_at r key) (cell_at row key)) (list_all-row p key rows row)
  where
    go : (b : Bool) → list_all p (with_row key rows row) ≡ (p row && list_all p rows)
        → list_all p (if b then r ∷ with_row key rows row else row ∷ r ∷ rows) ≡ (p row && (p r && list_all p rows))
    go true ih = grind (arith, ih)
    go false ih = refl

pub list_all-with_row : (p : Row → Bool) (key : ℕ) (rows : List Row) (row : Row) → list_all p rows ≡ true → p row ≡ true → list_all p (with_row key rows row) ≡ true
list_all-with_row p key rows row all one = let both = list_all-row p key rows row in grind (arith, both, all, one)

-- ascending rows, each apart from the rows, can be put one by one
pub apart-next : (key : ℕ) (rows more : List Row) (m : Row) → is_first key m more ≡ true → list_all (is_apart key rows) more ≡ true → list_all (is_apart key (with_row key rows m)) more ≡ true
apart-next key rows [] m f h = refl
apart-next key rows (r ∷ more) m f h =
    let ih = apart-next key rows more m (grind arith) (grind arith) in
    let one = list_all-row (λ other. key_lt key other r || key_lt key r other) key rows m in
    grind (arith, ih, one, f, h)

pub row_eq-refl : (row : Row) → row_eq row row ≡ true
row_eq-refl [] = refl
row_eq-refl (v ∷ row) = let one = cell_eq-refl v in let ih = row_eq-refl row in grind (arith, one, ih)

pub row_eq-sound : (p q : Row) → row_eq p q ≡ true → p ≡ q
row_eq-sound [] [] h = refl
row_eq-sound [] (w ∷ q) h = absurd (cc)
row_eq-sound (v ∷ p) [] h = absurd (cc)
row_eq-sound (v ∷ p) (w ∷ q) h =
    let one : v ≡ w = cell_eq-sound v w (grind arith) in
    let others : p ≡ q = row_eq-sound p q (grind arith) in
    cc
