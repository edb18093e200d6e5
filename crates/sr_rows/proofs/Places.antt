-- Places of rows by key.
use Rattle.std.proofs.Common.{◌≡◌, ℕ, zero, suc, ◌+◌, ◌-◌, ◌<◌, ◌≤◌, Bool, true, false, cond, ◌&&◌, ◌||◌, List, [], ◌∷◌, ◌++◌, length, take, drop, refl, sym, ap, arith, one-add, ◌∙◌}
use Rattle.std.specs.Prelude.{if◌then◌else◌, nat_lt, slice_index_or, None}
use Rattle.std.specs.List.{prefix_len}
use Rattle.std.specs.List.Sorted.{IsPartitionedBy, IsPartitionPoint}
use Rattle.std.proofs.lemmas.List.Sums.{prefix_len_is}
use Rattle.std.proofs.lemmas.Bool.Decides.{nat_tests}
use Rattle.std.proofs.Math.Bool.{or-false}
use Rattle.sr_cell.specs.declared.cell.Cell.{Cell}
use Rattle.sr_cell.specs.Cells.{Row, cell_at, cell_le, cell_eq}
use Rattle.sr_cell.proofs.Order.{cell_le-trans}
use Rattle.sr_cell.proofs.Lists.{find-none}
use Rattle.sr_model.specs.SortedRows.{key_lt, ascend, has_key, with_row}
use Rattle.sr_model.specs.Changes.{row_with}
use Rattle.sr_rows.specs.Keys.{without_key}
use Rattle.sr_rows.specs.Places.{place_at, is_apart}
use Rattle.sr_rows.proofs.Order.{key_lt-le, key_lt-not, is_first, ascend-tail, ascend-first, first-ascend}

-- the rows before one whose key is at most the cell have such keys too
first_le : (key : ℕ) (v : Cell) (r : Row) (rows : List Row) (j : ℕ) (d : Row) → is_first key r rows ≡ true → j < length rows
    → cell_le (cell_at (slice_index_or rows j d) key) v ≡ true → cell_le (cell_at r key) v ≡ true
first_le key v r [] j d f below h = absurd (omega arith)
first_le key v r (s ∷ rows) zero d f below h = cell_le-trans (cell_at r key) (cell_at s key) v (key_lt-le key r s (grind arith)) h
first_le key v r (s ∷ rows) (suc j) d f below h = first_le key v r rows j d (grind arith) (omega arith) h

pub ascend-parted : (key : ℕ) (v : Cell) (rows : List Row) → ascend key rows ≡ true → IsPartitionedBy (λ row. cell_le (cell_at row key) v) rows
ascend-parted key v [] h i j d le below p = absurd (omega arith)
ascend-parted key v (r ∷ rows) h zero zero d le below p = p
ascend-parted key v (r ∷ rows) h zero (suc j) d le below p = first_le key v r rows j d (ascend-first key r rows h) (omega arith) p
ascend-parted key v (r ∷ rows) h (suc i) zero d le below p = absurd (omega arith)
ascend-parted key v (r ∷ rows) h (suc i) (suc j) d le below p = ascend-parted key v rows (ascend-tail key r rows h) i j d (omega arith) (omega arith) p

pub point-place : {X : Type 0} (p : X → Bool) (xs : List X) (n : ℕ) → n ≤ length xs → IsPartitionPoint (λ x. p x ≡ true) (λ x. p x ≡ false) xs n → n ≡ prefix_len p xs
point-place p [] n le point = omega arith
point-place p (x ∷ xs) n le point =
    sym (prefix_len_is p (x ∷ xs) n x le (λ k below. point.0 k x (omega arith) below) (λ below. point.1 n x (omega arith) below))

pub with_row-place : (key : ℕ) (rows : List Row) (row : Row)
    → with_row key rows row ≡ take (place_at key (cell_at row key) rows) rows ++ row ∷ drop (place_at key (cell_at row key) rows) rows
with_row-place key [] row = refl
with_row-place key (r ∷ rows) row = go (cell_le (cell_at r key) (cell_at row key)) (with_row-place key rows row)
  where
    go : (b : Bool) → with_row key rows row ≡ take (place_at key (cell_at row key) rows) rows ++ row ∷ drop (place_at key (cell_at row key) rows) rows
        → (if b then r ∷ with_row key rows row else row ∷ r ∷ rows)
        ≡ take (cond b (1 + place_at key (cell_at row key) rows) 0) (r ∷ rows) ++ row ∷ drop (cond b (1 + place_at key (cell_at row key) rows) 0) (r ∷ rows)
    go true ih = rw one-add (ap (λ xs. r ∷ xs) ih)
    go false ih = refl

-- a row before others has none of their keys
pub first-lacks : (key : ℕ) (v : Cell) (r : Row) (rows : List Row) → cell_at r key ≡ v → is_first key r rows ≡ true → has_key key v rows ≡ false
first-lacks key v r [] same f = refl
first-lacks key v r (s ∷ rows) same f =
    let ih = first-lacks key v r rows same (grind arith) in
    let above : cell_le (cell_at s key) v ≡ false = ap (cell_le (cell_at s key)) (sym same) ∙ key_lt-not key r s (grind arith) in
    grind (arith, ih, above)

pub first-none : (key : ℕ) (v : Cell) (r : Row) (rows : List Row) → cell_at r key ≡ v → is_first key r rows ≡ true → row_with key v rows ≡ None
first-none key v r rows same f = find-none (λ row. cell_eq (cell_at row key) v) rows (first-lacks key v r rows same f)

-- no row from one on that stands behind the cell has it as key
none_behind : (key : ℕ) (v : Cell) (r : Row) (rows : List Row) → is_first key r rows ≡ true → cell_le (cell_at r key) v ≡ false → has_key key v rows ≡ false
none_behind key v r [] f n = refl
none_behind key v r (s ∷ rows) f n =
    let ih = none_behind key v r rows (grind arith) n in
    let t = cell_le-trans (cell_at r key) (cell_at s key) v (key_lt-le key r s (grind arith)) in
    grind (arith, ih, t)

-- the cell is the key of the last row before its place
abbrev pub ends_with : ℕ → Cell → List Row → Bool
ends_with key v rows = nat_lt 0 (place_at key v rows) && cell_le v (cell_at (slice_index_or rows (place_at key v rows - 1) []) key)

-- a row before one whose key is at most the cell does not have it as key
first_not : (key : ℕ) (v : Cell) (r : Row) (rows : List Row) (m : ℕ) → is_first key r rows ≡ true → place_at key v rows ≡ suc m → cell_le v (cell_at r key) ≡ false
first_not key v r [] m f p = absurd (omega arith)
first_not key v r (s ∷ rows) m f p =
    let t = cell_le-trans (cell_at s key) v (cell_at r key) in
    let n = key_lt-not key r s (grind arith) in
    grind (arith, t, n, p)

pub has_key-place : (key : ℕ) (v : Cell) (rows : List Row) → ascend key rows ≡ true → has_key key v rows ≡ ends_with key v rows
has_key-place key v [] h = refl
has_key-place key v (r ∷ rows) h =
    go (cell_le (cell_at r key) v) refl (place_at key v rows) refl (has_key-place key v rows (ascend-tail key r rows h)) (none_behind key v r rows (ascend-first key r rows h))
  where
    go : (b : Bool) → cell_le (cell_at r key) v ≡ b → (n : ℕ) → place_at key v rows ≡ n
        → has_key key v rows ≡ (nat_lt 0 n && cell_le v (cell_at (slice_index_or rows (n - 1) []) key))
        → (cell_le (cell_at r key) v ≡ false → has_key key v rows ≡ false)
        → ((b && cell_le v (cell_at r key)) || has_key key v rows)
        ≡ (nat_lt 0 (cond b (1 + n) 0) && cell_le v (cell_at (slice_index_or (r ∷ rows) (cond b (1 + n) 0 - 1) []) key))
    go false e n p ih none = none e
    go true e zero p ih none = rw ih (or-false (cell_le v (cell_at r key)))
    go true e (suc m) p ih none =
        let not = first_not key v r rows m (ascend-first key r rows h) p in
        let one : suc m - 1 ≡ m = omega arith in
        let two : 1 + suc m - 1 ≡ suc m = omega arith in
        let three : nat_lt 0 (1 + suc m) ≡ true = grind (arith, nat_tests) in
        let four : nat_lt 0 (suc m) ≡ true = grind (arith, nat_tests) in
        rw (not, ih, three, four, two, one) refl

first-with_row : (key : ℕ) (r : Row) (rows : List Row) (row : Row) → is_first key r rows ≡ true → key_lt key r row ≡ true → is_first key r (with_row key rows row) ≡ true
first-with_row key r [] row f h = grind (arith, h)
first-with_row key r (s ∷ rows) row f h = go (cell_le (cell_at s key) (cell_at row key)) (first-with_row key r rows row (grind arith) h)
  where
    go : (b : Bool) → is_first key r (with_row key rows row) ≡ true → is_first key r (if b then s ∷ with_row key rows row else row ∷ s ∷ rows) ≡ true
    go true ih = grind (arith, ih)
    go false ih = grind (arith, h)

pub with_row-ascend : (key : ℕ) (rows : List Row) (row : Row) → ascend key rows ≡ true → is_apart key rows row ≡ true → ascend key (with_row key rows row) ≡ true
with_row-ascend key [] row h apart = refl
with_row-ascend key (r ∷ rows) row h apart =
    go (cell_le (cell_at r key) (cell_at row key)) refl (with_row-ascend key rows row (ascend-tail key r rows h) (grind arith)) (first-with_row key r rows row (ascend-first key r rows h))
  where
    go : (b : Bool) → cell_le (cell_at r key) (cell_at row key) ≡ b → ascend key (with_row key rows row) ≡ true
        → (key_lt key r row ≡ true → is_first key r (with_row key rows row) ≡ true)
        → ascend key (if b then r ∷ with_row key rows row else row ∷ r ∷ rows) ≡ true
    go true e a f = first-ascend key r (with_row key rows row) (f (grind (arith, e, apart))) a
    go false e a f = grind (arith, e, h, apart)

-- rows that have no row of the key stay as they are without it
pub without-none : (key : ℕ) (v : Cell) (rows : List Row) → has_key key v rows ≡ false → without_key key v rows ≡ rows
without-none key v [] h = refl
without-none key v (r ∷ rows) h =
    let other : cell_eq (cell_at r key) v ≡ false = grind arith in
    let ih = without-none key v rows (grind arith) in
    rw (other, ih) refl
