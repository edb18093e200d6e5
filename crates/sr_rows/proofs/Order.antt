-- The order of cells and of rows by key.
use Rattle.std.proofs.Common.{◌≡◌, ℕ, Bool, true, false, ◌||◌, List, [], ◌∷◌, refl, sym, ap, ◌∙◌, arith}
use Rattle.std.specs.Prelude.{pos, None, slice_get, slice_index_or}
use Rattle.std.specs.Option.{unwrap_or}
use Rattle.std.proofs.lemmas.Option.{unwrap_or-slice_get}
use Rattle.std.specs.List.{list_all}
use Rattle.std.proofs.lemmas.Bool.Decides.{nat_tests}
use Rattle.sr_cell.specs.declared.cell.Cell.{Cell}
use Rattle.sr_cell.specs.declared.cell.Cell.TheVariants.{Num}
use Rattle.sr_cell.specs.Cells.{Row, cell_at, cell_le, text_le}
use Rattle.sr_cell.proofs.Order.{cell_le-trans}
use Rattle.sr_model.specs.SortedRows.{key_lt, ascend}

pub text_le-total : (s t : List ℕ) → (text_le s t || text_le t s) ≡ true
text_le-total [] t = refl
text_le-total (a ∷ s) [] = refl
text_le-total (a ∷ s) (b ∷ t) = let ih = text_le-total s t in grind (arith, nat_tests, ih)

-- a row that is too short has 0 there
pub cell_at_absent : (row : Row) (key : ℕ) → slice_get row key ≡ None → slice_index_or row key (Num (pos 0)) ≡ Num (pos 0)
cell_at_absent row key absent = sym (unwrap_or-slice_get row key (Num (pos 0))) ∙ ap (λ o. unwrap_or o (Num (pos 0))) absent

-- before by key
pub key_lt-le : (key : ℕ) (r s : Row) → key_lt key r s ≡ true → cell_le (cell_at r key) (cell_at s key) ≡ true
key_lt-le key r s h = grind arith

pub key_lt-not : (key : ℕ) (r s : Row) → key_lt key r s ≡ true → cell_le (cell_at s key) (cell_at r key) ≡ false
key_lt-not key r s h = grind arith

lt-trans : (a b c : Cell) → cell_le a b ≡ true → cell_le b a ≡ false → cell_le b c ≡ true → cell_le c a ≡ false
lt-trans a b c h n k = let t = cell_le-trans b c a k in grind (arith, t)

pub key_lt-trans : (key : ℕ) (r s t : Row) → key_lt key r s ≡ true → key_lt key s t ≡ true → key_lt key r t ≡ true
key_lt-trans key r s t h k =
    let a = key_lt-le key r s h in
    let b = key_lt-le key s t k in
    let c = cell_le-trans (cell_at r key) (cell_at s key) (cell_at t key) a b in
    let d = lt-trans (cell_at r key) (cell_at s key) (cell_at t key) a (key_lt-not key r s h) b in
    grind (arith, c, d)

-- before each row of a list
abbrev pub is_first : ℕ → Row → List Row → Bool
is_first key r rows = list_all (λ s. key_lt key r s) rows

is_first-trans : (key : ℕ) (r s : Row) (rows : List Row) → key_lt key r s ≡ true → is_first key s rows ≡ true → is_first key r rows ≡ true
is_first-trans key r s [] h k = refl
is_first-trans key r s (t ∷ rows) h k =
    let ih = is_first-trans key r s rows h (grind arith) in
    let x = key_lt-trans key r s t h (grind arith) in
    grind (arith, ih, x)

pub ascend-tail : (key : ℕ) (r : Row) (rows : List Row) → ascend key (r ∷ rows) ≡ true → ascend key rows ≡ true
ascend-tail key r [] h = refl
ascend-tail key r (s ∷ rows) h = grind arith

pub ascend-first : (key : ℕ) (r : Row) (rows : List Row) → ascend key (r ∷ rows) ≡ true → is_first key r rows ≡ true
ascend-first key r [] h = refl
ascend-first key r (s ∷ rows) h =
    let ih = ascend-first key s rows (grind arith) in
    let x = is_first-trans key r s rows (grind arith) ih in
    grind (arith, x)

pub first-ascend : (key : ℕ) (r : Row) (rows : List Row) → is_first key r rows ≡ true → ascend key rows ≡ true → ascend key (r ∷ rows) ≡ true
first-ascend key r [] h k = refl
first-ascend key r (s ∷ rows) h k = grind arith
