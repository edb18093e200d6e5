-- Rows put among others in any order, and what they change.
use Rattle.std.proofs.Common.{◌≡◌, ℕ, Bool, true, false, ◌||◌, List, [], ◌∷◌, refl, sym, ap, ◌∙◌, arith}
use Rattle.std.specs.Prelude.{if◌then◌else◌}
use Rattle.std.specs.List.{list_all}
use Rattle.sr_cell.specs.Cells.{Row, cell_at, cell_le}
use Rattle.sr_cell.proofs.Order.{cell_le-trans}
use Rattle.sr_model.specs.SortedRows.{key_lt, with_row, with_rows}
use Rattle.sr_rows.specs.Places.{is_apart}
use Rattle.sr_rows.proofs.Order.{key_lt-le, key_lt-not}
use Rattle.sr_rows.proofs.Elements.{list_all-row}
use Rattle.sr_tables.specs.Inserts.{are_apart}

-- ---- the order in which rows are put does not matter

-- two rows of different keys
swap_in_order : (key : ℕ) (rows : List Row) (a b : Row) → key_lt key a b ≡ true → with_row key (with_row key rows a) b ≡ with_row key (with_row key rows b) a
swap_in_order key [] a b h =
    let e : cell_le (cell_at a key) (cell_at b key) ≡ true = key_lt-le key a b h in
    let n : cell_le (cell_at b key) (cell_at a key) ≡ false = key_lt-not key a b h in
    rw (e, n) refl
swap_in_order key (r ∷ rows) a b h =
    go (cell_le (cell_at r key) (cell_at a key)) refl (cell_le (cell_at r key) (cell_at b key)) refl (swap_in_order key rows a b h)
  where
    e : cell_le (cell_at a key) (cell_at b key) ≡ true
    e = key_lt-le key a b h

    n : cell_le (cell_at b key) (cell_at a key) ≡ false
    n = key_lt-not key a b h

    go : (x : Bool) → cell_le (cell_at r key) (cell_at a key) ≡ x → (y : Bool) → cell_le (cell_at r key) (cell_at b key) ≡ y
        → with_row key (with_row key rows a) b ≡ with_row key (with_row key rows b) a
        → with_row key (if x then r ∷ with_row key rows a else a ∷ r ∷ rows) b ≡ with_row key (if y then r ∷ with_row key rows b else b ∷ r ∷ rows) a
    go true p true q ih = rw (p, q) (ap (λ xs. r ∷ xs) ih)
    go true p false q ih = let t = cell_le-trans (cell_at r key) (cell_at a key) (cell_at b key) p e in absurd (cc)
    go false p true q ih = rw (e, p, q) refl
    go false p false q ih = rw (e, n, q) refl

-- rows whose keys are apart
abbrev is_other : ℕ → Row → Row → Bool
is_other key a b = key_lt key a b || key_lt key b a

with_row-swap : (key : ℕ) (rows : List Row) (a b : Row) → is_other key a b ≡ true → with_row key (with_row key rows a) b ≡ with_row key (with_row key rows b) a
with_row-swap key rows a b h = go (key_lt key a b) refl
  where
    go : (x : Bool) → key_lt key a b ≡ x → with_row key (with_row key rows a) b ≡ with_row key (with_row key rows b) a
    go true e = swap_in_order key rows a b e
    go false e = sym (swap_in_order key rows b a (grind (arith, e, h)))

-- a row put before or after others
with_rows-last : (key : ℕ) (rows more : List Row) (row : Row) → is_apart key more row ≡ true → with_row key (with_rows key rows more) row ≡ with_rows key (with_row key rows row) more
with_rows-last key rows [] row h = refl
with_rows-last key rows (m ∷ more) row h =
    with_rows-last key (with_row key rows m) more row (grind arith)
    ∙ ap (λ xs. with_rows key xs more) (with_row-swap key rows m row (grind arith))

-- a row put among the later rows, or behind them
pub with_rows-among : (key : ℕ) (rows more : List Row) (row : Row) → is_apart key more row ≡ true
    → with_rows key rows (with_row key more row) ≡ with_row key (with_rows key rows more) row
with_rows-among key rows [] row h = refl
with_rows-among key rows (m ∷ more) row h =
    go (cell_le (cell_at m key) (cell_at row key)) (with_rows-among key (with_row key rows m) more row (grind arith))
  where
    go : (b : Bool) → with_rows key (with_row key rows m) (with_row key more row) ≡ with_row key (with_rows key (with_row key rows m) more) row
        → with_rows key rows (if b then m ∷ with_row key more row else row ∷ m ∷ more) ≡ with_row key (with_rows key (with_row key rows m) more) row
    go true ih = ih
    go false ih = sym (with_rows-last key rows (m ∷ more) row h)

-- rows put among later rows first, or each behind them
with_rows-both : (key : ℕ) (rows fresh more : List Row) → are_apart key fresh more ≡ true
    → with_rows key rows (with_rows key fresh more) ≡ with_rows key (with_rows key rows fresh) more
with_rows-both key rows fresh [] h = refl
with_rows-both key rows fresh (m ∷ more) h =
    with_rows-both key rows (with_row key fresh m) more (grind arith)
    ∙ ap (λ xs. with_rows key xs more) (with_rows-among key rows fresh m (grind arith))

-- ---- rows apart from more are apart from fewer

apart-fewer : (key : ℕ) (rows : List Row) (r row : Row) → is_apart key (with_row key rows r) row ≡ true → is_apart key rows row ≡ true
apart-fewer key rows r row h = let all = list_all-row (λ other. key_lt key other row || key_lt key row other) key rows r in grind (arith, all, h)

-- each of the later rows is apart from the first ones
pub apart-each : (key : ℕ) (rows more : List Row) → are_apart key rows more ≡ true → list_all (is_apart key rows) more ≡ true
apart-each key rows [] h = refl
apart-each key rows (m ∷ more) h =
    let ih = apart-each key (with_row key rows m) more (grind arith) in
    let fewer = up more ih in
    grind (arith, h, fewer)
  where
    up : (more : List Row) → list_all (is_apart key (with_row key rows m)) more ≡ true → list_all (is_apart key rows) more ≡ true
    up [] all = refl
    up (row ∷ more) all =
        let ih = up more (grind arith) in
        let one = apart-fewer key rows m row (grind arith) in
        grind (arith, ih, one)

-- and from some of them
pub apart-subset : (key : ℕ) (some rows more : List Row) → ((row : Row) → is_apart key rows row ≡ true → is_apart key some row ≡ true)
    → are_apart key rows more ≡ true → are_apart key some more ≡ true
apart-subset key some rows [] fewer h = refl
apart-subset key some rows (m ∷ more) fewer h =
    let ih = apart-subset key (with_row key some m) (with_row key rows m) more next (grind arith) in
    let one = fewer m (grind arith) in
    grind (arith, ih, one)
  where
    next : (row : Row) → is_apart key (with_row key rows m) row ≡ true → is_apart key (with_row key some m) row ≡ true
    next row h =
        let p : Row → Bool = λ other. key_lt key other row || key_lt key row other in
        let a = list_all-row p key rows m in
        let b = list_all-row p key some m in
        let c = fewer row (apart-fewer key rows m row h) in
        grind (arith, a, b, c, h)

pub apart-alone : (key : ℕ) (rows more : List Row) → are_apart key rows more ≡ true → are_apart key [] more ≡ true
apart-alone key rows more h = apart-subset key [] rows more (λ row _. refl) h

-- a statement's rows put by key first, or each in turn
pub with_rows-fresh : (key : ℕ) (rows more : List Row) → are_apart key rows more ≡ true → with_rows key rows (with_rows key [] more) ≡ with_rows key rows more
with_rows-fresh key rows more h = with_rows-both key rows [] more (apart-alone key rows more h)
