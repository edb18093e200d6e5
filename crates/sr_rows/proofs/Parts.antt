-- Rows put among others, and parts of rows put together.
use Rattle.std.proofs.Common.{◌≡◌, ℕ, Bool, true, false, cond, not, ◌&&◌, ◌||◌, List, [], ◌∷◌, ◌++◌, refl, sym, ap, subst, ◌∙◌, arith}
use Rattle.std.specs.Prelude.{filter, Option, Some, None, option_to_list}
use Rattle.std.specs.List.{list_all}
use Rattle.sr_cell.specs.declared.cell.Cell.{Cell}
use Rattle.sr_cell.specs.Cells.{Row, cell_at, cell_le}
use Rattle.sr_cell.proofs.Order.{cell_le-trans, cell_le-refl}
use Rattle.sr_model.specs.SortedRows.{ascend, with_row, with_rows}
use Rattle.sr_rows.specs.Places.{is_own_next}
use Rattle.sr_rows.proofs.Order.{key_lt-le, key_lt-not, is_first, ascend-tail, ascend-first, first-ascend}

pub first-filter : (key : ℕ) (r : Row) (f : Row → Bool) (rows : List Row) → is_first key r rows ≡ true → is_first key r (filter f rows) ≡ true
first-filter key r f [] h = refl
first-filter key r f (s ∷ rows) h = go (f s) (first-filter key r f rows (grind arith))
  where
    go : (b : Bool) → is_first key r (filter f rows) ≡ true → is_first key r (cond b (s ∷ filter f rows) (filter f rows)) ≡ true
    go true ih = grind (arith, ih)
    go false ih = ih

-- a part of the rows
pub ascend-filter : (key : ℕ) (f : Row → Bool) (rows : List Row) → ascend key rows ≡ true → ascend key (filter f rows) ≡ true
ascend-filter key f [] h = refl
ascend-filter key f (r ∷ rows) h = go (f r) (ascend-filter key f rows (ascend-tail key r rows h)) (first-filter key r f rows (ascend-first key r rows h))
  where
    go : (b : Bool) → ascend key (filter f rows) ≡ true → is_first key r (filter f rows) ≡ true → ascend key (cond b (r ∷ filter f rows) (filter f rows)) ≡ true
    go true a f1 = first-ascend key r (filter f rows) f1 a
    go false a f1 = a

-- each row has a key that is at most the cell
abbrev pub are_at_most : ℕ → Cell → List Row → Bool
are_at_most key v rows = list_all (λ r. cell_le (cell_at r key) v) rows

-- such rows stay where they are
with_row-behind : (key : ℕ) (before rows : List Row) (row : Row) → are_at_most key (cell_at row key) before ≡ true → with_row key (before ++ rows) row ≡ before ++ with_row key rows row
with_row-behind key [] rows row h = refl
with_row-behind key (r ∷ before) rows row h =
    let ih = with_row-behind key before rows row (grind arith) in
    let e : cell_le (cell_at r key) (cell_at row key) ≡ true = grind arith in
    rw (e, ih) refl

at_most-first : (key : ℕ) (row : Row) (more rows : List Row) → is_first key row more ≡ true → are_at_most key (cell_at row key) rows ≡ true
    → list_all (λ m. are_at_most key (cell_at m key) rows) more ≡ true
at_most-first key row [] rows f h = refl
at_most-first key row (m ∷ more) rows f h =
    let ih = at_most-first key row more rows (grind arith) h in
    let one = up rows (key_lt-le key row m (grind arith)) h in
    grind (arith, ih, one)
  where
    up : (rows : List Row) → cell_le (cell_at row key) (cell_at m key) ≡ true → are_at_most key (cell_at row key) rows ≡ true → are_at_most key (cell_at m key) rows ≡ true
    up [] le h = refl
    up (r ∷ rows) le h =
        let ih = up rows le (grind arith) in
        let t = cell_le-trans (cell_at r key) (cell_at row key) (cell_at m key) (grind arith) le in
        grind (arith, ih, t)

with_rows-behind : (key : ℕ) (before rows more : List Row) → list_all (λ m. are_at_most key (cell_at m key) before) more ≡ true
    → with_rows key (before ++ rows) more ≡ before ++ with_rows key rows more
with_rows-behind key before rows [] h = refl
with_rows-behind key before rows (row ∷ more) h =
    ap (λ xs. with_rows key xs more) (with_row-behind key before rows row (grind arith)) ∙ with_rows-behind key before (with_row key rows row) more (grind arith)

one-passes : (key : ℕ) (row : Row) → are_at_most key (cell_at row key) (row ∷ []) ≡ true
one-passes key row = let t = cell_le-refl (cell_at row key) in grind (arith, t)

with_row-front : (key : ℕ) (row : Row) (rows : List Row) → is_first key row rows ≡ true → with_row key rows row ≡ row ∷ rows
with_row-front key row [] f = refl
with_row-front key row (r ∷ rows) f = let e : cell_le (cell_at r key) (cell_at row key) ≡ false = key_lt-not key row r (grind arith) in rw e refl

with_rows-front : (key : ℕ) (r : Row) (rows more : List Row) → is_first key r more ≡ true → with_rows key (r ∷ rows) more ≡ r ∷ with_rows key rows more
with_rows-front key r rows more f = with_rows-behind key (r ∷ []) rows more (at_most-first key r more (r ∷ []) f (one-passes key r))

-- two parts of the rows with none in common, put together
pub with_rows-filters : (key : ℕ) (f g : Row → Bool) (all : List Row) → ascend key all ≡ true → list_all (λ row. not (f row && g row)) all ≡ true
    → with_rows key (filter f all) (filter g all) ≡ filter (λ row. f row || g row) all
with_rows-filters key f g [] h apart = refl
with_rows-filters key f g (r ∷ rows) h apart =
    go (f r) (g r) (grind arith) (with_rows-filters key f g rows (ascend-tail key r rows h) (grind arith))
  where
    here : is_first key r rows ≡ true
    here = ascend-first key r rows h

    go : (a b : Bool) → not (a && b) ≡ true → with_rows key (filter f rows) (filter g rows) ≡ filter (λ row. f row || g row) rows
        → with_rows key (cond a (r ∷ filter f rows) (filter f rows)) (cond b (r ∷ filter g rows) (filter g rows))
        ≡ cond (a || b) (r ∷ filter (λ row. f row || g row) rows) (filter (λ row. f row || g row) rows)
    go true true both ih = absurd (grind arith)
    go true false both ih = with_rows-front key r (filter f rows) (filter g rows) (first-filter key r g rows here) ∙ ap (λ xs. r ∷ xs) ih
    go false true both ih =
        ap (λ xs. with_rows key xs (filter g rows)) (with_row-front key r (filter f rows) (first-filter key r f rows here))
        ∙ with_rows-front key r (filter f rows) (filter g rows) (first-filter key r g rows here) ∙ ap (λ xs. r ∷ xs) ih
    go false false both ih = ih

-- two lists by key as one, row by row: which of them the next row is of
pub with_rows-own : (key : ℕ) (r : Row) (rows more : List Row) → ascend key more ≡ true → is_own_next key (r ∷ rows) more ≡ true
    → with_rows key (r ∷ rows) more ≡ r ∷ with_rows key rows more
with_rows-own key r rows [] h own = refl
with_rows-own key r rows (m ∷ more) h own =
    with_rows-behind key (r ∷ []) rows (m ∷ more)
    (let le : are_at_most key (cell_at m key) (r ∷ []) ≡ true = grind (arith, own) in
    let others = at_most-first key m more (r ∷ []) (ascend-first key m more h) le in
    grind (arith, le, others))

pub with_rows-other : (key : ℕ) (rows : List Row) (m : Row) (more : List Row) → ascend key (m ∷ more) ≡ true → is_own_next key rows (m ∷ more) ≡ false
    → with_rows key rows (m ∷ more) ≡ m ∷ with_rows key rows more
with_rows-other key [] m more h other = with_rows-front key m [] more (ascend-first key m more h)
with_rows-other key (r ∷ rows) m more h other =
    let e : cell_le (cell_at r key) (cell_at m key) ≡ false = other in
    rw e (with_rows-front key m (r ∷ rows) more (ascend-first key m more h))

pub next-own : (key : ℕ) (own rest more : List Row) (o : Option Row) → ascend key more ≡ true → is_own_next key own more ≡ true → own ≡ option_to_list o ++ rest
    → with_rows key own more ≡ option_to_list o ++ with_rows key rest more
next-own key own rest more None h is e = ap (λ xs. with_rows key xs more) e
next-own key own rest more (Some r) h is e =
    let P : List Row → Type 0 = λ xs. is_own_next key xs more ≡ true → with_rows key xs more ≡ r ∷ with_rows key rest more in
    subst P (sym e) (with_rows-own key r rest more h) is

pub next-other : (key : ℕ) (own more rest : List Row) (o : Option Row) → ascend key more ≡ true → is_own_next key own more ≡ false → more ≡ option_to_list o ++ rest
    → with_rows key own more ≡ option_to_list o ++ with_rows key own rest
next-other key own more rest None h is e = ap (λ xs. with_rows key own xs) e
next-other key own more rest (Some m) h is e =
    let P : List Row → Type 0 = λ xs. ascend key xs ≡ true → is_own_next key own xs ≡ false → with_rows key own xs ≡ m ∷ with_rows key own rest in
    subst P (sym e) (with_rows-other key own m rest) h is

-- ascending rows put one after another
pub with_rows-none : (key : ℕ) (rows : List Row) → ascend key rows ≡ true → with_rows key [] rows ≡ rows
with_rows-none key [] h = refl
with_rows-none key (r ∷ rows) h = with_rows-other key [] r rows h refl ∙ ap (λ xs. r ∷ xs) (with_rows-none key rows (ascend-tail key r rows h))
