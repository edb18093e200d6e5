-- Rows are taken out key by key, and for one arrival after another.
use Rattle.std.proofs.Common.{◌≡◌, ℕ, ◌+◌, ◌<◌, Bool, true, false, not, ◌&&◌, ◌||◌, List, [], ◌∷◌, length, drop, refl, sym, ap, subst, ◌∙◌, arith}
use Rattle.std.specs.Prelude.{◌==◌, filter, slice_index_or}
use Rattle.std.specs.List.{All}
use Rattle.std.proofs.lemmas.List.{at_drop_more}
use Rattle.std.proofs.lemmas.List.Elements.{filter_agree}
use Rattle.sr_cell.specs.declared.cell.Cell.{Cell}
use Rattle.sr_cell.specs.Cells.{Row, cell_at, cell_eq}
use Rattle.sr_cell.proofs.Lists.{filter-filter}
use Rattle.sr_cell.proofs.Order.{cell_eq-symm}
use Rattle.sr_model.specs.SortedRows.{ascend, has_key}
use Rattle.sr_rows.proofs.Parts.{ascend-filter}
use Rattle.sr_region.specs.declared.region.Region.{Region}
use Rattle.sr_region.specs.Regions.{rank}
use Rattle.sr_rows.specs.Keys.{without_key}
use Rattle.sr_store.specs.declared.store.Arrival.{Arrival}
use Rattle.sr_store.specs.Answered.{brings, gives_way}
use Rattle.sr_store.specs.Making.{without_keys, IsByKey, LiesBy}

keep-all : (f : Row → Bool) → ((row : Row) → f row ≡ true) → (rows : List Row) → filter f rows ≡ rows
keep-all f all [] = refl
keep-all f all (r ∷ rows) = rw (all r) (ap (λ xs. r ∷ xs) (keep-all f all rows))

-- ---- key by key

one-key : (key : ℕ) (r : Row) (others rows : List Row) → without_keys key others (without_key key (cell_at r key) rows) ≡ without_keys key (r ∷ others) rows
one-key key r others rows =
    filter-filter (λ row. not (cell_eq (cell_at row key) (cell_at r key))) (λ row. not (has_key key (cell_at row key) others)) rows
    ∙ filter_agree (λ row. not (cell_eq (cell_at row key) (cell_at r key)) && not (has_key key (cell_at row key) others)) (λ row. not (has_key key (cell_at row key) (r ∷ others)))
    (λ row. go (cell_eq (cell_at row key) (cell_at r key)) (cell_eq (cell_at r key) (cell_at row key)) (has_key key (cell_at row key) others) (cell_eq-symm (cell_at row key) (cell_at r key))) rows
  where
    go : (b c d : Bool) → b ≡ c → (not b && not d) ≡ not (c || d)
    go b c d e = grind (arith, e)

pub keys-next : (key : ℕ) (others : List Row) (i : ℕ) (r : Row) (rows next left : List Row) → i < length others → r ≡ slice_index_or others i r → next ≡ without_key key (cell_at r key) rows
    → without_keys key (drop i others) rows ≡ left → without_keys key (drop (i + 1) others) next ≡ left
keys-next key others i r rows next left below at is own =
    ap (without_keys key (drop (i + 1) others)) (is ∙ ap (λ x. without_key key (cell_at x key) rows) at)
    ∙ one-key key (slice_index_or others i r) (drop (i + 1) others) rows
    ∙ sym (at_drop_more (λ xs. without_keys key xs rows) others i r below) ∙ own

pub keys-last : (key : ℕ) (others rows left : List Row) → others ≡ [] → without_keys key others rows ≡ left → rows ≡ left
keys-last key others rows left none own = sym (ap (λ xs. without_keys key xs rows) none ∙ keep-all (λ row. true) (λ row. refl) rows) ∙ own

pub keys-ascend : (key : ℕ) (v : Cell) (rows next : List Row) → next ≡ without_key key v rows → ascend key rows ≡ true → ascend key next ≡ true
keys-ascend key v rows next is h = ap (ascend key) is ∙ ascend-filter key (λ row. not (cell_eq (cell_at row key) v)) rows h

-- ---- one arrival after another

pub way-other : (r : Arrival) (g : Region) → (r.table == g.table && r.attrs == g.attrs) ≡ false → g ≡ gives_way (r ∷ []) g
way-other r g e =
    ap (λ rows. record g { rows = rows })
    (sym (keep-all (λ row. not (brings (r ∷ []) g (cell_at row (rank g.attrs g.key))))
    (λ row. go (r.table == g.table && r.attrs == g.attrs) e (has_key (rank g.attrs g.key) (cell_at row (rank g.attrs g.key)) r.rows)) g.rows))
  where
    go : (b : Bool) → b ≡ false → (h : Bool) → not ((b && h) || false) ≡ true
    go b e h = grind (arith, e)

one-way : (r : Arrival) (rs : List Arrival) (g : Region) → gives_way rs (gives_way (r ∷ []) g) ≡ gives_way (r ∷ rs) g
one-way r rs g =
    ap (λ rows. record g { rows = rows })
    (filter-filter (λ row. not (brings (r ∷ []) g (cell_at row (rank g.attrs g.key)))) (λ row. not (brings rs g (cell_at row (rank g.attrs g.key)))) g.rows
    ∙ filter_agree (λ row. not (brings (r ∷ []) g (cell_at row (rank g.attrs g.key))) && not (brings rs g (cell_at row (rank g.attrs g.key))))
    (λ row. not (brings (r ∷ rs) g (cell_at row (rank g.attrs g.key))))
    (λ row. go ((r.table == g.table && r.attrs == g.attrs) && has_key (rank g.attrs g.key) (cell_at row (rank g.attrs g.key)) r.rows) (brings rs g (cell_at row (rank g.attrs g.key)))) g.rows)
  where
    go : (b c : Bool) → (not (b || false) && not c) ≡ not (b || c)
    go true c = refl
    go false c = refl

pub ways-next : (rs : List Arrival) (i : ℕ) (r : Arrival) (g next left : Region) → i < length rs → r ≡ slice_index_or rs i r → next ≡ gives_way (r ∷ []) g
    → gives_way (drop i rs) g ≡ left → gives_way (drop (i + 1) rs) next ≡ left
ways-next rs i r g next left below at is own =
    ap (gives_way (drop (i + 1) rs)) (is ∙ ap (λ x. gives_way (x ∷ []) g) at)
    ∙ one-way (slice_index_or rs i r) (drop (i + 1) rs) g
    ∙ sym (at_drop_more (λ xs. gives_way xs g) rs i r below) ∙ own

pub ways-last : (rs : List Arrival) (g left : Region) → rs ≡ [] → gives_way rs g ≡ left → g ≡ left
ways-last rs g left none own = sym (ap (λ xs. gives_way xs g) none ∙ ap (λ rows. record g { rows = rows }) (keep-all (λ row. true) (λ row. refl) g.rows)) ∙ own

pub ways-by-key : (r : Arrival) (g next : Region) → next ≡ gives_way (r ∷ []) g → IsByKey g → IsByKey next
ways-by-key r g next is h =
    subst IsByKey (sym is) (ascend-filter (rank g.attrs g.key) (λ row. not (brings (r ∷ []) g (cell_at row (rank g.attrs g.key)))) g.rows h)

-- an arrival changes neither table nor columns nor key of the region
pub ways-lie : (rs : List Arrival) (r : Arrival) (g next : Region) → next ≡ gives_way (r ∷ []) g → All (LiesBy g) rs → All (LiesBy next) rs
ways-lie rs r g next is h = subst (λ x. All (LiesBy x) rs) (sym is) h
