-- Rows that are taken out again; keys of a kind.
use Rattle.std.proofs.Common.{◌≡◌, ℕ, Bool, true, false, cond, not, ◌&&◌, ◌||◌, List, [], ◌∷◌, refl, sym, ap, ◌∙◌, arith}
use Rattle.std.specs.Prelude.{filter}
use Rattle.std.specs.List.{list_all, list_any}
use Rattle.std.proofs.lemmas.List.Elements.{filter_agree}
use Rattle.sr_cell.specs.declared.change.Change.{Change}
use Rattle.sr_cell.specs.Cells.{Row, cell_at, cell_eq}
use Rattle.sr_cell.proofs.Order.{cell_le-refl}
use Rattle.sr_model.specs.SortedRows.{with_row}
use Rattle.sr_rows.specs.Places.{is_apart}
use Rattle.sr_rows.specs.Keys.{without_key}
use Rattle.sr_tables.specs.Added.{added_row, added_rows, is_changed, is_unchanged}
use Rattle.sr_tables.proofs.Changing.{apart-differs, filter-out}

-- ---- the keys of changes, one after another

filter-twice : {X : Type 0} (p q : X → Bool) (xs : List X) → filter p (filter q xs) ≡ filter (λ x. q x && p x) xs
filter-twice p q [] = refl
filter-twice {X} p q (x ∷ xs) = go (q x) (p x) refl (filter-twice p q xs)
  where
    go : (b c : Bool) → p x ≡ c → filter p (filter q xs) ≡ filter (λ x. q x && p x) xs
        → filter p (cond b (x ∷ filter q xs) (filter q xs)) ≡ cond (b && c) (x ∷ filter (λ x. q x && p x) xs) (filter (λ x. q x && p x) xs)
    go true true e ih = rw e (ap (λ ys. x ∷ ys) ih)
    go true false e ih = rw e ih
    go false c e ih = ih

not_either : (a b : Bool) → (not a && not b) ≡ not (a || b)
not_either true b = refl
not_either false b = refl

pub take_next : (key : ℕ) (c : Change) (changes : List Change) (rows : List Row)
    → filter (is_unchanged key changes) (without_key key c.key rows) ≡ filter (is_unchanged key (c ∷ changes)) rows
take_next key c changes rows =
    filter-twice (is_unchanged key changes) (λ row. not (cell_eq (cell_at row key) c.key)) rows
    ∙ filter_agree (λ row. not (cell_eq (cell_at row key) c.key) && is_unchanged key changes row) (is_unchanged key (c ∷ changes))
    (λ row. not_either (cell_eq (cell_at row key) c.key) (list_any (λ (d : Change). cell_eq (cell_at row key) d.key) changes)) rows

filter-all : {X : Type 0} (p : X → Bool) (xs : List X) → list_all p xs ≡ true → filter p xs ≡ xs
filter-all p [] h = refl
filter-all p (x ∷ xs) h = let e : p x ≡ true = grind arith in rw e (ap (λ ys. x ∷ ys) (filter-all p xs (grind arith)))

pub take_none : (key : ℕ) (rows : List Row) → filter (is_unchanged key []) rows ≡ rows
take_none key [] = refl
take_none key (r ∷ rows) = ap (λ xs. r ∷ xs) (take_none key rows)

-- ---- the rows that were there stay, the new ones go

lacks-all : (key : ℕ) (rows : List Row) (row : Row) → is_apart key rows row ≡ true → list_all (λ r. not (cell_eq (cell_at r key) (cell_at row key))) rows ≡ true
lacks-all key [] row h = refl
lacks-all key (r ∷ rows) row h =
    let ih = lacks-all key rows row (grind arith) in
    let one = apart-differs key r row (grind arith) in
    grind (arith, ih, one)

pub old_stay : (t key : ℕ) (rows fresh : List Row) → list_all (is_apart key rows) fresh ≡ true → filter (is_unchanged key (added_rows t key fresh)) rows ≡ rows
old_stay t key rows [] h = take_none key rows
old_stay t key rows (f ∷ fresh) h =
    sym (take_next key (added_row t key f) (added_rows t key fresh) rows)
    ∙ ap (λ xs. filter (is_unchanged key (added_rows t key fresh)) xs)
    (filter-all (λ r. not (cell_eq (cell_at r key) (cell_at f key))) rows (lacks-all key rows f (grind arith)))
    ∙ old_stay t key rows fresh (grind arith)

changed-more : (key : ℕ) (c : Change) (changes : List Change) (rows : List Row) → list_all (is_changed key changes) rows ≡ true → list_all (is_changed key (c ∷ changes)) rows ≡ true
changed-more key c changes [] h = refl
changed-more key c changes (r ∷ rows) h = let ih = changed-more key c changes rows (grind arith) in grind (arith, ih, h)

pub fresh_changed : (t key : ℕ) (fresh : List Row) → list_all (is_changed key (added_rows t key fresh)) fresh ≡ true
fresh_changed t key [] = refl
fresh_changed t key (f ∷ fresh) =
    let ih = changed-more key (added_row t key f) (added_rows t key fresh) fresh (fresh_changed t key fresh) in
    let same = cell_le-refl (cell_at f key) in
    grind (arith, ih, same)

pub fresh_go : (key : ℕ) (changes : List Change) (rows : List Row) (row : Row) → is_changed key changes row ≡ true
    → filter (is_unchanged key changes) (with_row key rows row) ≡ filter (is_unchanged key changes) rows
fresh_go key changes rows row h = filter-out (is_unchanged key changes) key rows row (ap not h)

-- ---- kinds
