-- What changes where each row of a table is kept, changed or left out.
use Rattle.std.proofs.Common.{◌≡◌, ℕ, Bool, true, false, cond, not, List, [], ◌∷◌, map, refl, sym, ap, subst, ◌∙◌, arith}
use Rattle.std.specs.Prelude.{filter, Option, Some}
use Rattle.std.specs.List.{list_all, filter_map, AllByRecursion}
use Rattle.sr_cell.specs.declared.change.Change.{Change}
use Rattle.sr_cell.specs.declared.table.Table.{Table}
use Rattle.sr_cell.specs.Cells.{Row, cell_at}
use Rattle.sr_cell.proofs.Lists.{filter-map}
use Rattle.sr_model.specs.SortedRows.{ascend, has_key}
use Rattle.sr_model.specs.Changes.{row_with, same_row, all_keys, table_changes}
use Rattle.sr_tables.proofs.Keys.{KeepsKey, has-own, has-kept, found-kept}

pub map-same : {X Y : Type 0} (f g : X → Y) (xs : List X) → AllByRecursion (λ x. f x ≡ g x) xs → map f xs ≡ map g xs
map-same f g [] all = refl
map-same f g (x ∷ xs) all = let one = all.0 in let ih = map-same f g xs all.1 in cc

pub map-passed : {X Y : Type 0} (f g : X → Y) (p : X → Bool) → ((x : X) → p x ≡ true → f x ≡ g x) → (xs : List X) → map f (filter p xs) ≡ map g (filter p xs)
map-passed f g p same [] = refl
map-passed f g p same (x ∷ xs) = go (p x) refl (map-passed f g p same xs)
  where
    go : (b : Bool) → p x ≡ b → map f (filter p xs) ≡ map g (filter p xs) → map f (cond b (x ∷ filter p xs) (filter p xs)) ≡ map g (cond b (x ∷ filter p xs) (filter p xs))
    go true e ih = let one = same x e in cc
    go false e ih = ih

-- the rows that pass are among those that pass a wider test
pub filter-wider : {X : Type 0} (p q : X → Bool) → ((x : X) → p x ≡ true → q x ≡ true) → (xs : List X) → filter p (filter q xs) ≡ filter p xs
filter-wider p q wider [] = refl
filter-wider p q wider (x ∷ xs) = go (p x) refl (q x) refl (filter-wider p q wider xs)
  where
    go : (a : Bool) → p x ≡ a → (b : Bool) → q x ≡ b → filter p (filter q xs) ≡ filter p xs
        → filter p (cond b (x ∷ filter q xs) (filter q xs)) ≡ cond a (x ∷ filter p xs) (filter p xs)
    go true e true d ih = rw (e, ih) refl
    go true e false d ih = let w = wider x e in absurd (cc)
    go false e true d ih = rw (e, ih) refl
    go false e false d ih = ih

all_keys-same : (key : ℕ) (old news : List Row) → list_all (λ row. has_key key (cell_at row key) old) news ≡ true → all_keys key old news ≡ old
all_keys-same key old [] h = refl
all_keys-same key old (row ∷ news) h =
    let has : has_key key (cell_at row key) old ≡ true = grind arith in
    rw has (all_keys-same key old news (grind arith))

kept-all : (rows : List Row) → filter_map Some rows ≡ rows
kept-all [] = refl
kept-all (row ∷ rows) = ap (λ xs. row ∷ xs) (kept-all rows)

-- what becomes of a row, as a change
abbrev pub change_by : Table → ℕ → (Row → Option Row) → Row → Change
change_by table n g row = record { table = n; key = cell_at row table.key; before = Some row; after = g row }

module _ (table : Table) (n : ℕ) (g : Row → Option Row) where
  abbrev change_to : List Row → List Row → Row → Change
  change_to old news row = record { table = n; key = cell_at row table.key; before = row_with table.key (cell_at row table.key) old; after = row_with table.key (cell_at row table.key) news }

  both : (old news xs : List Row) → AllByRecursion (λ row. row_with table.key (cell_at row table.key) old ≡ Some row) xs
      → AllByRecursion (λ row. row_with table.key (cell_at row table.key) news ≡ g row) xs → AllByRecursion (λ row. change_to old news row ≡ change_by table n g row) xs
  both old news [] own all = tt
  both old news (x ∷ xs) own all = (rw (own.0, all.0) refl, both old news xs own.1 all.1)

  -- the changes are the rows that do not stay as they were
  pub changes-kept : KeepsKey table.key g → (old : List Row) → ascend table.key old ≡ true
      → table_changes table n old (filter_map g old) ≡ map (change_by table n g) (filter (λ row. not (same_row (Some row) (g row))) old)
  changes-kept keeps old h =
      let news : List Row = filter_map g old in
      let own = subst (λ xs. AllByRecursion (λ row. row_with table.key (cell_at row table.key) xs ≡ Some row) old) (kept-all old) (found-kept table.key Some keeps-own old h) in
      ap (λ rows. filter (λ (c : Change). not (same_row c.before c.after)) (map (change_to old news) rows)) (all_keys-same table.key old news (has-kept table.key g keeps old old (has-own table.key old)))
      ∙ ap (λ cs. filter (λ (c : Change). not (same_row c.before c.after)) cs) (map-same (change_to old news) (change_by table n g) old (both old news old own (found-kept table.key g keeps old h)))
      ∙ filter-map (λ (c : Change). not (same_row c.before c.after)) (change_by table n g) old
    where
      keeps-own : KeepsKey table.key Some
      keeps-own row other e = let same : row ≡ other = cc in ap (λ r. cell_at r table.key) (sym same)
