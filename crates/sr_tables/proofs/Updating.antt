-- What an UPDATE makes of rows by key ascending.
use Rattle.std.proofs.Common.{◌≡◌, ℕ, Bool, true, false, cond, not, List, [], ◌∷◌, map, refl, sym, ap, ◌∙◌, arith}
use Rattle.std.specs.Prelude.{filter, fold, Some}
use Rattle.std.specs.List.{filter_map}
use Rattle.sr_cell.specs.declared.table.Table.{Table}
use Rattle.sr_cell.specs.Cells.{Row, cell_at, cell_eq}
use Rattle.sr_cell.proofs.Order.{cell_eq-refl}
use Rattle.sr_model.specs.SortedRows.{key_lt, ascend, has_key, row_eq}
use Rattle.sr_model.specs.Changes.{table_changes}
use Rattle.sr_rows.proofs.Order.{is_first, ascend-tail, ascend-first}
use Rattle.sr_rows.proofs.Places.{first-lacks}
use Rattle.sr_keyed.specs.Keyed.{with_replaced}
use Rattle.sr_tables.proofs.Keys.{KeepsKey, key_lt-same, first-same, first-differs}
use Rattle.sr_tables.proofs.Kept.{changes-kept}

map-kept : (f : Row → Row) (rows : List Row) → filter_map (λ row. Some (f row)) rows ≡ map f rows
map-kept f [] = refl
map-kept f (row ∷ rows) = ap (λ xs. f row ∷ xs) (map-kept f rows)

module _ (key : ℕ) (f : Row → Row) (same : (row : Row) → cell_at (f row) key ≡ cell_at row key) where
  keeps : KeepsKey key (λ row. Some (f row))
  keeps row other e = let is : f row ≡ other = cc in ap (λ r. cell_at r key) (sym is) ∙ same row

  first-changed : (p : Row → Bool) (r : Row) (rows : List Row) → is_first key r rows ≡ true → is_first key r (map f (filter p rows)) ≡ true
  first-changed p r [] h = refl
  first-changed p r (s ∷ rows) h = go (p s) (first-changed p r rows (grind arith))
    where
      go : (b : Bool) → is_first key r (map f (filter p rows)) ≡ true → is_first key r (map f (cond b (s ∷ filter p rows) (filter p rows))) ≡ true
      go true ih = let lt : key_lt key r (f s) ≡ true = key_lt-same key r s (f s) (same s) ∙ grind arith in grind (arith, ih, lt)
      go false ih = ih

  -- no row of these has the key of the row that replaces
  replaced-none : (row : Row) (rows : List Row) → has_key key (cell_at row key) rows ≡ false → with_replaced key row rows ≡ rows
  replaced-none row [] h = refl
  replaced-none row (r ∷ rows) h =
      let n : cell_eq (cell_at r key) (cell_at row key) ≡ false = grind arith in
      rw n (ap (λ xs. r ∷ xs) (replaced-none row rows (grind arith)))

  -- rows with other keys leave the first one as it is
  replaced-behind : (r : Row) (rows news : List Row) → is_first key r news ≡ true
      → fold (λ xs row. with_replaced key row xs) (r ∷ rows) news ≡ r ∷ fold (λ xs row. with_replaced key row xs) rows news
  replaced-behind r rows [] h = refl
  replaced-behind r rows (m ∷ news) h =
      let n : cell_eq (cell_at r key) (cell_at m key) ≡ false = first-differs key (cell_at r key) (cell_at m key) r m refl refl (grind arith) in
      rw n (replaced-behind r (with_replaced key m rows) news (grind arith))

  -- the changed rows one after another in the place of those with their keys
  pub replaced-each : (p : Row → Bool) → ((row : Row) → p row ≡ false → f row ≡ row) → (rows : List Row) → ascend key rows ≡ true
      → fold (λ xs row. with_replaced key row xs) rows (map f (filter p rows)) ≡ map f rows
  replaced-each p stays [] h = refl
  replaced-each p stays (r ∷ rows) h = go (p r) refl (replaced-each p stays rows (ascend-tail key r rows h))
    where
      f1 : is_first key r rows ≡ true
      f1 = ascend-first key r rows h

      go : (b : Bool) → p r ≡ b → fold (λ xs row. with_replaced key row xs) rows (map f (filter p rows)) ≡ map f rows
          → fold (λ xs row. with_replaced key row xs) (r ∷ rows) (map f (cond b (r ∷ filter p rows) (filter p rows))) ≡ f r ∷ map f rows
      go true e ih =
          let one : cell_eq (cell_at r key) (cell_at (f r) key) ≡ true = ap (cell_eq (cell_at r key)) (same r) ∙ cell_eq-refl (cell_at r key) in
          let none = replaced-none (f r) rows (first-lacks key (cell_at (f r) key) r rows (sym (same r)) f1) in
          let behind = replaced-behind (f r) rows (map f (filter p rows)) (first-same key r (f r) (map f (filter p rows)) (sym (same r)) (first-changed p r rows f1)) in
          let step : with_replaced key (f r) (r ∷ rows) ≡ f r ∷ rows = rw one (ap (λ xs. f r ∷ xs) none) in
          ap (λ ys. fold (λ xs row. with_replaced key row xs) ys (map f (filter p rows))) step ∙ behind ∙ ap (λ xs. f r ∷ xs) ih
      go false e ih = replaced-behind r rows (map f (filter p rows)) (first-changed p r rows f1) ∙ ap (λ xs. r ∷ xs) ih ∙ ap (λ x. x ∷ map f rows) (sym (stays r e))

-- the changes are the rows that become others
pub changes-map : (table : Table) (n : ℕ) (f : Row → Row) → ((row : Row) → cell_at (f row) table.key ≡ cell_at row table.key) → (old : List Row) → ascend table.key old ≡ true
    → table_changes table n old (map f old)
    ≡ map (λ row. record { table = n; key = cell_at row table.key; before = Some row; after = Some (f row) }) (filter (λ row. not (row_eq row (f row))) old)
changes-map table n f same old h =
    ap (λ news. table_changes table n old news) (sym (map-kept f old)) ∙ changes-kept table n (λ row. Some (f row)) (keeps table.key f same) old h
