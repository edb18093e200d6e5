-- What a DELETE makes of rows by key ascending.
use Rattle.std.proofs.Common.{◌≡◌, ℕ, Bool, true, false, cond, not, List, [], ◌∷◌, map, refl, sym, ap, ◌∙◌, arith}
use Rattle.std.specs.Prelude.{filter, fold, Option, Some, None, if◌then◌else◌}
use Rattle.std.specs.List.{filter_map, cons_option}
use Rattle.std.proofs.lemmas.List.Elements.{filter_agree}
use Rattle.sr_cell.specs.declared.table.Table.{Table}
use Rattle.sr_cell.specs.Cells.{Row, cell_at, cell_eq}
use Rattle.sr_cell.proofs.Order.{cell_eq-refl}
use Rattle.sr_model.specs.SortedRows.{ascend}
use Rattle.sr_model.specs.Changes.{table_changes, same_row}
use Rattle.sr_rows.proofs.Order.{is_first, ascend-tail, ascend-first}
use Rattle.sr_rows.proofs.Elements.{row_eq-refl}
use Rattle.sr_rows.specs.Keys.{without_key}
use Rattle.sr_rows.proofs.Places.{first-lacks, without-none}
use Rattle.sr_tables.proofs.Keys.{first-differs}
use Rattle.sr_tables.proofs.Kept.{change_by, changes-kept, map-passed}

module _ (p : Row → Bool) where
  abbrev left : Row → Option Row
  left row = if p row then None else Some row

  left-kept : (rows : List Row) → filter_map left rows ≡ filter (λ row. not (p row)) rows
  left-kept [] = refl
  left-kept (r ∷ rows) = go (p r) (left-kept rows)
    where
      go : (b : Bool) → filter_map left rows ≡ filter (λ row. not (p row)) rows
          → cons_option (if b then None else Some r) (filter_map left rows) ≡ cond (not b) (r ∷ filter (λ row. not (p row)) rows) (filter (λ row. not (p row)) rows)
      go true ih = ih
      go false ih = ap (λ xs. r ∷ xs) ih

  left-same : (row other : Row) → left row ≡ Some other → row ≡ other
  left-same row other = go (p row)
    where
      go : (b : Bool) → (if b then None else Some row) ≡ Some other → row ≡ other
      go true e = absurd (cc)
      go false e = cc

  left-differs : (row : Row) → not (same_row (Some row) (left row)) ≡ p row
  left-differs row = go (p row)
    where
      go : (b : Bool) → not (same_row (Some row) (if b then None else Some row)) ≡ b
      go true = refl
      go false = let e = row_eq-refl row in rw e refl

  -- the changes are the rows that are left out
  pub changes-filter : (table : Table) (n : ℕ) (old : List Row) → ascend table.key old ≡ true
      → table_changes table n old (filter (λ row. not (p row)) old)
      ≡ map (λ row. record { table = n; key = cell_at row table.key; before = Some row; after = None }) (filter p old)
  changes-filter table n old h =
      ap (λ news. table_changes table n old news) (sym (left-kept old))
      ∙ changes-kept table n left (λ row other e. ap (λ r. cell_at r table.key) (sym (left-same row other e))) old h
      ∙ ap (λ rows. map (change_by table n left) rows) (filter_agree (λ row. not (same_row (Some row) (left row))) p left-differs old)
      ∙ map-passed (change_by table n left) (λ row. record { table = n; key = cell_at row table.key; before = Some row; after = None }) p
      (λ row e. let none : left row ≡ None = rw e refl in ap (λ o. record { table = n; key = cell_at row table.key; before = Some row; after = o }) none) old

  module _ (key : ℕ) where
    first-passed : (r : Row) (rows : List Row) → is_first key r rows ≡ true → is_first key r (filter p rows) ≡ true
    first-passed r [] h = refl
    first-passed r (s ∷ rows) h = go (p s) (first-passed r rows (grind arith))
      where
        go : (b : Bool) → is_first key r (filter p rows) ≡ true → is_first key r (cond b (s ∷ filter p rows) (filter p rows)) ≡ true
        go true ih = grind (arith, ih)
        go false ih = ih

    without-behind : (r : Row) (rows gone : List Row) → is_first key r gone ≡ true
        → fold (λ xs row. without_key key (cell_at row key) xs) (r ∷ rows) gone ≡ r ∷ fold (λ xs row. without_key key (cell_at row key) xs) rows gone
    without-behind r rows [] h = refl
    without-behind r rows (m ∷ gone) h =
        let n : cell_eq (cell_at r key) (cell_at m key) ≡ false = first-differs key (cell_at r key) (cell_at m key) r m refl refl (grind arith) in
        rw n (without-behind r (without_key key (cell_at m key) rows) gone (grind arith))

    -- the rows that pass are taken out one after another, by their keys
    pub without-each : (rows : List Row) → ascend key rows ≡ true
        → fold (λ xs row. without_key key (cell_at row key) xs) rows (filter p rows) ≡ filter (λ row. not (p row)) rows
    without-each [] h = refl
    without-each (r ∷ rows) h = go (p r) (without-each rows (ascend-tail key r rows h))
      where
        go : (b : Bool) → fold (λ xs row. without_key key (cell_at row key) xs) rows (filter p rows) ≡ filter (λ row. not (p row)) rows
            → fold (λ xs row. without_key key (cell_at row key) xs) (r ∷ rows) (cond b (r ∷ filter p rows) (filter p rows))
            ≡ cond (not b) (r ∷ filter (λ row. not (p row)) rows) (filter (λ row. not (p row)) rows)
        go true ih =
            let one = cell_eq-refl (cell_at r key) in
            let none = without-none key (cell_at r key) rows (first-lacks key (cell_at r key) r rows refl (ascend-first key r rows h)) in
            let step : without_key key (cell_at r key) (r ∷ rows) ≡ rows = rw one none in
            ap (λ xs. fold (λ ys row. without_key key (cell_at row key) ys) xs (filter p rows)) step ∙ ih
        go false ih = without-behind r rows (filter p rows) (first-passed r rows (ascend-first key r rows h)) ∙ ap (λ xs. r ∷ xs) ih
