-- Rows that come of rows by key ascending, and what is found among them.
use Rattle.std.proofs.Common.{◌≡◌, ℕ, Bool, true, false, not, ◌&&◌, List, [], ◌∷◌, refl, sym, ap, subst, ◌∙◌, ◌↔◌, IsTrue, rules, arith}
use Rattle.std.specs.Prelude.{Option, Some, None}
use Rattle.std.specs.List.{list_all, filter_map, cons_option, AllByRecursion}
use Rattle.sr_cell.specs.declared.cell.Cell.{Cell}
use Rattle.sr_cell.specs.Cells.{Row, cell_at, cell_le, cell_eq}
use Rattle.sr_cell.proofs.Order.{cell_eq-refl}
use Rattle.sr_model.specs.SortedRows.{key_lt, ascend, has_key, row_eq}
use Rattle.sr_model.specs.Changes.{row_with}
use Rattle.sr_rows.proofs.Order.{key_lt-not, is_first, ascend-tail, ascend-first}
use Rattle.sr_rows.proofs.Elements.{row_eq-refl, row_eq-sound}
use Rattle.sr_rows.proofs.Places.{first-none}

-- rows are equal just where their cells are

pub same-rows : (b : Bool) (p q : Row) → (IsTrue b ↔ (p ≡ q)) → b ≡ row_eq p q
same-rows true p q iff = let same : p ≡ q = iff.0 (search rules) in sym (subst (λ r. row_eq p r ≡ true) same (row_eq-refl p))
same-rows false p q iff = go (row_eq p q) refl
  where
    go : (b : Bool) → row_eq p q ≡ b → false ≡ row_eq p q
    go true e = absurd (grind (arith, iff.1 (row_eq-sound p q e)))
    go false e = sym e

-- what becomes of each row has the row's key
abbrev pub KeepsKey : ℕ → (Row → Option Row) → Type 0
KeepsKey key g = (row other : Row) → g row ≡ Some other → cell_at other key ≡ cell_at row key

module _ (key : ℕ) where
  -- a row before others has none of their keys

  pub first-differs : (v w : Cell) (r s : Row) → cell_at r key ≡ v → cell_at s key ≡ w → key_lt key r s ≡ true → cell_eq v w ≡ false
  first-differs v w r s one two h =
      let n = key_lt-not key r s h in
      let le : cell_le w v ≡ false = cc in
      grind (arith, le)

  pub key_lt-same : (r s q : Row) → cell_at q key ≡ cell_at s key → key_lt key r q ≡ key_lt key r s
  key_lt-same r s q same = ap (λ v. cell_le (cell_at r key) v && not (cell_le v (cell_at r key))) same

  -- a row of the same key stands before the same others
  pub first-same : (r q : Row) (xs : List Row) → cell_at r key ≡ cell_at q key → is_first key r xs ≡ true → is_first key q xs ≡ true
  first-same r q [] same f = refl
  first-same r q (x ∷ xs) same f =
      let ih = first-same r q xs same (grind arith) in
      let lt : key_lt key q x ≡ key_lt key r x = ap (λ v. cell_le v (cell_at x key) && not (cell_le (cell_at x key) v)) (sym same) in
      grind (arith, ih, lt)

  -- each row has its own key
  has-more : (r : Row) (rows xs : List Row) → list_all (λ row. has_key key (cell_at row key) rows) xs ≡ true → list_all (λ row. has_key key (cell_at row key) (r ∷ rows)) xs ≡ true
  has-more r rows [] h = refl
  has-more r rows (x ∷ xs) h = let ih = has-more r rows xs (grind arith) in grind (arith, ih, h)

  pub has-own : (rows : List Row) → list_all (λ row. has_key key (cell_at row key) rows) rows ≡ true
  has-own [] = refl
  has-own (r ∷ rows) =
      let ih = has-more r rows rows (has-own rows) in
      let one = cell_eq-refl (cell_at r key) in
      grind (arith, ih, one)

  module _ (g : Row → Option Row) (keeps : KeepsKey key g) where
    pub first-kept : (r : Row) (rows : List Row) → is_first key r rows ≡ true → is_first key r (filter_map g rows) ≡ true
    first-kept r [] f = refl
    first-kept r (s ∷ rows) f = go (g s) refl (first-kept r rows (grind arith))
      where
        go : (o : Option Row) → g s ≡ o → is_first key r (filter_map g rows) ≡ true → is_first key r (cons_option o (filter_map g rows)) ≡ true
        go None e ih = ih
        go (Some q) e ih = let lt : key_lt key r q ≡ true = key_lt-same r s q (keeps s q e) ∙ grind arith in grind (arith, ih, lt)

    pub has-kept : (rows xs : List Row) → list_all (λ row. has_key key (cell_at row key) rows) xs ≡ true
        → list_all (λ row. has_key key (cell_at row key) rows) (filter_map g xs) ≡ true
    has-kept rows [] h = refl
    has-kept rows (x ∷ xs) h = go (g x) refl (has-kept rows xs (grind arith))
      where
        go : (o : Option Row) → g x ≡ o → list_all (λ row. has_key key (cell_at row key) rows) (filter_map g xs) ≡ true
            → list_all (λ row. has_key key (cell_at row key) rows) (cons_option o (filter_map g xs)) ≡ true
        go None e ih = ih
        go (Some q) e ih = let one : has_key key (cell_at q key) rows ≡ true = ap (λ v. has_key key v rows) (keeps x q e) ∙ grind arith in grind (arith, ih, one)

    behind : (r : Row) (news : List Row) (o : Option Row) → g r ≡ o → (xs : List Row) → is_first key r xs ≡ true
        → AllByRecursion (λ row. row_with key (cell_at row key) news ≡ g row) xs
        → AllByRecursion (λ row. row_with key (cell_at row key) (cons_option o news) ≡ g row) xs
    behind r news None e xs f all = all
    behind r news (Some q) e [] f all = tt
    behind r news (Some q) e (x ∷ xs) f all =
        let other : cell_eq (cell_at q key) (cell_at x key) ≡ false = first-differs (cell_at q key) (cell_at x key) r x (sym (keeps r q e)) refl (grind arith) in
        (rw other all.0, behind r news (Some q) e xs (grind arith) all.1)

    -- what became of each row of these is found by its key
    pub found-kept : (rows : List Row) → ascend key rows ≡ true → AllByRecursion (λ row. row_with key (cell_at row key) (filter_map g rows) ≡ g row) rows
    found-kept [] h = tt
    found-kept (r ∷ rows) h =
        let f = ascend-first key r rows h in
        (here (g r) refl, behind r (filter_map g rows) (g r) refl rows f (found-kept rows (ascend-tail key r rows h)))
      where
        here : (o : Option Row) → g r ≡ o → row_with key (cell_at r key) (cons_option o (filter_map g rows)) ≡ o
        here None e = first-none key (cell_at r key) r (filter_map g rows) refl (first-kept r rows (ascend-first key r rows h))
        here (Some q) e =
            let one : cell_eq (cell_at q key) (cell_at r key) ≡ true = ap (λ v. cell_eq v (cell_at r key)) (keeps r q e) ∙ cell_eq-refl (cell_at r key) in
            rw one refl
