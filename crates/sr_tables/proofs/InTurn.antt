-- Rows that are found rect by rect are all that lie in the rects.
use Rattle.std.proofs.Common.{◌≡◌, ℕ, ◌+◌, ◌<◌, Bool, true, false, cond, ◌||◌, List, [], ◌∷◌, ◌++◌, length, take, get_or, refl, sym, ap, subst, ◌∙◌, arith}
use Rattle.std.specs.Prelude.{filter, Option, Some, None}
use Rattle.std.proofs.lemmas.Bool.{or_left, or_right}
use Rattle.sr_cell.specs.declared.cell.Cell.{Cell}
use Rattle.sr_cell.specs.Cells.{Row, cell_at, cell_le}
use Rattle.sr_cell.proofs.Order.{cell_le-trans}
use Rattle.sr_box.specs.Points.{Rect, in_rect, in_any}
use Rattle.sr_model.specs.SortedRows.{ascend}
use Rattle.sr_rows.proofs.Order.{is_first, key_lt-le, ascend-first, ascend-tail}
use Rattle.sr_keyed.specs.Keyed.{is_between}
use Rattle.sr_tables.specs.Turns.{is_at_last}
use Rattle.sr_tables.proofs.Ends.{is_between-both, of-next}
use Rattle.sr_tables.proofs.Kept.{filter-wider}

-- what is below a cell that is at most the last one is so too
at-last-below : (last : Option Cell) (a b : Cell) → cell_le a b ≡ true → is_at_last last b ≡ true → is_at_last last a ≡ true
at-last-below None a b below h = absurd cc
at-last-below (Some last) a b below h = cell_le-trans a b last below h

-- what is not below a cell that is not at most the last one is above it
pub above-last : (last : Option Cell) (w low v : Cell) → last ≡ Some w → cell_le low w ≡ false → cell_le low v ≡ true → is_at_last last v ≡ false
above-last last w low v is off le = subst (λ (o : Option Cell). is_at_last o v ≡ false) (sym is) (go (cell_le v w) refl)
  where
    go : (b : Bool) → cell_le v w ≡ b → cell_le v w ≡ false
    go true at = absurd (let on = cell_le-trans low v w le at in let no : true ≡ false = sym on ∙ off in cc no)
    go false at = at

pub within-last : (last : Option Cell) (w high v : Cell) → last ≡ Some w → cell_le w high ≡ true → is_at_last last v ≡ true → cell_le v high ≡ true
within-last last w high v is le at = cell_le-trans v w high (subst (λ (o : Option Cell). is_at_last o v ≡ true) is at) le

-- ---- rows of two tests, of which one passes those up to a cell alone, and the other those above it

module _ (key : ℕ) (last : Option Cell) (p q : Row → Bool) (within : (row : Row) → p row ≡ true → is_at_last last (cell_at row key) ≡ true) (above : (row : Row) → q row ≡ true → is_at_last last (cell_at row key) ≡ false) where
  none-later : (r : Row) (rows : List Row) → is_first key r rows ≡ true → is_at_last last (cell_at r key) ≡ false → filter p rows ≡ []
  none-later r [] first out = refl
  none-later r (s ∷ rows) first out = go (p s) refl (none-later r rows (grind arith) out)
    where
      go : (a : Bool) → p s ≡ a → filter p rows ≡ [] → cond a (s ∷ filter p rows) (filter p rows) ≡ []
      go true is ih =
          let le : cell_le (cell_at r key) (cell_at s key) ≡ true = key_lt-le key r s (grind arith) in
          absurd (let back = at-last-below last (cell_at r key) (cell_at s key) le (within s is) in let no : true ≡ false = sym back ∙ out in cc no)
      go false is ih = ih

  beside : (rows : List Row) → ascend key rows ≡ true → filter p rows ++ filter q rows ≡ filter (λ row. p row || q row) rows
  beside [] order = refl
  beside (r ∷ rows) order = go (p r) refl (q r) refl (beside rows (ascend-tail key r rows order))
    where
      go : (a : Bool) → p r ≡ a → (b : Bool) → q r ≡ b → filter p rows ++ filter q rows ≡ filter (λ row. p row || q row) rows
          → cond a (r ∷ filter p rows) (filter p rows) ++ cond b (r ∷ filter q rows) (filter q rows)
          ≡ cond (a || b) (r ∷ filter (λ row. p row || q row) rows) (filter (λ row. p row || q row) rows)
      go true is true other ih = absurd (let no : true ≡ false = sym (within r is) ∙ above r other in cc no)
      go true is false other ih = ap (λ (xs : List Row). r ∷ xs) ih
      go false is true other ih =
          let none = none-later r rows (ascend-first key r rows order) (above r other) in
          ap (λ (xs : List Row). xs ++ r ∷ filter q rows) none ∙ ap (λ (xs : List Row). r ∷ xs) (sym (ap (λ (xs : List Row). xs ++ filter q rows) none) ∙ ih)
      go false is false other ih = ih

-- ---- what was found for the rects so far

-- Those of the rows that pass a test: all in these rects, and none above the last cell.
pub record IsFound (key : ℕ) (rows found : List Row) (rects : List Rect) (last : Option Cell) : Type 0 where
  pub passes : Row → Bool
  pub are : found ≡ filter passes rows
  pub within : (row : Row) → passes row ≡ true → is_at_last last (cell_at row key) ≡ true
  pub all : (row : Row) → in_any rects row ≡ true → passes row ≡ true

none-pass : (rows : List Row) → filter (λ (row : Row). false) rows ≡ []
none-pass [] = refl
none-pass (row ∷ rows) = none-pass rows

pub found-none : (key : ℕ) (rows : List Row) → IsFound key rows [] [] None
found-none key rows = record { passes = λ row. false; are = sym (none-pass rows); within = λ row is. absurd cc; all = λ row is. absurd cc }

module _ (key : ℕ) (rows found more : List Row) (rects : List Rect) (i : ℕ) (r : Rect) (last : Option Cell) (low high : Cell) where
  abbrev Here : Row → Bool
  Here row = is_between key (Some low) (Some high) row

  -- and for one rect more
  pub found-more : i < length rects → r ≡ get_or rects i r → ascend key rows ≡ true → IsFound key rows found (take i rects) last
      → ((row : Row) → in_rect r row ≡ true → cell_le low (cell_at row key) ≡ true) → ((row : Row) → in_rect r row ≡ true → cell_le (cell_at row key) high ≡ true)
      → ((v : Cell) → cell_le low v ≡ true → is_at_last last v ≡ false) → ((v : Cell) → is_at_last last v ≡ true → cell_le v high ≡ true)
      → more ≡ filter Here rows → IsFound key rows (found ++ more) (take (i + 1) rects) (Some high)
  found-more inside is order f lows highs above further more_is = record {
    passes = λ row. f.passes row || Here row;
    are = ap (λ (xs : List Row). xs ++ more) f.are ∙ (ap (λ (xs : List Row). filter f.passes rows ++ xs) more_is ∙ beside key last f.passes Here f.within (λ row here. above (cell_at row key) (from row here)) rows order);
    within = λ row passes. go row (f.passes row) refl passes;
    all = λ row among. of-next rects i r row (f.passes row || Here row) inside is (λ first. or_left (f.passes row) (Here row) (f.all row first))
        (λ own. or_right (f.passes row) (Here row) (is_between-both key (Some low) (Some high) row (lows row own) (highs row own))) among;
  }
    where
      from : (row : Row) → Here row ≡ true → cell_le low (cell_at row key) ≡ true
      from row here = grind arith

      go : (row : Row) (a : Bool) → f.passes row ≡ a → (a || Here row) ≡ true → cell_le (cell_at row key) high ≡ true
      go row true is passes = further (cell_at row key) (f.within row is)
      go row false is passes = grind arith

-- so those in the rects are found
pub found-all : (key : ℕ) (rows found : List Row) (rects : List Rect) (last : Option Cell) → IsFound key rows found rects last → filter (in_any rects) found ≡ filter (in_any rects) rows
found-all key rows found rects last f = ap (filter (in_any rects)) f.are ∙ filter-wider (in_any rects) f.passes f.all rows
