-- Lists of rows by key that share a key, or none.
use Rattle.std.proofs.Common.{◌≡◌, ℕ, Bool, true, false, ◌||◌, List, [], ◌∷◌, length, ◌-◌, Some, refl, sym, ap, ◌∙◌, arith}
use Rattle.std.specs.Prelude.{slice_get}
use Rattle.sr_cell.specs.declared.cell.Cell.{Cell}
use Rattle.sr_cell.specs.Cells.{Row, cell_at, cell_le, cell_eq}
use Rattle.sr_cell.proofs.Order.{cell_eq-symm, cell_le-trans}
use Rattle.sr_model.specs.SortedRows.{ascend, has_key}
use Rattle.sr_rows.proofs.Order.{key_lt-le, ascend-tail}
use Rattle.sr_rows.proofs.Places.{has_key-place}
use Rattle.sr_store.specs.Making.{without_keys, shares_key}

module _ (key : ℕ) where
  pub none-shared : (others rows : List Row) → shares_key key others rows ≡ false → rows ≡ without_keys key others rows
  none-shared others [] h = refl
  none-shared others (r ∷ rows) h =
      let one : has_key key (cell_at r key) others ≡ false = grind arith in
      let ih = none-shared others rows (grind arith) in
      rw one (ap (λ xs. r ∷ xs) ih)

  pub none-of-none : (rows : List Row) → shares_key key [] rows ≡ false
  none-of-none [] = refl
  none-of-none (r ∷ rows) = none-of-none rows

  -- a cell that is not above the first row's key is the key of no row
  lacks : (v : Cell) (r : Row) (rows : List Row) → ascend key (r ∷ rows) ≡ true → cell_le (cell_at r key) v ≡ false → has_key key v (r ∷ rows) ≡ false
  lacks v r rows h e = has_key-place key v (r ∷ rows) h ∙ rw e refl

  -- ---- all of one before all of the other

  -- where a cell is not at most the last row's key, nor is it at most the first one's
  first-not : (v : Cell) (r : Row) (rows : List Row) (last : Row) → ascend key (r ∷ rows) ≡ true → slice_get (r ∷ rows) (length rows) ≡ Some last
      → cell_le v (cell_at last key) ≡ false → cell_le v (cell_at r key) ≡ false
  first-not v r [] last h is e = let same : r ≡ last = cc in ap (λ x. cell_le v (cell_at x key)) same ∙ e
  first-not v r (s ∷ rows) last h is e =
      let ih = first-not v s rows last (ascend-tail key r (s ∷ rows) h) is e in
      let le = key_lt-le key r s (grind arith) in
      let t = cell_le-trans v (cell_at r key) (cell_at s key) in
      grind (arith, ih, le, t)

  before : (o r : Row) (others rows : List Row) (last : Row) → ascend key (o ∷ others) ≡ true → ascend key (r ∷ rows) ≡ true → slice_get (r ∷ rows) (length rows) ≡ Some last
      → cell_le (cell_at o key) (cell_at last key) ≡ false → shares_key key (o ∷ others) (r ∷ rows) ≡ false
  before o r others [] last h k is e = rw (lacks (cell_at r key) o others h (first-not (cell_at o key) r [] last k is e)) refl
  before o r others (s ∷ rows) last h k is e =
      rw (lacks (cell_at r key) o others h (first-not (cell_at o key) r (s ∷ rows) last k is e)) (before o s others rows last h (ascend-tail key r (s ∷ rows) k) is e)

  pub none-before : (rows others : List Row) (last first : Row) → ascend key rows ≡ true → ascend key others ≡ true → slice_get rows (length rows - 1) ≡ Some last
      → slice_get others 0 ≡ Some first → cell_le (cell_at first key) (cell_at last key) ≡ false → shares_key key others rows ≡ false
  none-before [] others last first h k is at e = refl
  none-before (r ∷ rows) [] last first h k is at e = none-of-none (r ∷ rows)
  none-before (r ∷ rows) (o ∷ others) last first h k is at e =
      let one : length (r ∷ rows) - 1 ≡ length rows = omega arith in
      let same : o ≡ first = cc in
      before o r others rows last k h (sym (ap (slice_get (r ∷ rows)) one) ∙ is) (ap (λ x. cell_le (cell_at x key) (cell_at last key)) same ∙ e)

  more-others : (o : Row) (others rows : List Row) → shares_key key (o ∷ others) rows ≡ (has_key key (cell_at o key) rows || shares_key key others rows)
  more-others o others [] = refl
  more-others o others (r ∷ rows) =
      go (cell_eq (cell_at o key) (cell_at r key)) (cell_eq (cell_at r key) (cell_at o key)) (has_key key (cell_at r key) others) (has_key key (cell_at o key) rows) (shares_key key others rows)
      (cell_eq-symm (cell_at o key) (cell_at r key)) (more-others o others rows)
    where
      go : (a b c d e : Bool) → a ≡ b → shares_key key (o ∷ others) rows ≡ (d || e) → ((a || c) || shares_key key (o ∷ others) rows) ≡ ((b || d) || (c || e))
      go true true c d e same ih = refl
      go true false c d e same ih = absurd (cc)
      go false true c d e same ih = absurd (cc)
      go false false true true e same ih = refl
      go false false true false e same ih = refl
      go false false false true e same ih = ih
      go false false false false e same ih = ih

  pub shares-symm : (others rows : List Row) → shares_key key others rows ≡ shares_key key rows others
  shares-symm [] rows = none-of-none rows
  shares-symm (o ∷ others) rows = more-others o others rows ∙ ap (λ b. has_key key (cell_at o key) rows || b) (shares-symm others rows)

  -- ---- a walk along both

  pub walk-ends : (rows others : List Row) (b : Bool) → length others ≡ 0 → shares_key key others rows ≡ b → false ≡ b
  walk-ends rows [] b none is = sym (none-of-none rows) ∙ is
  walk-ends rows (o ∷ others) b none is = absurd (omega arith)

  pub walk-row : (xs os : List Row) (r o : Row) (rows others : List Row) (b : Bool) → xs ≡ r ∷ rows → os ≡ o ∷ others → ascend key os ≡ true
      → cell_le (cell_at o key) (cell_at r key) ≡ false → shares_key key os xs ≡ b → shares_key key os rows ≡ b
  walk-row xs os r o rows others b x y h e is =
      ap (λ c. c || shares_key key os rows) (sym (ap (has_key key (cell_at r key)) y ∙ lacks (cell_at r key) o others (sym (ap (ascend key) y) ∙ h) e))
      ∙ (sym (ap (shares_key key os) x) ∙ is)

  pub walk-other : (xs os : List Row) (r o : Row) (rows others : List Row) (b : Bool) → xs ≡ r ∷ rows → os ≡ o ∷ others → ascend key xs ≡ true
      → cell_le (cell_at r key) (cell_at o key) ≡ false → shares_key key os xs ≡ b → shares_key key others xs ≡ b
  walk-other xs os r o rows others b x y h e is =
      ap (λ c. c || shares_key key others xs) (sym (ap (has_key key (cell_at o key)) x ∙ lacks (cell_at o key) r rows (sym (ap (ascend key) x) ∙ h) e))
      ∙ (sym (more-others o others xs) ∙ (sym (ap (λ zs. shares_key key zs xs) y) ∙ is))

  pub walk-tail : (xs : List Row) (r : Row) (rows : List Row) → xs ≡ r ∷ rows → ascend key xs ≡ true → ascend key rows ≡ true
  walk-tail xs r rows x h = ascend-tail key r rows (sym (ap (ascend key) x) ∙ h)
