-- One row out of rows by key, or another for it.
use Rattle.std.proofs.Common.{◌≡◌, ℕ, zero, suc, ◌+◌, ◌-◌, ◌<◌, ◌≤◌, Bool, true, false, cond, not, ◌&&◌, List, [], ◌∷◌, ◌++◌, length, take, drop, refl, sym, ap, ◌∙◌, arith}
use Rattle.std.specs.Prelude.{slice_set, if◌then◌else◌}
use Rattle.std.proofs.lemmas.Bool.Decides.{nat_tests}
use Rattle.sr_cell.specs.declared.cell.Cell.{Cell}
use Rattle.sr_cell.specs.Cells.{Row, cell_at, cell_le}
use Rattle.sr_cell.proofs.Order.{cell_le-trans, cell_eq-sound}
use Rattle.sr_model.specs.SortedRows.{ascend, has_key, with_row}
use Rattle.sr_rows.specs.Places.{place_at}
use Rattle.sr_rows.proofs.Order.{key_lt-le, key_lt-not, is_first, ascend-tail, ascend-first}
use Rattle.sr_rows.proofs.Places.{has_key-place, with_row-place, first-lacks, without-none}
use Rattle.sr_rows.specs.Keys.{without_key}

module _ (key : ℕ) where
  -- ---- the row of a key

  none-behind : (v : Cell) (r : Row) (rows : List Row) → cell_at r key ≡ v → is_first key r rows ≡ true → place_at key v rows ≡ 0
  none-behind v r [] same f = refl
  none-behind v r (s ∷ rows) same f =
      let above : cell_le (cell_at s key) v ≡ false = ap (cell_le (cell_at s key)) (sym same) ∙ key_lt-not key r s (grind arith) in
      rw above refl

  pub place-there : (v : Cell) (rows : List Row) → ascend key rows ≡ true → has_key key v rows ≡ true → 0 < place_at key v rows
  place-there v rows h has = let is = has_key-place key v rows h in grind (arith, nat_tests, is)

  -- the row with the key stands before the place of the key
  pub without-place : (v : Cell) (rows : List Row) (at : ℕ) → ascend key rows ≡ true → has_key key v rows ≡ true → place_at key v rows ≡ suc at
      → without_key key v rows ≡ take at rows ++ drop (suc at) rows
  without-place v [] at h has p = absurd (grind arith)
  without-place v (r ∷ rows) at h has p =
      split (cell_le (cell_at r key) v) refl (cell_le v (cell_at r key)) refl p (λ n own. without-place v rows n tail own)
    where
      tail : ascend key rows ≡ true
      tail = ascend-tail key r rows h

      behind : (n : ℕ) → place_at key v rows ≡ n → has_key key v rows ≡ true
          → ((m : ℕ) → has_key key v rows ≡ true → place_at key v rows ≡ suc m → without_key key v rows ≡ take m rows ++ drop (suc m) rows)
          → r ∷ without_key key v rows ≡ take n (r ∷ rows) ++ drop (suc n) (r ∷ rows)
      behind zero e own ih = let some = place-there v rows tail own in absurd (omega arith)
      behind (suc n) e own ih = ap (λ xs. r ∷ xs) (ih n own e)

      split : (b : Bool) → cell_le (cell_at r key) v ≡ b → (c : Bool) → cell_le v (cell_at r key) ≡ c → cond b (1 + place_at key v rows) 0 ≡ suc at
          → ((n : ℕ) → has_key key v rows ≡ true → place_at key v rows ≡ suc n → without_key key v rows ≡ take n rows ++ drop (suc n) rows)
          → cond (not (b && c)) (r ∷ without_key key v rows) (without_key key v rows) ≡ take at (r ∷ rows) ++ drop (suc at) (r ∷ rows)
      split false d c e q ih = absurd (omega arith)
      split true d false e q ih = let own : has_key key v rows ≡ true = grind (arith, has, e) in behind at (omega arith) own ih
      split true d true e q ih =
          let same = cell_eq-sound (cell_at r key) v (grind arith) in
          let none = none-behind v r rows same (ascend-first key r rows h) in
          let here : at ≡ 0 = omega arith in
          rw here (without-none key v rows (first-lacks key v r rows same (ascend-first key r rows h)))

  -- ---- a row in the place of another

  -- it belongs just behind the other
  pub row-instead : (rows : List Row) (row : Row) (at : ℕ) → place_at key (cell_at row key) rows ≡ suc at
      → with_row key (take at rows ++ drop (suc at) rows) row ≡ slice_set rows at row
  row-instead [] row at p = absurd (omega arith)
  row-instead (r ∷ rows) row at p = split (cell_le (cell_at r key) (cell_at row key)) refl at p (λ n. row-instead rows row n)
    where
      front : (xs : List Row) → place_at key (cell_at row key) xs ≡ 0 → with_row key xs row ≡ row ∷ xs
      front [] q = refl
      front (x ∷ xs) q = go (cell_le (cell_at x key) (cell_at row key)) q
        where
          go : (b : Bool) → cond b (1 + place_at key (cell_at row key) xs) 0 ≡ 0 → (if b then x ∷ with_row key xs row else row ∷ x ∷ xs) ≡ row ∷ x ∷ xs
          go true q = absurd (omega arith)
          go false q = refl

      split : (b : Bool) → cell_le (cell_at r key) (cell_at row key) ≡ b → (n : ℕ) → cond b (1 + place_at key (cell_at row key) rows) 0 ≡ suc n
          → ((m : ℕ) → place_at key (cell_at row key) rows ≡ suc m → with_row key (take m rows ++ drop (suc m) rows) row ≡ slice_set rows m row)
          → with_row key (take n (r ∷ rows) ++ drop (suc n) (r ∷ rows)) row ≡ slice_set (r ∷ rows) n row
      split false d n q ih = absurd (omega arith)
      split true d zero q ih = front rows (omega arith)
      split true d (suc n) q ih = rw d (ap (λ xs. r ∷ xs) (ih n (omega arith)))

  -- it goes behind the other
  pub row-behind : (rows : List Row) (row : Row) (at : ℕ) → at < place_at key (cell_at row key) rows
      → with_row key (take at rows ++ drop (suc at) rows) row ≡ take at (with_row key rows row) ++ drop (suc at) (with_row key rows row)
  row-behind [] row at p = absurd (omega arith)
  row-behind (r ∷ rows) row at p = split (cell_le (cell_at r key) (cell_at row key)) refl at p (λ n. row-behind rows row n)
    where
      split : (b : Bool) → cell_le (cell_at r key) (cell_at row key) ≡ b → (n : ℕ) → n < cond b (1 + place_at key (cell_at row key) rows) 0
          → ((m : ℕ) → m < place_at key (cell_at row key) rows → with_row key (take m rows ++ drop (suc m) rows) row ≡ take m (with_row key rows row) ++ drop (suc m) (with_row key rows row))
          → with_row key (take n (r ∷ rows) ++ drop (suc n) (r ∷ rows)) row
          ≡ take n (if b then r ∷ with_row key rows row else row ∷ r ∷ rows) ++ drop (suc n) (if b then r ∷ with_row key rows row else row ∷ r ∷ rows)
      split false d n q ih = absurd (omega arith)
      split true d zero q ih = refl
      split true d (suc n) q ih = rw d (ap (λ xs. r ∷ xs) (ih n (omega arith)))

  -- no row behind one that is above the row is at most the row
  pub row-front : (r row : Row) (xs : List Row) → is_first key r xs ≡ true → cell_le (cell_at r key) (cell_at row key) ≡ false → with_row key xs row ≡ row ∷ xs
  row-front r row [] f d = refl
  row-front r row (x ∷ xs) f d =
      let t = cell_le-trans (cell_at r key) (cell_at x key) (cell_at row key) (key_lt-le key r x (grind arith)) in
      let n : cell_le (cell_at x key) (cell_at row key) ≡ false = grind (arith, t, d) in
      rw n refl

  -- it goes before the other
  pub row-before : (rows : List Row) (row : Row) (at : ℕ) → ascend key rows ≡ true → at < length rows → place_at key (cell_at row key) rows ≤ at
      → with_row key (take at rows ++ drop (suc at) rows) row ≡ take (suc at) (with_row key rows row) ++ drop (suc (suc at)) (with_row key rows row)
  row-before [] row at h below p = absurd (omega arith)
  row-before (r ∷ rows) row at h below p = split (cell_le (cell_at r key) (cell_at row key)) refl at below p (λ n. row-before rows row n (ascend-tail key r rows h))
    where
      split : (b : Bool) → cell_le (cell_at r key) (cell_at row key) ≡ b → (n : ℕ) → n < length (r ∷ rows) → cond b (1 + place_at key (cell_at row key) rows) 0 ≤ n
          → ((m : ℕ) → m < length rows → place_at key (cell_at row key) rows ≤ m
          → with_row key (take m rows ++ drop (suc m) rows) row ≡ take (suc m) (with_row key rows row) ++ drop (suc (suc m)) (with_row key rows row))
          → with_row key (take n (r ∷ rows) ++ drop (suc n) (r ∷ rows)) row
          ≡ take (suc n) (if b then r ∷ with_row key rows row else row ∷ r ∷ rows) ++ drop (suc (suc n)) (if b then r ∷ with_row key rows row else row ∷ r ∷ rows)
      split true d zero low q ih = absurd (omega arith)
      split true d (suc n) low q ih = rw d (ap (λ xs. r ∷ xs) (ih n (omega arith) (omega arith)))
      split false d zero low q ih = row-front r row rows (ascend-first key r rows h) d
      split false d (suc n) low q ih = rw d refl

  -- ---- the same, as places are counted

  pub without-at : (v : Cell) (rows : List Row) (place : ℕ) → ascend key rows ≡ true → has_key key v rows ≡ true → place ≡ place_at key v rows
      → without_key key v rows ≡ take (place - 1) rows ++ drop (place - 1 + 1) rows
  without-at v rows place h has is =
      let some = place-there v rows h has in
      let next : place - 1 + 1 ≡ suc (place - 1) = omega arith in
      rw next (without-place v rows (place - 1) h has (omega arith))

  -- rows with another row, and then without the one that it is put for
  pub instead : (rows : List Row) (row : Row) (at place : ℕ) → place ≡ place_at key (cell_at row key) rows → place ≡ at + 1
      → slice_set rows at row ≡ with_row key (take at rows ++ drop (at + 1) rows) row
  instead rows row at place is next =
      let one : at + 1 ≡ suc at = omega arith in
      rw one (sym (row-instead rows row at (omega arith)))

  pub put-behind : (rows more : List Row) (row : Row) (at place : ℕ) → place ≡ place_at key (cell_at row key) rows → more ≡ take place rows ++ row ∷ drop place rows → at < place
      → take at more ++ drop (at + 1) more ≡ with_row key (take at rows ++ drop (at + 1) rows) row
  put-behind rows more row at place is put below =
      let one : at + 1 ≡ suc at = omega arith in
      let with : more ≡ with_row key rows row = put ∙ ap (λ n. take n rows ++ row ∷ drop n rows) is ∙ sym (with_row-place key rows row) in
      rw (one, with) (sym (row-behind rows row at (omega arith)))

  pub put-before : (rows more : List Row) (row : Row) (at place : ℕ) → ascend key rows ≡ true → at < length rows → place ≡ place_at key (cell_at row key) rows
      → more ≡ take place rows ++ row ∷ drop place rows → place ≤ at
      → take (at + 1) more ++ drop (at + 1 + 1) more ≡ with_row key (take at rows ++ drop (at + 1) rows) row
  put-before rows more row at place h below is put low =
      let one : at + 1 ≡ suc at = omega arith in
      let two : suc at + 1 ≡ suc (suc at) = omega arith in
      let with : more ≡ with_row key rows row = put ∙ ap (λ n. take n rows ++ row ∷ drop n rows) is ∙ sym (with_row-place key rows row) in
      rw (one, two, with) (sym (row-before rows row at h below (omega arith)))
