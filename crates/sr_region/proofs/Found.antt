-- What is found among rows by its key.
use Rattle.std.proofs.Common.{◌≡◌, ℕ, Bool, true, false, cond, not, List, [], ◌∷◌, map, refl, sym, ap, subst, ◌∙◌, arith}
use Rattle.std.specs.Prelude.{filter, find, Option, Some, None, if◌then◌else◌}
use Rattle.std.specs.List.{list_all}
use Rattle.sr_cell.specs.declared.cell.Cell.{Cell}
use Rattle.sr_cell.specs.Attrs.{project}
use Rattle.sr_cell.specs.Cells.{Row, cell_at, cell_le, cell_eq}
use Rattle.sr_cell.proofs.Order.{cell_eq-sound, cell_eq-refl, cell_eq-symm}
use Rattle.sr_model.specs.SortedRows.{key_lt, ascend, with_row}
use Rattle.sr_model.specs.Changes.{row_with, same_row}
use Rattle.sr_box.specs.Points.{Rect, in_any}
use Rattle.sr_rows.proofs.Order.{key_lt-not, is_first, ascend-tail, ascend-first, first-ascend}
use Rattle.sr_rows.proofs.Elements.{row_eq-sound}
use Rattle.sr_rows.specs.Keys.{without_key}
use Rattle.sr_rows.proofs.Places.{first-none}
use Rattle.sr_region.specs.Entering.{part_in, with_part}

pub find-passes : {X : Type 0} (p : X → Bool) (xs : List X) (x : X) → find p xs ≡ Some x → p x ≡ true
find-passes p [] x h = absurd (cc)
find-passes p (y ∷ xs) x h = go (p y) refl h (find-passes p xs x)
  where
    go : (b : Bool) → p y ≡ b → cond b (Some y) (find p xs) ≡ Some x → (find p xs ≡ Some x → p x ≡ true) → p x ≡ true
    go true e h ih = let same : y ≡ x = cc in subst (λ z. p z ≡ true) same e
    go false e h ih = ih h

pub find-among : {X : Type 0} (p q : X → Bool) (xs : List X) (x : X) → list_all q xs ≡ true → find p xs ≡ Some x → q x ≡ true
find-among p q [] x all h = absurd (cc)
find-among p q (y ∷ xs) x all h = go (p y) h (find-among p q xs x (grind arith))
  where
    go : (b : Bool) → cond b (Some y) (find p xs) ≡ Some x → (find p xs ≡ Some x → q x ≡ true) → q x ≡ true
    go true h ih = let same : y ≡ x = cc in subst (λ z. q z ≡ true) same (grind (arith, all))
    go false h ih = ih h

-- ---- rows are equal where their cells are

pub same_row-sound : (p q : Option Row) → same_row p q ≡ true → p ≡ q
same_row-sound None None h = refl
same_row-sound None (Some q) h = absurd (cc)
same_row-sound (Some p) None h = absurd (cc)
same_row-sound (Some p) (Some q) h = ap Some (row_eq-sound p q h)

module _ (key : ℕ) where
  -- ---- two ascending lists where the same is found are one

  -- a row of other key than the first is found behind it
  found-behind : (x y : Row) (ys : List Row) → ascend key (y ∷ ys) ≡ true → cell_eq (cell_at y key) (cell_at x key) ≡ false → row_with key (cell_at x key) (y ∷ ys) ≡ Some x → key_lt key y x ≡ true
  found-behind x y ys h other found =
      find-among (λ row. cell_eq (cell_at row key) (cell_at x key)) (λ s. key_lt key y s) ys x (ascend-first key y ys h) (rw other at found)

  found-own : (x : Row) (xs : List Row) → row_with key (cell_at x key) (x ∷ xs) ≡ Some x
  found-own x xs = rw (cell_eq-refl (cell_at x key)) refl

  same-first : (x y : Row) (xs ys : List Row) → ascend key (x ∷ xs) ≡ true → ascend key (y ∷ ys) ≡ true
      → ((v : Cell) → row_with key v (x ∷ xs) ≡ row_with key v (y ∷ ys)) → x ≡ y
  same-first x y xs ys h k same = go (cell_eq (cell_at y key) (cell_at x key)) refl
    where
      is_x : row_with key (cell_at x key) (y ∷ ys) ≡ Some x
      is_x = sym (same (cell_at x key)) ∙ found-own x xs

      is_y : row_with key (cell_at y key) (x ∷ xs) ≡ Some y
      is_y = same (cell_at y key) ∙ found-own y ys

      go : (b : Bool) → cell_eq (cell_at y key) (cell_at x key) ≡ b → x ≡ y
      go true e = let found = rw e at is_x in cc
      go false e =
          let less = found-behind x y ys k e is_x in
          let more = found-behind y x xs h (cell_eq-symm (cell_at x key) (cell_at y key) ∙ e) is_y in
          let n = key_lt-not key y x less in
          absurd (grind (arith, more, n))

  same-rest : (x : Row) (xs ys : List Row) → ascend key (x ∷ xs) ≡ true → ascend key (x ∷ ys) ≡ true
      → ((v : Cell) → row_with key v (x ∷ xs) ≡ row_with key v (x ∷ ys)) → (v : Cell) → row_with key v xs ≡ row_with key v ys
  same-rest x xs ys h k same v = go (cell_eq (cell_at x key) v) refl (same v)
    where
      go : (b : Bool) → cell_eq (cell_at x key) v ≡ b → cond b (Some x) (row_with key v xs) ≡ cond b (Some x) (row_with key v ys) → row_with key v xs ≡ row_with key v ys
      go true e both =
          let own = cell_eq-sound (cell_at x key) v e in
          first-none key v x xs own (ascend-first key x xs h) ∙ sym (first-none key v x ys own (ascend-first key x ys k))
      go false e both = both

  pub same-rows : (xs ys : List Row) → ascend key xs ≡ true → ascend key ys ≡ true → ((v : Cell) → row_with key v xs ≡ row_with key v ys) → xs ≡ ys
  same-rows [] [] h k same = refl
  same-rows [] (y ∷ ys) h k same = let none = same (cell_at y key) ∙ found-own y ys in absurd (cc)
  same-rows (x ∷ xs) [] h k same = let none = sym (same (cell_at x key)) ∙ found-own x xs in absurd (cc)
  same-rows (x ∷ xs) (y ∷ ys) h k same =
      let first = same-first x y xs ys h k same in
      let same_x : (v : Cell) → row_with key v (x ∷ xs) ≡ row_with key v (x ∷ ys) = subst (λ z. (v : Cell) → row_with key v (x ∷ xs) ≡ row_with key v (z ∷ ys)) (sym first) same in
      let k_x : ascend key (x ∷ ys) ≡ true = subst (λ z. ascend key (z ∷ ys) ≡ true) (sym first) k in
      let rest = same-rows xs ys (ascend-tail key x xs h) (ascend-tail key x ys k_x) (same-rest x xs ys h k_x same_x) in
      cc

  -- ---- what is found once a change is applied

  pub found-without : (v w : Cell) (rows : List Row) → row_with key v (without_key key w rows) ≡ (if cell_eq w v then None else row_with key v rows)
  found-without v w [] = go (cell_eq w v) None
    where
      go : (b : Bool) (o : Option Row) → o ≡ (if b then o else o)
      go true o = refl
      go false o = refl
  found-without v w (r ∷ rows) = go (cell_eq (cell_at r key) w) refl (found-without v w rows)
    where
      here : cell_at r key ≡ w → row_with key v (without_key key w rows) ≡ (if cell_eq w v then None else row_with key v rows)
          → row_with key v (without_key key w rows) ≡ (if cell_eq w v then None else cond (cell_eq (cell_at r key) v) (Some r) (row_with key v rows))
      here own ih = ih ∙ subst (λ u. (if cell_eq w v then None else row_with key v rows) ≡ (if cell_eq w v then None else cond (cell_eq u v) (Some r) (row_with key v rows))) (sym own) (both (cell_eq w v))
        where
          both : (b : Bool) → (if b then None else row_with key v rows) ≡ (if b then None else cond b (Some r) (row_with key v rows))
          both true = refl
          both false = refl

      there : (b : Bool) → cell_eq w v ≡ b → cell_eq (cell_at r key) w ≡ false → row_with key v (without_key key w rows) ≡ (if b then None else row_with key v rows)
          → cond (cell_eq (cell_at r key) v) (Some r) (row_with key v (without_key key w rows)) ≡ (if b then None else cond (cell_eq (cell_at r key) v) (Some r) (row_with key v rows))
      there true d e ih = let other : cell_eq (cell_at r key) v ≡ false = ap (cell_eq (cell_at r key)) (sym (cell_eq-sound w v d)) ∙ e in rw other ih
      there false d e ih = rw ih refl

      go : (b : Bool) → cell_eq (cell_at r key) w ≡ b → row_with key v (without_key key w rows) ≡ (if cell_eq w v then None else row_with key v rows)
          → row_with key v (cond (not b) (r ∷ without_key key w rows) (without_key key w rows)) ≡ (if cell_eq w v then None else cond (cell_eq (cell_at r key) v) (Some r) (row_with key v rows))
      go true e ih = here (cell_eq-sound (cell_at r key) w e) ih
      go false e ih = there (cell_eq w v) refl e ih

  pub found-row : (v : Cell) (rows : List Row) (row : Row) → row_with key (cell_at row key) rows ≡ None
      → row_with key v (with_row key rows row) ≡ (if cell_eq (cell_at row key) v then Some row else row_with key v rows)
  found-row v [] row none = refl
  found-row v (r ∷ rows) row none =
      go (cell_le (cell_at r key) (cell_at row key)) (cell_eq (cell_at r key) (cell_at row key)) refl none (found-row v rows row)
    where
      behind : (b : Bool) → cell_eq (cell_at row key) v ≡ b → cell_eq (cell_at r key) (cell_at row key) ≡ false
          → row_with key v (with_row key rows row) ≡ (if b then Some row else row_with key v rows)
          → cond (cell_eq (cell_at r key) v) (Some r) (row_with key v (with_row key rows row)) ≡ (if b then Some row else cond (cell_eq (cell_at r key) v) (Some r) (row_with key v rows))
      behind true d e ih = let other : cell_eq (cell_at r key) v ≡ false = ap (cell_eq (cell_at r key)) (sym (cell_eq-sound (cell_at row key) v d)) ∙ e in rw other ih
      behind false d e ih = rw ih refl

      go : (b c : Bool) → cell_eq (cell_at r key) (cell_at row key) ≡ c → cond c (Some r) (row_with key (cell_at row key) rows) ≡ None
          → (row_with key (cell_at row key) rows ≡ None → row_with key v (with_row key rows row) ≡ (if cell_eq (cell_at row key) v then Some row else row_with key v rows))
          → row_with key v (if b then r ∷ with_row key rows row else row ∷ r ∷ rows)
          ≡ (if cell_eq (cell_at row key) v then Some row else cond (cell_eq (cell_at r key) v) (Some r) (row_with key v rows))
      go b true e own ih = absurd (cc)
      go true false e own ih = behind (cell_eq (cell_at row key) v) refl e (ih own)
      go false false e own ih = refl

  -- the row, if there is one, has the key
  abbrev pub HasKey : Cell → Option Row → Type 0
  HasKey w None = Unit {0}
  HasKey w (Some row) = cell_at row key ≡ w

  pub found-part : (v w : Cell) (rows : List Row) (part : Option Row) → HasKey w part
      → row_with key v (with_part key part (without_key key w rows)) ≡ (if cell_eq w v then part else row_with key v rows)
  found-part v w rows None own = found-without v w rows
  found-part v w rows (Some row) own =
      found-row v (without_key key w rows) row none
      ∙ ap (λ u. if cell_eq u v then Some row else row_with key v (without_key key w rows)) own
      ∙ go (cell_eq w v) (found-without v w rows)
    where
      none : row_with key (cell_at row key) (without_key key w rows) ≡ None
      none = rw own (found-without w w rows ∙ rw (cell_eq-refl w) refl)

      go : (b : Bool) → row_with key v (without_key key w rows) ≡ (if b then None else row_with key v rows)
          → (if b then Some row else row_with key v (without_key key w rows)) ≡ (if b then Some row else row_with key v rows)
      go true e = refl
      go false e = e

-- ---- the part of a table's rows that lies in some rects

module _ (attrs key place : ℕ) (rects : List Rect) (stands : (row : Row) → cell_at (project attrs row) place ≡ cell_at row key) where
  abbrev pub parts_of : List Row → List Row
  parts_of rows = map (project attrs) (filter (in_any rects) rows)

  first-parts : (r : Row) (rows : List Row) → is_first key r rows ≡ true → is_first place (project attrs r) (parts_of rows) ≡ true
  first-parts r [] f = refl
  first-parts r (s ∷ rows) f = go (in_any rects s) (first-parts r rows (grind arith))
    where
      less : key_lt place (project attrs r) (project attrs s) ≡ true
      less = rw (stands r, stands s) (grind (arith, f))

      go : (b : Bool) → is_first place (project attrs r) (parts_of rows) ≡ true → is_first place (project attrs r) (map (project attrs) (cond b (s ∷ filter (in_any rects) rows) (filter (in_any rects) rows))) ≡ true
      go true ih = grind (arith, ih, less)
      go false ih = ih

  pub parts-ascend : (rows : List Row) → ascend key rows ≡ true → ascend place (parts_of rows) ≡ true
  parts-ascend [] h = refl
  parts-ascend (r ∷ rows) h = go (in_any rects r) (parts-ascend rows (ascend-tail key r rows h)) (first-parts r rows (ascend-first key r rows h))
    where
      go : (b : Bool) → ascend place (parts_of rows) ≡ true → is_first place (project attrs r) (parts_of rows) ≡ true
          → ascend place (map (project attrs) (cond b (r ∷ filter (in_any rects) rows) (filter (in_any rects) rows))) ≡ true
      go true ih f = first-ascend place (project attrs r) (parts_of rows) f ih
      go false ih f = ih

  pub found-parts : (v : Cell) (rows : List Row) → ascend key rows ≡ true → row_with place v (parts_of rows) ≡ part_in attrs rects (row_with key v rows)
  found-parts v [] h = refl
  found-parts v (r ∷ rows) h = go (in_any rects r) refl (cell_eq (cell_at r key) v) refl (found-parts v rows (ascend-tail key r rows h))
    where
      go : (b : Bool) → in_any rects r ≡ b → (c : Bool) → cell_eq (cell_at r key) v ≡ c → row_with place v (parts_of rows) ≡ part_in attrs rects (row_with key v rows)
          → row_with place v (map (project attrs) (cond b (r ∷ filter (in_any rects) rows) (filter (in_any rects) rows))) ≡ part_in attrs rects (cond c (Some r) (row_with key v rows))
      go true d true e ih = rw (stands r, e, d) refl
      go true d false e ih = rw (stands r, e) ih
      go false d true e ih = rw d (ih ∙ ap (part_in attrs rects) (first-none key v r rows (cell_eq-sound (cell_at r key) v e) (ascend-first key r rows h)))
      go false d false e ih = ih
