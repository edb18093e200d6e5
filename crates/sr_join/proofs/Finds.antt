-- The row of a key among shown rows by key.
use Rattle.std.proofs.Common.{◌≡◌, ℕ, zero, suc, ◌+◌, ◌-◌, ◌<◌, ◌≤◌, Bool, true, false, cond, List, [], ◌∷◌, map, length, get_or, refl, sym, ap, ◌∙◌, arith}
use Rattle.std.proofs.lemmas.Option.{slice_get-get_or}
use Rattle.std.specs.Prelude.{filter, slice_get, slice_index_or, Some, if◌then◌else◌}
use Rattle.std.specs.List.{prefix_len}
use Rattle.std.specs.List.Sorted.{IsPartitionedBy}
use Rattle.sr_cell.specs.declared.cell.Cell.{Cell}
use Rattle.sr_cell.specs.declared.cell.Cell.TheVariants.{Num, Str, Null}
use Rattle.sr_cell.specs.Cells.{Row, cell_eq, cell_le, is_null}
use Rattle.sr_cell.proofs.Order.{cell_le-trans, cell_eq-symm}
use Rattle.sr_model.specs.Conditions.{Eq, passes}
use Rattle.sr_rows.proofs.Order.{key_lt-le, key_lt-not, is_first, ascend-tail, ascend-first}
use Rattle.sr_join.specs.Shown.{Shown, cell_of, are_by}

abbrev keys : ℕ → List Shown → List Row
keys key shown = map (λ s. cell_of key s ∷ []) shown

abbrev key_row : ℕ → Shown → Row
key_row key s = cell_of key s ∷ []

tail-by : (key : ℕ) (s : Shown) (shown : List Shown) → are_by key (s ∷ shown) ≡ true → are_by key shown ≡ true
tail-by key s shown h = ascend-tail 0 (key_row key s) (keys key shown) h

first-by : (key : ℕ) (s : Shown) (shown : List Shown) → are_by key (s ∷ shown) ≡ true → is_first 0 (key_row key s) (keys key shown) ≡ true
first-by key s shown h = ascend-first 0 (key_row key s) (keys key shown) h

-- ---- the search

first_le : (key : ℕ) (v : Cell) (s : Shown) (shown : List Shown) (j : ℕ) (d : Shown) → is_first 0 (key_row key s) (keys key shown) ≡ true → j < length shown
    → cell_le (cell_of key (slice_index_or shown j d)) v ≡ true → cell_le (cell_of key s) v ≡ true
first_le key v s [] j d f below h = absurd (omega arith)
first_le key v s (t ∷ shown) zero d f below h = cell_le-trans (cell_of key s) (cell_of key t) v (key_lt-le 0 (key_row key s) (key_row key t) (grind arith)) h
first_le key v s (t ∷ shown) (suc j) d f below h = first_le key v s shown j d (grind arith) (omega arith) h

pub by-parted : (key : ℕ) (v : Cell) (shown : List Shown) → are_by key shown ≡ true → IsPartitionedBy (λ s. cell_le (cell_of key s) v) shown
by-parted key v [] h i j d le below p = absurd (omega arith)
by-parted key v (s ∷ shown) h zero zero d le below p = p
by-parted key v (s ∷ shown) h zero (suc j) d le below p = first_le key v s shown j d (first-by key s shown h) (omega arith) p
by-parted key v (s ∷ shown) h (suc i) zero d le below p = absurd (omega arith)
by-parted key v (s ∷ shown) h (suc i) (suc j) d le below p = by-parted key v shown (tail-by key s shown h) i j d (omega arith) (omega arith) p

-- ---- what it finds

abbrev pub place : ℕ → Cell → List Shown → ℕ
place key v shown = prefix_len (λ s. cell_le (cell_of key s) v) shown

abbrev pub has : ℕ → Cell → List Shown → List Shown
has key v shown = filter (λ s. cell_eq (cell_of key s) v) shown

none-behind : (key : ℕ) (v : Cell) (s : Shown) (shown : List Shown) → is_first 0 (key_row key s) (keys key shown) ≡ true → cell_le (cell_of key s) v ≡ false → has key v shown ≡ []
none-behind key v s [] f above = refl
none-behind key v s (t ∷ shown) f above =
    let ih = none-behind key v s shown (grind arith) above in
    let less = key_lt-le 0 (key_row key s) (key_row key t) (grind arith) in
    go (cell_le (cell_of key t) v) refl ih less
  where
    go : (b : Bool) → cell_le (cell_of key t) v ≡ b → has key v shown ≡ [] → cell_le (cell_of key s) (cell_of key t) ≡ true → has key v (t ∷ shown) ≡ []
    go true is ih less = let le = cell_le-trans (cell_of key s) (cell_of key t) v less is in absurd (grind (arith, le, above))
    go false is ih less = rw is ih

pub has-none : (key : ℕ) (v : Cell) (shown : List Shown) → are_by key shown ≡ true → place key v shown ≡ 0 → has key v shown ≡ []
has-none key v [] h none = refl
has-none key v (s ∷ shown) h none = go (cell_le (cell_of key s) v) refl none
  where
    go : (b : Bool) → cell_le (cell_of key s) v ≡ b → cond b (1 + place key v shown) 0 ≡ 0 → has key v (s ∷ shown) ≡ []
    go true is none = absurd (omega (arith, none))
    go false is none = rw is (none-behind key v s shown (first-by key s shown h) is)

first-not : (key : ℕ) (v : Cell) (s : Shown) (shown : List Shown) (m : ℕ) → is_first 0 (key_row key s) (keys key shown) ≡ true → place key v shown ≡ suc m → cell_le v (cell_of key s) ≡ false
first-not key v s [] m f is = absurd (omega (arith, is))
first-not key v s (t ∷ shown) m f is =
    let le = cell_le-trans (cell_of key t) v (cell_of key s) in
    let not = key_lt-not 0 (key_row key s) (key_row key t) (grind arith) in
    grind (arith, le, not, is)

-- the row at a place that is one less
abbrev HasLast : ℕ → Cell → Shown → List Shown → Type 0
HasLast key v s shown = (k : ℕ) → place key v shown ≡ suc k → slice_get shown k ≡ Some s → has key v shown ≡ (if cell_le v (cell_of key s) then s ∷ [] else [])

-- the last row that is not above the cell, where it is not below it either
pub has-last : (key : ℕ) (v : Cell) (shown : List Shown) (m : ℕ) (s : Shown) → are_by key shown ≡ true → place key v shown ≡ suc m → slice_get shown m ≡ Some s
    → has key v shown ≡ (if cell_le v (cell_of key s) then s ∷ [] else [])
has-last key v [] m s h is at = absurd (omega (arith, is))
has-last key v (t ∷ shown) m s h is at = go (cell_le (cell_of key t) v) refl is (λ k more at. has-last key v shown k s (tail-by key t shown h) more at)
  where
    one : (n : ℕ) → 1 + n ≡ suc m → n ≡ m
    one n e = omega (arith, e)

    later : (m : ℕ) → place key v shown ≡ m → slice_get (t ∷ shown) m ≡ Some s → cell_le (cell_of key t) v ≡ true → HasLast key v s shown → has key v (t ∷ shown) ≡ (if cell_le v (cell_of key s) then s ∷ [] else [])
    later zero none at le rest =
        let same : t ≡ s = cc in
        let none_left = has-none key v shown (tail-by key t shown h) none in
        rw (le, none_left, same) refl
    later (suc k) more at le rest =
        let above = first-not key v t shown k (first-by key t shown h) more in
        let ih = rest k more at in
        rw (le, above) ih

    go : (b : Bool) → cell_le (cell_of key t) v ≡ b → cond b (1 + place key v shown) 0 ≡ suc m → HasLast key v s shown → has key v (t ∷ shown) ≡ (if cell_le v (cell_of key s) then s ∷ [] else [])
    go true le is rest = later m (one (place key v shown) is) at le rest
    go false above is rest = absurd (omega (arith, is))

-- ---- as the search tells it

got : (shown : List Shown) (m : ℕ) (s : Shown) → suc m ≤ length shown → s ≡ get_or shown (suc m - 1) s → slice_get shown m ≡ Some s
got shown m s within is =
    let less : suc m - 1 ≡ m = omega arith in
    let same : s ≡ get_or shown m s = is ∙ ap (λ i. get_or shown i s) less in
    slice_get-get_or shown m s (omega (arith, within)) ∙ ap (λ t. Some t) (sym same)

same-some : (s t : Shown) → Some s ≡ Some t → s ≡ t
same-some s t e = cc

-- the row before the place is the one
pub found-last : (key : ℕ) (v : Cell) (shown : List Shown) (n : ℕ) (s t r : Shown) (b : Bool) → are_by key shown ≡ true → n ≡ place key v shown → 0 < n → n ≤ length shown
    → s ≡ get_or shown (n - 1) s → t ≡ get_or shown (n - 1) t → r ≡ t → b ≡ cell_le v (cell_of key s) → b ≡ true → r ∷ [] ≡ has key v shown
found-last key v shown zero s t r b h at some within one two is le holds = absurd (omega (arith, some))
found-last key v shown (suc m) s t r b h at some within one two is le holds =
    let first = got shown m s within one in
    let same = same-some s t (sym first ∙ got shown m t within two) in
    let whole = has-last key v shown m s h (sym at) first in
    ap (λ r. r ∷ []) (is ∙ sym same) ∙ sym (whole ∙ ap (λ b. if b then s ∷ [] else []) (sym le ∙ holds))

-- the row before the place is below the cell
pub missed-last : (key : ℕ) (v : Cell) (shown : List Shown) (n : ℕ) (s : Shown) (b : Bool) → are_by key shown ≡ true → n ≡ place key v shown → 0 < n → n ≤ length shown
    → s ≡ get_or shown (n - 1) s → b ≡ cell_le v (cell_of key s) → b ≡ false → [] ≡ has key v shown
missed-last key v shown zero s b h at some within one le fails = absurd (omega (arith, some))
missed-last key v shown (suc m) s b h at some within one le fails =
    sym (has-last key v shown m s h (sym at) (got shown m s within one) ∙ ap (λ b. if b then s ∷ [] else []) (sym le ∙ fails))

-- no row is before the place
pub found-none : (key : ℕ) (v : Cell) (shown : List Shown) (n : ℕ) → are_by key shown ≡ true → n ≡ place key v shown → n ≤ 0 → [] ≡ has key v shown
found-none key v shown n h at none = let zeros : place key v shown ≡ 0 = omega (arith, at, none) in sym (has-none key v shown h zeros)

-- ---- keys that a cell equals

equal-is : (v w : Cell) → is_null v ≡ false → cell_eq w v ≡ passes (Eq w) v
equal-is (Num n) w known = cell_eq-symm w (Num n)
equal-is (Str s) w known = cell_eq-symm w (Str s)
equal-is Null w known = absurd cc

-- a cell that is not Null equals the keys that are the same cell
pub known-equal : (key : ℕ) (v : Cell) (shown : List Shown) → is_null v ≡ false → has key v shown ≡ filter (λ s. passes (Eq (cell_of key s)) v) shown
known-equal key v [] known = refl
known-equal key v (s ∷ shown) known =
    ap (λ b. if b then s ∷ has key v shown else has key v shown) (equal-is v (cell_of key s) known)
    ∙ ap (λ rest. if passes (Eq (cell_of key s)) v then s ∷ rest else rest) (known-equal key v shown known)

-- Null equals none
pub none-equal : (key : ℕ) (v : Cell) (shown : List Shown) → is_null v ≡ true → [] ≡ filter (λ s. passes (Eq (cell_of key s)) v) shown
none-equal key (Num n) shown null = absurd cc
none-equal key (Str s) shown null = absurd cc
none-equal key Null [] null = refl
none-equal key Null (s ∷ shown) null = none-equal key Null shown null
