-- What tallies tell, in whatever order their rows came.
use Rattle.std.proofs.Common.{◌≡◌, ℕ, ℤ, pos, ◌+◌, ◌+ℤ◌, ◌≤◌, ◌<◌, ◌^◌, Bool, true, false, List, [], ◌∷◌, length, fold, refl, ap, subst, ◌∙◌, arith}
use Rattle.std.specs.Prelude.{Option, Some, None, if◌then◌else◌}
use Rattle.std.specs.declared.cmp.Ordering.{Ordering}
use Rattle.std.specs.declared.cmp.Ordering.TheVariants.{Less, Equal, Greater}
use Rattle.std.specs.Ordering.{is_gt}
use Rattle.std.proofs.lemmas.Int.{ints}
use Rattle.sr_cell.specs.declared.cell.Cell.{Cell}
use Rattle.sr_cell.specs.declared.cell.Cell.TheVariants.{Num}
use Rattle.sr_cell.specs.Cells.{Row, cell_at, is_null}
use Rattle.sr_agg.specs.declared.item.Function.TheVariants as functions
use Rattle.sr_agg.specs.declared.item.Item.{Item}
use Rattle.sr_agg.specs.declared.item.Item.TheVariants as items
use Rattle.sr_agg.specs.declared.tally.Tally.{Tally}
use Rattle.sr_agg.specs.declared.tally.Tally.TheVariants.{Grouping, Rows, Count, Sum, Min, Max}
use Rattle.sr_agg.specs.Tallies.{with_row, tally_of, count_in, told_by, told_of_total}
use Rattle.sr_agg.specs.Groups.{Key, cell_order, greater, if_any, lesser, nearest, number_in, told_at, told_of, total, column_values}
use Rattle.sr_agg.proofs.Order.{cell-total, cell-exact, above, gt-trans}
use Rattle.sr_agg.proofs.Bags.{IsEitherFirst}

-- ---- one of two cells

abbrev kept : (Cell → Cell → Bool) → Option Cell → Cell → Option Cell
kept gt None v = Some v
kept gt (Some w) v = if gt w v then Some v else Some w

module _ (gt : Cell → Cell → Bool) (asym : (x y : Cell) → gt x y ≡ true → gt y x ≡ false) (trans : (x y z : Cell) → gt x y ≡ true → gt y z ≡ true → gt x z ≡ true)
    (same : (x y : Cell) → gt x y ≡ false → gt y x ≡ false → x ≡ y) where
  of-two : (a b : Cell) → kept gt (Some a) b ≡ kept gt (Some b) a
  of-two a b = by (gt a b) refl (gt b a) refl
    where
      by : (p : Bool) → gt a b ≡ p → (q : Bool) → gt b a ≡ q → kept gt (Some a) b ≡ kept gt (Some b) a
      by true e true f = let k = asym a b e in absurd cc
      by true e false f = rw (e, f) refl
      by false e true f = rw (e, f) refl
      by false e false f = rw (e, f) (ap Some (same a b e f))

  kept-either : IsEitherFirst (kept gt)
  kept-either None a b = of-two a b
  kept-either (Some w) a b = by (gt w a) refl (gt w b) refl
    where
      by : (p : Bool) → gt w a ≡ p → (q : Bool) → gt w b ≡ q → kept gt (kept gt (Some w) a) b ≡ kept gt (kept gt (Some w) b) a
      by true e true f = simp (e, f) (of-two a b)
      by true e false f = simp (e, f) (least (gt a b) refl)
        where
          least : (r : Bool) → gt a b ≡ r → kept gt (Some a) b ≡ Some a
          least true g = let k = trans w a b e g in absurd cc
          least false g = rw g refl
      by false e true f = simp (e, f) (least (gt b a) refl)
        where
          least : (r : Bool) → gt b a ≡ r → Some b ≡ kept gt (Some b) a
          least true g = let k = trans w b a f g in absurd cc
          least false g = rw g refl
      by false e false f = simp (e, f) refl

is-above : (p : Ordering) → is_gt p ≡ true → p ≡ Greater
is-above Less h = absurd cc
is-above Equal h = absurd cc
is-above Greater h = refl

abbrev behind : Cell → Cell → Bool
behind x y = is_gt (cell_order x y)

behind-asym : (x y : Cell) → behind x y ≡ true → behind y x ≡ false
behind-asym x y h = let e = is-above (cell_order x y) h in rw (cell-total.antisymm y x, e) refl

behind-trans : (x y z : Cell) → behind x y ≡ true → behind y z ≡ true → behind x z ≡ true
behind-trans x y z h k = ap is_gt (gt-trans cell-total x y z (is-above (cell_order x y) h) (is-above (cell_order y z) k))

behind-same : (x y : Cell) → behind x y ≡ false → behind y x ≡ false → x ≡ y
behind-same x y h k = by (cell_order x y) refl
  where
    by : (p : Ordering) → cell_order x y ≡ p → x ≡ y
    by Less e = let f : behind y x ≡ true = ap is_gt (above cell-total x y e) in absurd cc
    by Equal e = cell-exact x y e
    by Greater e = let f : behind x y ≡ true = ap is_gt e in absurd cc

lesser-is : (o : Option Cell) (v : Cell) → kept behind o v ≡ lesser o v
lesser-is None v = refl
lesser-is (Some w) v = refl

greater-is : (o : Option Cell) (v : Cell) → kept (λ x y. behind y x) o v ≡ greater o v
greater-is None v = refl
greater-is (Some w) v = refl

lesser-either : IsEitherFirst lesser
lesser-either = subst IsEitherFirst (λ i o v. lesser-is o v i) (kept-either behind behind-asym behind-trans behind-same)

greater-either : IsEitherFirst greater
greater-either =
    subst IsEitherFirst (λ i o v. greater-is o v i)
    (kept-either (λ x y. behind y x) (λ x y h. behind-asym y x h) (λ x y z h k. behind-trans z y x k h) (λ x y h k. behind-same x y k h))

-- ---- a tally

sum-either : (z n m : ℤ) → ((z +ℤ n) +ℤ m) ≡ ((z +ℤ m) +ℤ n)
sum-either z n m = omega (arith, ints)

pub row-either : IsEitherFirst with_row
row-either (Grouping place) a b = by (is_null (cell_at a 0)) refl (is_null (cell_at b 0)) refl
  where
    by : (p : Bool) → is_null (cell_at a 0) ≡ p → (q : Bool) → is_null (cell_at b 0) ≡ q → with_row (with_row (Grouping place) a) b ≡ with_row (with_row (Grouping place) b) a
    by true e true f = simp (e, f) refl
    by true e false f = simp (e, f) refl
    by false e true f = simp (e, f) refl
    by false e false f = simp (e, f) refl
row-either (Rows count) a b = by (is_null (cell_at a 0)) refl (is_null (cell_at b 0)) refl
  where
    by : (p : Bool) → is_null (cell_at a 0) ≡ p → (q : Bool) → is_null (cell_at b 0) ≡ q → with_row (with_row (Rows count) a) b ≡ with_row (with_row (Rows count) b) a
    by true e true f = simp (e, f) refl
    by true e false f = simp (e, f) refl
    by false e true f = simp (e, f) refl
    by false e false f = simp (e, f) refl
row-either (Count column count) a b = by (is_null (cell_at a column)) refl (is_null (cell_at b column)) refl
  where
    by : (p : Bool) → is_null (cell_at a column) ≡ p → (q : Bool) → is_null (cell_at b column) ≡ q
        → with_row (with_row (Count column count) a) b ≡ with_row (with_row (Count column count) b) a
    by true e true f = simp (e, f) refl
    by true e false f = simp (e, f) refl
    by false e true f = simp (e, f) refl
    by false e false f = simp (e, f) refl
row-either (Sum column t) a b = by (is_null (cell_at a column)) refl (is_null (cell_at b column)) refl
  where
    by : (p : Bool) → is_null (cell_at a column) ≡ p → (q : Bool) → is_null (cell_at b column) ≡ q → with_row (with_row (Sum column t) a) b ≡ with_row (with_row (Sum column t) b) a
    by true e true f = simp (e, f) refl
    by true e false f = simp (e, f) refl
    by false e true f = simp (e, f) refl
    by false e false f =
        simp (e, f) (ap (λ sum. Sum column (record { sum = sum; count = t.count + 1 + 1 })) (sum-either t.sum (number_in (cell_at a column)) (number_in (cell_at b column))))
row-either (Min column least) a b = by (is_null (cell_at a column)) refl (is_null (cell_at b column)) refl
  where
    by : (p : Bool) → is_null (cell_at a column) ≡ p → (q : Bool) → is_null (cell_at b column) ≡ q → with_row (with_row (Min column least) a) b ≡ with_row (with_row (Min column least) b) a
    by true e true f = simp (e, f) refl
    by true e false f = simp (e, f) refl
    by false e true f = simp (e, f) refl
    by false e false f = simp (e, f) (ap (Min column) (lesser-either least (cell_at a column) (cell_at b column)))
row-either (Max column greatest) a b = by (is_null (cell_at a column)) refl (is_null (cell_at b column)) refl
  where
    by : (p : Bool) → is_null (cell_at a column) ≡ p → (q : Bool) → is_null (cell_at b column) ≡ q
        → with_row (with_row (Max column greatest) a) b ≡ with_row (with_row (Max column greatest) b) a
    by true e true f = simp (e, f) refl
    by true e false f = simp (e, f) refl
    by false e true f = simp (e, f) refl
    by false e false f = simp (e, f) (ap (Max column) (greater-either greatest (cell_at a column) (cell_at b column)))

all-grouping : (place : ℕ) (rows : List Row) → fold with_row (Grouping place) rows ≡ Grouping place
all-grouping place [] = refl
all-grouping place (row ∷ rows) = by (is_null (cell_at row 0)) refl (all-grouping place rows)
  where
    by : (p : Bool) → is_null (cell_at row 0) ≡ p → fold with_row (Grouping place) rows ≡ Grouping place → fold with_row (Grouping place) (row ∷ rows) ≡ Grouping place
    by true e ih = rw e ih
    by false e ih = rw e ih

all-rows : (n : ℕ) (rows : List Row) → fold with_row (Rows n) rows ≡ Rows (n + length rows)
all-rows n [] = ap Rows (omega arith)
all-rows n (row ∷ rows) = by (is_null (cell_at row 0)) refl (all-rows (n + 1) rows)
  where
    by : (p : Bool) → is_null (cell_at row 0) ≡ p → fold with_row (Rows (n + 1)) rows ≡ Rows (n + 1 + length rows)
        → fold with_row (Rows n) (row ∷ rows) ≡ Rows (n + length (row ∷ rows))
    by true e ih = rw e (ih ∙ ap Rows (omega arith))
    by false e ih = rw e (ih ∙ ap Rows (omega arith))

all-count : (c n : ℕ) (rows : List Row) → fold with_row (Count c n) rows ≡ Count c (n + length (column_values c rows))
all-count c n [] = ap (Count c) (omega arith)
all-count c n (row ∷ rows) = by (is_null (cell_at row c)) refl (all-count c n rows) (all-count c (n + 1) rows)
  where
    by : (p : Bool) → is_null (cell_at row c) ≡ p → fold with_row (Count c n) rows ≡ Count c (n + length (column_values c rows))
        → fold with_row (Count c (n + 1)) rows ≡ Count c (n + 1 + length (column_values c rows))
        → fold with_row (Count c n) (row ∷ rows) ≡ Count c (n + length (column_values c (row ∷ rows)))
    by true e same more = rw e same
    by false e same more = rw e (more ∙ ap (Count c) (omega arith))

abbrev sum_from : ℤ → List Cell → ℤ
sum_from z vs = fold (λ sum v. sum +ℤ number_in v) z vs

-- the total of a column's values
abbrev summed : ℕ → ℤ → ℕ → List Row → Tally
summed c z n rows = Sum c (record { sum = sum_from z (column_values c rows); count = n + length (column_values c rows) })

all-sum : (c : ℕ) (z : ℤ) (n : ℕ) (rows : List Row) → fold with_row (Sum c (record { sum = z; count = n })) rows ≡ summed c z n rows
all-sum c z n [] = ap (λ n. Sum c (record { sum = z; count = n })) (omega arith)
all-sum c z n (row ∷ rows) = by (is_null (cell_at row c)) refl (all-sum c z n rows) (all-sum c (z +ℤ number_in (cell_at row c)) (n + 1) rows)
  where
    by : (p : Bool) → is_null (cell_at row c) ≡ p → fold with_row (Sum c (record { sum = z; count = n })) rows ≡ summed c z n rows
        → fold with_row (Sum c (record { sum = z +ℤ number_in (cell_at row c); count = n + 1 })) rows ≡ summed c (z +ℤ number_in (cell_at row c)) (n + 1) rows
        → fold with_row (Sum c (record { sum = z; count = n })) (row ∷ rows) ≡ summed c z n (row ∷ rows)
    by true e same more = rw e same
    by false e same more = rw e (more ∙ ap (λ n. Sum c (record { sum = sum_from (z +ℤ number_in (cell_at row c)) (column_values c rows); count = n })) (omega arith))

all-min : (c : ℕ) (o : Option Cell) (rows : List Row) → fold with_row (Min c o) rows ≡ Min c (fold lesser o (column_values c rows))
all-min c o [] = refl
all-min c o (row ∷ rows) = by (is_null (cell_at row c)) refl (all-min c o rows) (all-min c (lesser o (cell_at row c)) rows)
  where
    by : (p : Bool) → is_null (cell_at row c) ≡ p → fold with_row (Min c o) rows ≡ Min c (fold lesser o (column_values c rows))
        → fold with_row (Min c (lesser o (cell_at row c))) rows ≡ Min c (fold lesser (lesser o (cell_at row c)) (column_values c rows))
        → fold with_row (Min c o) (row ∷ rows) ≡ Min c (fold lesser o (column_values c (row ∷ rows)))
    by true e same more = rw e same
    by false e same more = rw e more

all-max : (c : ℕ) (o : Option Cell) (rows : List Row) → fold with_row (Max c o) rows ≡ Max c (fold greater o (column_values c rows))
all-max c o [] = refl
all-max c o (row ∷ rows) = by (is_null (cell_at row c)) refl (all-max c o rows) (all-max c (greater o (cell_at row c)) rows)
  where
    by : (p : Bool) → is_null (cell_at row c) ≡ p → fold with_row (Max c o) rows ≡ Max c (fold greater o (column_values c rows))
        → fold with_row (Max c (greater o (cell_at row c))) rows ≡ Max c (fold greater (greater o (cell_at row c)) (column_values c rows))
        → fold with_row (Max c o) (row ∷ rows) ≡ Max c (fold greater o (column_values c (row ∷ rows)))
    by true e same more = rw e same
    by false e same more = rw e more

sum-told : (vs : List Cell) (n : ℕ) → n ≡ length vs → told_of_total (record { sum = total vs; count = n }) ≡ if_any vs (Num (nearest (total vs)))
sum-told [] n e = rw e refl
sum-told (v ∷ vs) n e = rw e refl

-- no more values than rows
values-few : (c : ℕ) (rows : List Row) → length (column_values c rows) ≤ length rows
values-few c [] = omega arith
values-few c (row ∷ rows) = by (is_null (cell_at row c)) refl (values-few c rows)
  where
    by : (p : Bool) → is_null (cell_at row c) ≡ p → length (column_values c rows) ≤ length rows → length (column_values c (row ∷ rows)) ≤ length (row ∷ rows)
    by true e ih = rw e (omega (arith, ih))
    by false e ih = rw e (omega (arith, ih))

none-more : (n : ℕ) → 0 + n ≡ n
none-more n = omega arith

-- what a tally tells, however many rows it counts
abbrev pub told_exactly : Key → Tally → Option Cell
told_exactly key (Grouping place) = told_at key place
told_exactly key (Rows count) = Some (Num (pos count))
told_exactly key (Count column count) = Some (Num (pos count))
told_exactly key (Sum column total) = told_of_total total
told_exactly key (Min column least) = least
told_exactly key (Max column greatest) = greatest

-- a tally tells what is told of its rows
pub tally-tells : (key : Key) (rows : List Row) (item : Item) → told_exactly key (tally_of rows item) ≡ told_of key rows item
tally-tells key rows (items.Grouping place) = ap (told_exactly key) (all-grouping place rows)
tally-tells key rows items.Rows = ap (told_exactly key) (all-rows 0 rows) ∙ ap (λ n. Some (Num (pos n))) (none-more (length rows))
tally-tells key rows (items.Of functions.Count c) =
    ap (told_exactly key) (all-count c 0 rows) ∙ ap (λ n. Some (Num (pos n))) (none-more (length (column_values c rows)))
tally-tells key rows (items.Of functions.Sum c) = ap (told_exactly key) (all-sum c (pos 0) 0 rows) ∙ sum-told (column_values c rows) (0 + length (column_values c rows)) (omega arith)
tally-tells key rows (items.Of functions.Min c) = ap (told_exactly key) (all-min c None rows)
tally-tells key rows (items.Of functions.Max c) = ap (told_exactly key) (all-max c None rows)

-- it counts no more rows than there are
pub tally-few : (rows : List Row) (item : Item) → count_in (tally_of rows item) ≤ length rows
tally-few rows (items.Grouping place) = rw (all-grouping place rows) (omega arith)
tally-few rows items.Rows = rw (all-rows 0 rows) (omega arith)
tally-few rows (items.Of functions.Count c) = let few = values-few c rows in rw (all-count c 0 rows) (omega (arith, few))
tally-few rows (items.Of functions.Sum c) = let few = values-few c rows in rw (all-sum c (pos 0) 0 rows) (omega (arith, few))
tally-few rows (items.Of functions.Min c) = rw (all-min c None rows) (omega arith)
tally-few rows (items.Of functions.Max c) = rw (all-max c None rows) (omega arith)

nearest-same : (n : ℕ) → n < 2 ^ 63 → nearest (pos n) ≡ pos n
nearest-same n few = grind (arith, ints, few)

-- of fewer rows than 2^63 it tells it as it is
pub few-exact : (key : Key) (tally : Tally) → count_in tally < 2 ^ 63 → told_by key tally ≡ told_exactly key tally
few-exact key (Grouping place) few = refl
few-exact key (Rows count) few = ap (λ n. Some (Num n)) (nearest-same count few)
few-exact key (Count column count) few = ap (λ n. Some (Num n)) (nearest-same count few)
few-exact key (Sum column total) few = refl
few-exact key (Min column least) few = refl
few-exact key (Max column greatest) few = refl
