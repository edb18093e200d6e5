-- The order of places: by column, then by value, then by key.
use Rattle.std.proofs.Common.{◌≡◌, ℕ, Bool, true, false, not, ◌||◌, ◌==◌, List, [], ◌∷◌, ◌++◌, refl, sym, ap, subst, ◌∙◌, arith}
use Rattle.std.specs.Prelude.{Option, Some, None, filter, cond}
use Rattle.std.specs.declared.cmp.Ordering.{Ordering}
use Rattle.std.specs.declared.cmp.Ordering.TheVariants.{Less, Equal, Greater}
use Rattle.std.specs.declared.ops.Bound.TheVariants.{Included}
use Rattle.std.specs.Ordering.{nat_cmp, ordering_then, is_le, is_lt, is_gt, is_eq}
use Rattle.std.specs.List.{list_all, list_any}
use Rattle.std.specs.Cmp.{first_so, second_so}
use Rattle.std.specs.BTreeMap.{is_at}
use Rattle.std.specs.BTreeMap.Range.{range_contains}
use Rattle.std.specs.BTreeSet.{BTreeSet, contains}
use Rattle.std.proofs.lemmas.Bool.{and_from, eqb-true}
use Rattle.std.proofs.lemmas.Bool.Decides.{nat_tests}
use Rattle.sr_cell.specs.declared.cell.Cell.{Cell}
use Rattle.sr_cell.specs.Cells.{Row, cell_at, cell_le, cell_eq}
use Rattle.sr_cell.proofs.Lists.{list_all-push}
use Rattle.sr_cell.proofs.Order.{cell_le-trans, cell_eq-sound}
use Rattle.sr_keyed.specs.declared.index.Index.{Index}
use Rattle.sr_keyed.specs.declared.index.Place.{Place}
use Rattle.sr_keyed.specs.declared.index.Spot.{Spot}
use Rattle.sr_keyed.specs.declared.index.Spot.TheVariants.{First, At, Last}
use Rattle.sr_keyed.specs.contracts.index.PlaceOrd.TheImpl as place_ord
use Rattle.sr_keyed.specs.contracts.index.SpotOrd.TheImpl as spot_ord
use Rattle.sr_keyed.specs.Keyed.{is_from, is_up_to, is_between}
use Rattle.sr_keyed.specs.Places.{place_of, first_place, last_place, are_in_order, has_places, is_indexed, has_spot}
use Rattle.sr_keyed.proofs.Order.{order, order-eq, order-below, order-above}
use Rattle.sr_keyed.proofs.Values.{list_all-weaker}

abbrev pub place_order : Place → Place → Ordering
place_order = (place_ord.ghosts).cmp

abbrev spot_order : Spot → Spot → Ordering
spot_order = (spot_ord.ghosts).cmp

nat_cmp-same : (n : ℕ) → nat_cmp n n ≡ Equal
nat_cmp-same n = grind (arith, nat_tests)

nat_cmp-sound : (n m : ℕ) → is_eq (nat_cmp n m) ≡ true → n ≡ m
nat_cmp-sound n m same = grind (arith, nat_tests)

-- what the second part of an order decides

then-apart : (o p : Ordering) → is_eq p ≡ false → is_eq (ordering_then o p) ≡ false
then-apart Less p apart = refl
then-apart Equal p apart = apart
then-apart Greater p apart = refl

then-first : (o p : Ordering) → is_eq (ordering_then o p) ≡ true → is_eq o ≡ true
then-first Less p same = same
then-first Equal p same = refl
then-first Greater p same = same

then-second : (o p : Ordering) → is_eq (ordering_then o p) ≡ true → is_eq p ≡ true
then-second Less p same = absurd (cc)
then-second Equal p same = same
then-second Greater p same = absurd (cc)

then-le : (o : Ordering) → is_le o ≡ true → is_le (ordering_then o Less) ≡ true
then-le Less le = refl
then-le Equal le = refl
then-le Greater le = le

then-not_gt : (o : Ordering) → is_le o ≡ true → is_gt (ordering_then o Less) ≡ false
then-not_gt Less le = refl
then-not_gt Equal le = refl
then-not_gt Greater le = absurd (cc)

then-not_lt : (o : Ordering) → is_lt o ≡ false → not (is_lt (ordering_then o Greater)) ≡ true
then-not_lt Less lt = absurd (cc)
then-not_lt Equal lt = refl
then-not_lt Greater lt = refl

-- rows with different keys have different places
pub apart-places : (key c d : ℕ) (row other : Row) → cell_eq (cell_at other key) (cell_at row key) ≡ false
    → is_at (place_order (place_of key c row)) (place_of key d other) ≡ false
apart-places key c d row other apart =
    then-apart (nat_cmp c d) (ordering_then (order (cell_at row c) (cell_at other d)) (order (cell_at row key) (cell_at other key)))
    (then-apart (order (cell_at row c) (cell_at other d)) (order (cell_at row key) (cell_at other key)) (order-eq (cell_at row key) (cell_at other key) ∙ apart))

spot-sound : (s t : Spot) → is_eq (spot_order s t) ≡ true → s ≡ t
spot-sound First First same = refl
spot-sound First (At v) same = absurd (cc)
spot-sound First Last same = absurd (cc)
spot-sound (At v) First same = absurd (cc)
spot-sound (At v) (At w) same = ap At (sym (cell_eq-sound w v (sym (order-eq v w) ∙ same)))
spot-sound (At v) Last same = absurd (cc)
spot-sound Last First same = absurd (cc)
spot-sound Last (At v) same = absurd (cc)
spot-sound Last Last same = refl

abbrev place_at : ℕ → Spot → Spot → Place
place_at column value key = record { column = column; value = value; key = key }

-- places that the order does not tell apart are the same
place-sound : (p q : Place) → is_eq (place_order p q) ≡ true → p ≡ q
place-sound p q same =
    let rest : Ordering = ordering_then (spot_order p.value q.value) (spot_order p.key q.key) in
    let behind : is_eq rest ≡ true = then-second (nat_cmp p.column q.column) rest same in
    build p.column q.column p.value q.value p.key q.key
    (nat_cmp-sound p.column q.column (then-first (nat_cmp p.column q.column) rest same))
    (spot-sound p.value q.value (then-first (spot_order p.value q.value) (spot_order p.key q.key) behind))
    (spot-sound p.key q.key (then-second (spot_order p.value q.value) (spot_order p.key q.key) behind))
  where
    build : (c d : ℕ) (v w k l : Spot) → c ≡ d → v ≡ w → k ≡ l → place_at c v k ≡ place_at d w l
    build c d v w k l hc hv hk = rw (hc, hv, hk) refl

-- a row between the ends has its place between theirs

from-first : (key column : ℕ) (low : Option Cell) (row : Row) → is_from low (cell_at row column) ≡ true → is_le (place_order (first_place column low) (place_of key column row)) ≡ true
from-first key column None row h = ap (λ o. is_le (ordering_then o Less)) (nat_cmp-same column)
from-first key column (Some low) row h =
    ap (λ o. is_le (ordering_then o (ordering_then (order low (cell_at row column)) Less))) (nat_cmp-same column)
    ∙ then-le (order low (cell_at row column)) (order-below low (cell_at row column) h)

to-last : (key column : ℕ) (high : Option Cell) (row : Row) → is_up_to high (cell_at row column) ≡ true → not (is_lt (place_order (last_place column high) (place_of key column row))) ≡ true
to-last key column None row h = ap (λ o. not (is_lt (ordering_then o Greater))) (nat_cmp-same column)
to-last key column (Some high) row h =
    ap (λ o. not (is_lt (ordering_then o (ordering_then (order high (cell_at row column)) Greater)))) (nat_cmp-same column)
    ∙ then-not_lt (order high (cell_at row column)) (order-above (cell_at row column) high h)

pub place-inside : (key column : ℕ) (low high : Option Cell) (row : Row) → is_between column low high row ≡ true
    → range_contains place_order (Included (first_place column low)) (Included (last_place column high)) (place_of key column row) ≡ true
place-inside key column low high row h =
    let from = from-first key column low row (first_so (is_from low (cell_at row column)) (is_up_to high (cell_at row column)) h) in
    let to = to-last key column high row (second_so (is_from low (cell_at row column)) (is_up_to high (cell_at row column)) h) in
    rw (from, to) refl

-- the ends run forward
pub places-forward : (column : ℕ) (low high : Option Cell) → are_in_order low high ≡ true → is_gt (place_order (first_place column low) (last_place column high)) ≡ false
places-forward column None None h = ap (λ o. is_gt (ordering_then o Less)) (nat_cmp-same column)
places-forward column None (Some high) h = ap (λ o. is_gt (ordering_then o Less)) (nat_cmp-same column)
places-forward column (Some low) None h = ap (λ o. is_gt (ordering_then o Less)) (nat_cmp-same column)
places-forward column (Some low) (Some high) h =
    ap (λ o. is_gt (ordering_then o (ordering_then (order low high) Less))) (nat_cmp-same column) ∙ then-not_gt (order low high) (order-below low high h)

-- no row is between other ends
pub none-between : (column : ℕ) (low high : Option Cell) (row : Row) → are_in_order low high ≡ false → is_between column low high row ≡ true → true ≡ false
none-between column None high row h inside = absurd (cc)
none-between column (Some low) None row h inside = absurd (cc)
none-between column (Some low) (Some high) row h inside =
    sym (cell_le-trans low (cell_at row column) high (first_so (cell_le low (cell_at row column)) (cell_le (cell_at row column) high) inside)
    (second_so (cell_le low (cell_at row column)) (cell_le (cell_at row column) high) inside)) ∙ h

-- a place of the set that is between the ends has its key among the keys
pub spot-of : (keys : BTreeSet Cell) (inside : Place → Bool) (ps : List Place) (q : Place) → list_all (λ p. has_spot order keys p.key) (filter inside ps) ≡ true
    → inside q ≡ true → list_any (is_at (place_order q)) ps ≡ true → has_spot order keys q.key ≡ true
spot-of keys inside [] q all here among = absurd (cc)
spot-of keys inside (p ∷ ps) q all here among =
    go (is_at (place_order q) p) refl among (spot-of keys inside ps q (rest (inside p) all) here)
  where
    rest : (b : Bool) → list_all (λ r. has_spot order keys r.key) (cond b (p ∷ filter inside ps) (filter inside ps)) ≡ true → list_all (λ r. has_spot order keys r.key) (filter inside ps) ≡ true
    rest true all = second_so (has_spot order keys p.key) (list_all (λ r. has_spot order keys r.key) (filter inside ps)) all
    rest false all = all

    go : (b : Bool) → is_at (place_order q) p ≡ b → (b || list_any (is_at (place_order q)) ps) ≡ true → (list_any (is_at (place_order q)) ps ≡ true → has_spot order keys q.key ≡ true)
        → has_spot order keys q.key ≡ true
    go true is h ih =
        let same : q ≡ p = place-sound q p is in
        let in_p : inside p ≡ true = subst (λ r. inside r ≡ true) same here in
        let all_p : list_all (λ r. has_spot order keys r.key) (p ∷ filter inside ps) ≡ true = subst (λ b. list_all (λ r. has_spot order keys r.key) (cond b (p ∷ filter inside ps) (filter inside ps)) ≡ true) in_p all in
        subst (λ r. has_spot order keys r.key ≡ true) (sym same) (first_so (has_spot order keys p.key) (list_all (λ r. has_spot order keys r.key) (filter inside ps)) all_p)
    go false is h ih = ih h

-- a column of the index is one by which a row has its place
pub column-of : (holds : ℕ → Bool) (columns : List ℕ) (c : ℕ) → list_any (λ x. x == c) columns ≡ true → list_all holds columns ≡ true → holds c ≡ true
column-of holds [] c among all = absurd (cc)
column-of holds (x ∷ columns) c among all =
    go (x == c) refl among (λ h. column-of holds columns c h (second_so (holds x) (list_all holds columns) all))
  where
    go : (b : Bool) → (x == c) ≡ b → (b || list_any (λ y. y == c) columns) ≡ true → (list_any (λ y. y == c) columns ≡ true → holds c ≡ true) → holds c ≡ true
    go true is h ih = subst (λ y. holds y ≡ true) (eqb-true x c is) (first_so (holds x) (list_all holds columns) all)
    go false is h ih = ih h

-- the keys grow
pub spot-stays : (keys more : BTreeSet Cell) → ((k : Cell) → contains order keys k ≡ true → contains order more k ≡ true) → (s : Spot) → has_spot order keys s ≡ true → has_spot order more s ≡ true
spot-stays keys more stays First h = refl
spot-stays keys more stays (At k) h = stays k h
spot-stays keys more stays Last h = refl

-- one column more, by which all rows have their places
pub column-added : (places more : BTreeSet Place) (key column : ℕ) (columns all : List ℕ) → all ≡ columns ++ column ∷ []
    → ((p : Place) → contains place_order places p ≡ true → contains place_order more p ≡ true) → (rows : List Row)
    → list_all (λ row. contains place_order more (place_of key column row)) rows ≡ true
    → list_all (has_places place_order places key columns) rows ≡ true → list_all (has_places place_order more key all) rows ≡ true
column-added places more key column columns all is stays [] added have = refl
column-added places more key column columns all is stays (row ∷ rows) added have =
    let by : ℕ → Bool = λ c. contains place_order more (place_of key c row) in
    let old : list_all by columns ≡ true =
    list_all-weaker (λ c. contains place_order places (place_of key c row)) by (λ c. stays (place_of key c row)) columns
    (first_so (has_places place_order places key columns row) (list_all (has_places place_order places key columns) rows) have) in
    let one = first_so (by column) (list_all (λ r. contains place_order more (place_of key column r)) rows) added in
    and_from (has_places place_order more key all row) (list_all (has_places place_order more key all) rows)
    (subst (λ cs. list_all by cs ≡ true) (sym is) (list_all-push by columns column old one))
    (column-added places more key column columns all is stays rows (second_so (by column) (list_all (λ r. contains place_order more (place_of key column r)) rows) added)
    (second_so (has_places place_order places key columns row) (list_all (has_places place_order places key columns) rows) have))

-- by no columns each row has its places
pub none-indexed : (index : Index) (key : ℕ) → index.columns.items ≡ [] → (rows : List Row) → list_all (is_indexed place_order index key) rows ≡ true
none-indexed index key none [] = refl
none-indexed index key none (row ∷ rows) =
    and_from (is_indexed place_order index key row) (list_all (is_indexed place_order index key) rows)
    (subst (λ cs. list_all (λ c. contains place_order index.places (place_of key c row)) cs ≡ true) (sym none) refl) (none-indexed index key none rows)
