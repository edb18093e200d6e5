-- Promised tells have the right shape.
use Rattle.std.proofs.Common.{◌≡◌, ℕ, zero, suc, ◌+◌, ◌-◌, ◌<◌, ◌≤◌, Bool, true, false, cond, List, [], ◌∷◌, ◌++◌, map, length, refl, sym, ◌∙◌, ap, subst, arith, Option, Some, None}
use Rattle.std.specs.Prelude.{◌==◌, ◌&&◌, ◌||◌, not, nat_lt, filter, find, slice_get, if◌then◌else◌}
use Rattle.std.specs.List.{list_all}
use Rattle.std.proofs.lemmas.Bool.Decides.{nat_tests}
use Rattle.std.proofs.lemmas.List.{map-append}
use Rattle.std.proofs.lemmas.List.Elements.{filter-append}
use Rattle.std.proofs.lemmas.Bool.{and_from}
use Rattle.std.specs.Cmp.{first_so, second_so}
use Rattle.sr_cell.specs.declared.change.Change.{Change}
use Rattle.sr_cell.specs.declared.table.Column.{Column}
use Rattle.sr_cell.specs.declared.table.Table.{Table}
use Rattle.sr_cell.specs.Cells.{Row, cell_at, cell_le, cell_eq}
use Rattle.sr_cell.specs.Columns.{table_at, takes_cell, fits_columns, is_point}
use Rattle.sr_cell.proofs.Lists.{list_all-filter}
use Rattle.sr_cell.proofs.Order.{apart-cells}
use Rattle.sr_message.specs.declared.message.Tell.{Tell}
use Rattle.sr_message.specs.Tells.{tell_of}
use Rattle.sr_model.specs.SortedRows.{ascend, key_lt, has_key, with_row}
use Rattle.sr_model.specs.Changes.{row_with, same_row, all_keys, table_changes, changes_from, changes}
use Rattle.sr_model.specs.Queries.{rows_at}
use Rattle.sr_model.specs.Statements.{Tables}
use Rattle.sr_region.proofs.Applied.{cells-order}
use Rattle.sr_rows.specs.Places.{is_apart}
use Rattle.sr_rows.proofs.Places.{with_row-ascend}
use Rattle.sr_rows.proofs.Parts.{ascend-filter}
use Rattle.sr_query.specs.Bound.{is_table}
use Rattle.sr_session.specs.Sessions.{Database, newest, tables_of}
use Rattle.sr_session.specs.Places.{Places}
use Rattle.sr_session.specs.Walks.{AreLaid, Request, Tells, Walks, walked}
use Rattle.sr_session.specs.Clients.{Flows, is_idle, is_sent, is_served, mirror_of}
use Rattle.sr_session.specs.Misfits.{tell_suits, tells_ascend, told_suits}
use Rattle.sr_session.specs.Laws.{IsSound, PromisedTellsSuit}
use Rattle.sr_message.specs.declared.message.Message.TheVariants.{Notice}
use Rattle.sr_rows.proofs.Elements.{list_all-with_row}
use Rattle.sr_session.proofs.WalkLemmas.{walks-later}
use Rattle.sr_session.proofs.TakeLemmas.{walks-split}

-- ---- the keys of both lists

pub keys-all : (P : Row → Bool) (key : ℕ) (rows others : List Row) → list_all P rows ≡ true → list_all P others ≡ true → list_all P (all_keys key rows others) ≡ true
keys-all P key rows [] all more = all
keys-all P key rows (x ∷ others) all more = keys-all P key (if has_key key (cell_at x key) rows then rows else with_row key rows x) others (go (has_key key (cell_at x key) rows)) (second_so (P x) (list_all P others) more)
  where
    go : (b : Bool) → list_all P (if b then rows else with_row key rows x) ≡ true
    go true = all
    go false = list_all-with_row P key rows x all (first_so (P x) (list_all P others) more)

apart : (cs : List Column) (key : ℕ) (rows : List Row) (x : Row) → list_all (is_point cs) rows ≡ true → is_point cs x ≡ true → has_key key (cell_at x key) rows ≡ false → is_apart key rows x ≡ true
apart cs key [] x all own none = refl
apart cs key (r ∷ rows) x all own none =
    let differ : cell_eq (cell_at r key) (cell_at x key) ≡ false = left-none (cell_eq (cell_at r key) (cell_at x key)) (has_key key (cell_at x key) rows) none in
    let rest : has_key key (cell_at x key) rows ≡ false = right-none (cell_eq (cell_at r key) (cell_at x key)) (has_key key (cell_at x key) rows) none in
    and_from _ (is_apart key rows x) (apart-cells (cell_at r key) (cell_at x key) (cells-order cs r x key (first_so (is_point cs r) (list_all (is_point cs) rows) all) own) differ)
    (apart cs key rows x (second_so (is_point cs r) (list_all (is_point cs) rows) all) own rest)
  where
    left-none : (a b : Bool) → (a || b) ≡ false → a ≡ false
    left-none a b e = grind arith

    right-none : (a b : Bool) → (a || b) ≡ false → b ≡ false
    right-none a b e = grind arith

keys-ascend : (cs : List Column) (key : ℕ) (rows others : List Row) → ascend key rows ≡ true → list_all (is_point cs) rows ≡ true → list_all (is_point cs) others ≡ true → ascend key (all_keys key rows others) ≡ true
keys-ascend cs key rows [] order all more = order
keys-ascend cs key rows (x ∷ others) order all more =
    keys-ascend cs key (if has_key key (cell_at x key) rows then rows else with_row key rows x) others (ordered (has_key key (cell_at x key) rows) refl) (points (has_key key (cell_at x key) rows)) (second_so (is_point cs x) (list_all (is_point cs) others) more)
  where
    own : is_point cs x ≡ true
    own = first_so (is_point cs x) (list_all (is_point cs) others) more

    ordered : (b : Bool) → has_key key (cell_at x key) rows ≡ b → ascend key (if b then rows else with_row key rows x) ≡ true
    ordered true e = order
    ordered false e = with_row-ascend key rows x order (apart cs key rows x all own e)

    points : (b : Bool) → list_all (is_point cs) (if b then rows else with_row key rows x) ≡ true
    points true = all
    points false = list_all-with_row (is_point cs) key rows x all own

-- ---- one tell

key-takes : (cs : List Column) (k : ℕ) (row : Row) → k < length cs → fits_columns cs row ≡ true → (elim (slice_get cs k) as (λ column. Bool) [ None ↦ false | Some column ↦ takes_cell column (cell_at row k) ]) ≡ true
key-takes [] k row below fits = absurd (omega (arith, below))
key-takes (c ∷ cs) k [] below fits = absurd (cc)
key-takes (c ∷ cs) zero (v ∷ row) below fits = first_so (takes_cell c v) (fits_columns cs row) fits
key-takes (c ∷ cs) (suc k) (v ∷ row) below fits = key-takes cs k row (omega (arith, below)) (second_so (takes_cell c v) (fits_columns cs row) fits)

found-good : (p q : Row → Bool) (rows : List Row) → list_all q rows ≡ true → (elim (find p rows) as (λ after. Bool) [ None ↦ true | Some row ↦ q row && p row ]) ≡ true
found-good p q [] all = refl
found-good p q (r ∷ rows) all = go (p r) refl (found-good p q rows (second_so (q r) (list_all q rows) all))
  where
    go : (b : Bool) → p r ≡ b → (elim (find p rows) as (λ after. Bool) [ None ↦ true | Some row ↦ q row && p row ]) ≡ true
        → (elim (if b then Some r else find p rows) as (λ after. Bool) [ None ↦ true | Some row ↦ q row && p row ]) ≡ true
    go true e ih = and_from (q r) (p r) (first_so (q r) (list_all q rows) all) e
    go false e ih = ih

abbrev change_of : Table → ℕ → List Row → List Row → Row → Change
change_of table t old new row = record { table = t; key = cell_at row table.key; before = row_with table.key (cell_at row table.key) old; after = row_with table.key (cell_at row table.key) new }

-- the changes of one table are those of some keys, ascending
some-keys : (table : Table) (t : ℕ) (old new : List Row) (test : Change → Bool) (keys : List Row)
    → filter test (filter (λ c. not (same_row c.before c.after)) (map (change_of table t old new) keys))
    ≡ map (change_of table t old new) (filter (λ row. not (same_row (change_of table t old new row).before (change_of table t old new row).after) && test (change_of table t old new row)) keys)
some-keys table t old new test [] = refl
some-keys table t old new test (row ∷ keys) = go (not (same_row (change_of table t old new row).before (change_of table t old new row).after)) (test (change_of table t old new row)) refl (some-keys table t old new test keys)
  where
    F : Row → Change
    F = change_of table t old new

    rest : List Change
    rest = filter (λ c. not (same_row c.before c.after)) (map (change_of table t old new) keys)

    kept : List Row
    kept = filter (λ row. not (same_row (change_of table t old new row).before (change_of table t old new row).after) && test (change_of table t old new row)) keys

    go : (a b : Bool) → test (change_of table t old new row) ≡ b
        → filter test (filter (λ c. not (same_row c.before c.after)) (map (change_of table t old new) keys)) ≡ map (change_of table t old new) (filter (λ row. not (same_row (change_of table t old new row).before (change_of table t old new row).after) && test (change_of table t old new row)) keys)
        → filter test (cond a (change_of table t old new row ∷ filter (λ c. not (same_row c.before c.after)) (map (change_of table t old new) keys)) (filter (λ c. not (same_row c.before c.after)) (map (change_of table t old new) keys)))
        ≡ map (change_of table t old new) (cond (a && b) (row ∷ filter (λ row. not (same_row (change_of table t old new row).before (change_of table t old new row).after) && test (change_of table t old new row)) keys)
        (filter (λ row. not (same_row (change_of table t old new row).before (change_of table t old new row).after) && test (change_of table t old new row)) keys))
    go true true e ih = rw e (ap (λ cs. change_of table t old new row ∷ cs) ih)
    go true false e ih = rw e ih
    go false b e ih = ih

-- tells of that table, and of that table or later ones
abbrev at : ℕ → Tell → Bool
at t tell = tell.table == t

abbrev from : ℕ → Tell → Bool
from t tell = nat_lt t (tell.table + 1)

module _ (schema : List Table) (t : ℕ) (within : t < length schema) (tables : is_table (table_at schema t) ≡ true) (old new : List Row) where
  table : Table
  table = table_at schema t

  tell-suits : (row : Row) → fits_columns (table_at schema t).columns row ≡ true → list_all (fits_columns (table_at schema t).columns) new ≡ true → tell_suits schema (tell_of (change_of (table_at schema t) t old new row)) ≡ true
  tell-suits row own fits =
      let in_schema : nat_lt t (length schema) ≡ true = grind (arith, nat_tests, within) in
      let below : (table_at schema t).key < length (table_at schema t).columns = grind (arith, nat_tests, tables) in
      and_from (nat_lt t (length schema)) _ in_schema
      (and_from _ _ (key-takes (table_at schema t).columns (table_at schema t).key row below own)
      (found-good (λ r. cell_eq (cell_at r (table_at schema t).key) (cell_at row (table_at schema t).key)) (fits_columns (table_at schema t).columns) new fits))

  keys-suit : (keys : List Row) → list_all (fits_columns (table_at schema t).columns) keys ≡ true → list_all (fits_columns (table_at schema t).columns) new ≡ true
      → list_all (tell_suits schema) (map tell_of (map (change_of (table_at schema t) t old new) keys)) ≡ true
  keys-suit [] all fits = refl
  keys-suit (row ∷ keys) all fits =
      and_from _ _ (tell-suits row (first_so (fits_columns (table_at schema t).columns row) (list_all (fits_columns (table_at schema t).columns) keys) all) fits)
      (keys-suit keys (second_so (fits_columns (table_at schema t).columns row) (list_all (fits_columns (table_at schema t).columns) keys) all) fits)

-- ---- order

keys-tell : (table : Table) (t : ℕ) (old new keys : List Row) → ascend table.key keys ≡ true → tells_ascend (map tell_of (map (change_of table t old new) keys)) ≡ true
keys-tell table t old new [] order = refl
keys-tell table t old new (r ∷ []) order = refl
keys-tell table t old new (r ∷ s ∷ keys) order =
    let own : (t == t) ≡ true = grind (arith, nat_tests) in
    let first = first_so (key_lt table.key r s) (ascend table.key (s ∷ keys)) order in
    let less = by (cell_le (cell_at r table.key) (cell_at s table.key)) (cell_le (cell_at s table.key) (cell_at r table.key)) (nat_lt t t) (t == t) own first in
    and_from _ _ less (keys-tell table t old new (s ∷ keys) (second_so (key_lt table.key r s) (ascend table.key (s ∷ keys)) order))
  where
    by : (a b c d : Bool) → d ≡ true → (a && not b) ≡ true → (c || (d && (a && not (a && b)))) ≡ true
    by a b c d e h = grind (arith, e, h)

keys-at : (table : Table) (t : ℕ) (old new keys : List Row) → list_all (at t) (map tell_of (map (change_of table t old new) keys)) ≡ true
keys-at table t old new [] = refl
keys-at table t old new (r ∷ keys) = let own : (t == t) ≡ true = grind (arith, nat_tests) in and_from (t == t) _ own (keys-at table t old new keys)

goes-before : (u v t : ℕ) → (u == t) ≡ true → nat_lt (t + 1) (v + 1) ≡ true → nat_lt u v ≡ true
goes-before u v t e f = grind (arith, nat_tests, e, f)

tells-append : (t : ℕ) (xs ys : List Tell) → tells_ascend xs ≡ true → list_all (at t) xs ≡ true → tells_ascend ys ≡ true → list_all (from (t + 1)) ys ≡ true → tells_ascend (xs ++ ys) ≡ true
tells-append t [] ys order all more later = more
tells-append t (a ∷ []) [] order all more later = refl
tells-append t (a ∷ []) (b ∷ ys) order all more later =
    let less : nat_lt a.table b.table ≡ true = goes-before a.table b.table t (first_so (at t a) true all) (first_so (from (t + 1) b) (list_all (from (t + 1)) ys) later) in
    and_from _ _ (by (nat_lt a.table b.table) _ less) more
  where
    by : (x y : Bool) → x ≡ true → (x || y) ≡ true
    by x y e = grind (arith, e)
tells-append t (a ∷ b ∷ xs) ys order all more later =
    and_from _ _ (first_so _ (tells_ascend (b ∷ xs)) order) (tells-append t (b ∷ xs) ys (second_so _ (tells_ascend (b ∷ xs)) order) (second_so (at t a) (list_all (at t) (b ∷ xs)) all) more later)

at-from : (t : ℕ) (xs : List Tell) → list_all (at t) xs ≡ true → list_all (from t) xs ≡ true
at-from t [] all = refl
at-from t (a ∷ xs) all =
    let same = first_so (at t a) (list_all (at t) xs) all in
    let here : nat_lt t (a.table + 1) ≡ true = grind (arith, nat_tests, same) in
    and_from _ _ here (at-from t xs (second_so (at t a) (list_all (at t) xs) all))

from-later : (t : ℕ) (xs : List Tell) → list_all (from (t + 1)) xs ≡ true → list_all (from t) xs ≡ true
from-later t [] all = refl
from-later t (a ∷ xs) all =
    let later = first_so (from (t + 1) a) (list_all (from (t + 1)) xs) all in
    let here : nat_lt t (a.table + 1) ≡ true = grind (arith, nat_tests, later) in
    and_from _ _ here (from-later t xs (second_so (from (t + 1) a) (list_all (from (t + 1)) xs) all))

all-append : (P : Tell → Bool) (xs ys : List Tell) → list_all P xs ≡ true → list_all P ys ≡ true → list_all P (xs ++ ys) ≡ true
all-append P [] ys a b = b
all-append P (x ∷ xs) ys a b = and_from (P x) _ (first_so (P x) (list_all P xs) a) (all-append P xs ys (second_so (P x) (list_all P xs) a) b)

-- ---- all tables

pub record AreGood (schema : List Table) (t : ℕ) (told : List Tell) : Type 0 where
  pub suit : list_all (tell_suits schema) told ≡ true
  pub later : list_all (from t) told ≡ true
  pub order : tells_ascend told ≡ true

-- what holds of the rows of each of some tables
abbrev EachFits : List Table → Tables → Type 0
EachFits [] rows = Unit {0}
EachFits (_ ∷ _) [] = ⊥
EachFits (table ∷ tables) (r ∷ rows) = ((list_all (fits_columns table.columns) r ≡ true) × (list_all (is_point table.columns) r ≡ true) × (ascend table.key r ≡ true)) × EachFits tables rows

good : (schema rest : List Table) (t : ℕ) (old new : Tables) (test : Change → Bool) → ((k : ℕ) → k < length rest → table_at rest k ≡ table_at schema (t + k)) → t + length rest ≡ length schema → list_all is_table rest ≡ true
    → EachFits rest old → EachFits rest new → AreGood schema t (map tell_of (filter test (changes_from t rest old new)))
good schema [] t old new test same count tables was is = record { suit = refl; later = refl; order = refl }
good schema (table ∷ rest) t [] new test same count tables was is = absurd was
good schema (table ∷ rest) t (o ∷ old) [] test same count tables was is = absurd is
good schema (table ∷ rest) t (o ∷ old) (n ∷ new) test same count tables was is =
    let own : table ≡ table_at schema t = same 0 (omega arith) ∙ ap (table_at schema) (let e : t + 0 ≡ t = omega arith in e) in
    let within : t < length schema = omega (arith, count) in
    let ih = good schema rest (t + 1) old new test (λ k below. same (suc k) (omega (arith, below)) ∙ ap (table_at schema) (let e : t + suc k ≡ t + 1 + k = omega arith in e)) (omega (arith, count))
    (second_so (is_table table) (list_all is_table rest) tables) was.1 is.1 in
    let f : Row → Bool = λ row. not (same_row (change_of table t o n row).before (change_of table t o n row).after) && test (change_of table t o n row) in
    let keys : List Row = filter f (all_keys table.key o n) in
    let here : map tell_of (filter test (table_changes table t o n)) ≡ map tell_of (map (change_of table t o n) keys) = ap (map tell_of) (some-keys table t o n test (all_keys table.key o n)) in
    let split : map tell_of (filter test (table_changes table t o n ++ changes_from (t + 1) rest old new)) ≡ map tell_of (map (change_of table t o n) keys) ++ map tell_of (filter test (changes_from (t + 1) rest old new)) =
    ap (map tell_of) (filter-append test (table_changes table t o n) (changes_from (t + 1) rest old new))
    ∙ (map-append tell_of (filter test (table_changes table t o n)) (filter test (changes_from (t + 1) rest old new)) ∙ ap (λ ms. ms ++ map tell_of (filter test (changes_from (t + 1) rest old new))) here) in
    let fit_keys : list_all (fits_columns table.columns) keys ≡ true = list_all-filter (fits_columns table.columns) f (all_keys table.key o n) (keys-all (fits_columns table.columns) table.key o n was.0.0 is.0.0) in
    let ordered : ascend table.key keys ≡ true = ascend-filter table.key f (all_keys table.key o n) (keys-ascend table.columns table.key o n was.0.2 was.0.1 is.0.1) in
    let suit_keys : list_all (tell_suits schema) (map tell_of (map (change_of table t o n) keys)) ≡ true =
    subst (λ (u : Table). list_all (fits_columns u.columns) keys ≡ true → list_all (fits_columns u.columns) n ≡ true → list_all (tell_suits schema) (map tell_of (map (change_of u t o n) keys)) ≡ true) (sym own)
    (keys-suit schema t within (subst (λ u. is_table u ≡ true) own (first_so (is_table table) (list_all is_table rest) tables)) o n keys) fit_keys is.0.0 in
    let now = keys-at table t o n keys in
    subst (AreGood schema t) (sym split) (record {
      suit = all-append (tell_suits schema) (map tell_of (map (change_of table t o n) keys)) _ suit_keys ih.suit;
      later = all-append (from t) (map tell_of (map (change_of table t o n) keys)) _ (at-from t _ now) (from-later t _ ih.later);
      order = tells-append t (map tell_of (map (change_of table t o n) keys)) _ (keys-tell table t o n keys ordered) now ih.order ih.later;
    })

-- ---- a promised notice

each-fits : (schema : List Table) (rows : Tables) → length rows ≡ length schema → ((t : ℕ) → list_all (fits_columns (table_at schema t).columns) (rows_at rows t) ≡ true)
    → ((t : ℕ) → list_all (is_point (table_at schema t).columns) (rows_at rows t) ≡ true) → ((t : ℕ) → ascend (table_at schema t).key (rows_at rows t) ≡ true) → EachFits schema rows
each-fits [] rows few fits points order = tt
each-fits (table ∷ schema) [] few fits points order = absurd (omega (arith, few))
each-fits (table ∷ schema) (r ∷ rows) few fits points order =
    ((fits 0, points 0, order 0), each-fits schema rows (omega (arith, few)) (λ t. fits (suc t)) (λ t. points (suc t)) (λ t. order (suc t)))

changes-good : (schema : List Table) (old new : Tables) (test : Change → Bool) → list_all is_table schema ≡ true → EachFits schema old → EachFits schema new → AreGood schema 0 (map tell_of (filter test (changes schema old new)))
unfolding changes
changes-good schema old new test tables was is = good schema schema 0 old new test (λ k below. ap (table_at schema) (let e : k ≡ 0 + k = omega arith in e)) (omega arith) tables was is

told-good : (db : Database) (places : Places) (v w : ℕ) (told : List Tell) → IsSound db → list_all is_table db.schema ≡ true → v < w → w ≤ newest db → Tells db places w told → told_suits db.schema told ≡ true
told-good db places v w told sound tables above below h =
    let before = sound.tables (w - 1) (omega (arith, below)) in
    let after = sound.tables w below in
    let was = each-fits db.schema (tables_of db (w - 1)) before.few (sound.fits (w - 1) (omega (arith, below))) before.points before.ascending in
    let is = each-fits db.schema (tables_of db w) after.few (sound.fits w below) after.points after.ascending in
    let all = changes-good db.schema (tables_of db (w - 1)) (tables_of db w) h.test tables was is in
    subst (λ ts. told_suits db.schema ts ≡ true) (sym h.are) (and_from _ _ all.suit all.order)

pub promised-tells-suit : PromisedTellsSuit
promised-tells-suit db c l session queue w told sound tables h first = by c.out h.flows
  where
    goes : (out : Option Request) → AreLaid c.laid → Walks db out (mirror_of c) (c.laid ++ l.to_client) session → told_suits db.schema told ≡ true
    goes out all walks =
        let s = walks-split db out (mirror_of c) c.laid (Notice w told ∷ queue) session all (subst (λ ms. Walks db out (mirror_of c) (c.laid ++ ms) session) first walks) in
        let later = walks-later db out _ queue session s.on.1 in
        let upto = h.upto in
        told-good db (walked (mirror_of c) c.laid).places (walked (mirror_of c) c.laid).version w told sound tables s.on.0.0 (omega (arith, later, upto)) s.on.0.2

    by : (out : Option Request) → Flows db c l session out → told_suits db.schema told ≡ true
    by out (is_idle empty none walks) = goes None (subst AreLaid (sym none) tt) (subst (λ laid. Walks db None (mirror_of c) (laid ++ l.to_client) session) (sym none) walks)
    by out (is_sent request o all f) = goes None all f.walks
    by out (is_served request o all f) = goes (Some request) all f.walks
