-- The answer of lent rows is the query's.
use Rattle.std.proofs.Common.{◌≡◌, ℕ, zero, suc, ◌+◌, ◌<◌, ◌≤◌, Bool, true, List, [], ◌∷◌, map, length, refl, sym, ap, subst, ◌∙◌, arith}
use Rattle.std.specs.Prelude.{flat_map, slice_get, Option, Some, None, Result, Ok, Err, IfOk}
use Rattle.std.specs.List.{list_all, AllZip}
use Rattle.std.proofs.lemmas.Bool.Decides.{nat_tests}
use Rattle.std.specs.Cmp.{first_so, second_so}
use Rattle.std.proofs.lemmas.Option.{slice_get_within}
use Rattle.sr_cell.specs.declared.table.Table.{Table}
use Rattle.sr_cell.specs.Attrs.{has_column}
use Rattle.sr_cell.specs.Cells.{Row}
use Rattle.sr_cell.specs.Columns.{table_at}
use Rattle.sr_model.specs.Queries.{Part, Join, points_of, rows_at, rows_of}
use Rattle.sr_model.specs.Queries as model
use Rattle.sr_model.specs.SortedRows.{ascend}
use Rattle.sr_model.specs.Statements.{Tables}
use Rattle.sr_query.specs.Bound.{IsPart, IsJoin, output_of}
use Rattle.sr_query.specs.Joined.{is_needed, needs_key, join_each, key_of}
use Rattle.sr_query.specs.declared.query.KeyJoin.{KeyJoin}
use Rattle.sr_query.specs.declared.query.Part as code
use Rattle.sr_query.specs.declared.query.Query.{Query}
use Rattle.sr_join.specs.declared.runs.Run.{Run}
use Rattle.sr_join.specs.Joins.{key_in, join_of, choices, outputs_of, found_at, answers_of, AreBy}
use Rattle.sr_join.specs.Lent.{AreLent, LendFrom, IsJoinable, rows_for}
use Rattle.sr_join.specs.Shown.{Shown, AreShown, are_by}
use Rattle.sr_join.proofs.Chains.{ShowParts, answered, behind}
use Rattle.sr_join.proofs.Shows.{shown-by}

-- ---- the parts

-- a part that means one, and that one
record IsAt (schema : List Table) (parts : List code.Part) (i : ℕ) (meaning : Part) : Type 0 where
  pub part : code.Part
  pub at : slice_get parts i ≡ Some part
  pub is : IsPart schema part meaning

part-at : (schema : List Table) (parts : List code.Part) (meant : List Part) (i : ℕ) (m : Part) → AllZip (IsPart schema) parts meant → slice_get meant i ≡ Some m → IsAt schema parts i m
part-at schema [] [] i m zip at = absurd (cc)
part-at schema [] (n ∷ meant) i m zip at = absurd zip
part-at schema (p ∷ parts) [] i m zip at = absurd zip
part-at schema (p ∷ parts) (n ∷ meant) zero m zip at = let same : n ≡ m = cc in record { part = p; at = refl; is = subst (IsPart schema p) same zip.0 }
part-at schema (p ∷ parts) (n ∷ meant) (suc i) m zip at =
    let more = part-at schema parts meant i m zip.1 at in
    record { part = more.part; at = more.at; is = more.is }

-- a part without a meaning is none
no-part : (schema : List Table) (parts : List code.Part) (meant : List Part) (i : ℕ) → AllZip (IsPart schema) parts meant → slice_get meant i ≡ None → slice_get parts i ≡ None
no-part schema [] [] i zip at = refl
no-part schema [] (n ∷ meant) i zip at = absurd zip
no-part schema (p ∷ parts) [] i zip at = absurd zip
no-part schema (p ∷ parts) (n ∷ meant) zero zip at = absurd (cc)
no-part schema (p ∷ parts) (n ∷ meant) (suc i) zip at = no-part schema parts meant i zip.1 at

pub key-same : (schema : List Table) (parts : List code.Part) (meant : List Part) (i : ℕ) → AllZip (IsPart schema) parts meant → key_in (slice_get parts i) ≡ key_of schema (slice_get meant i)
key-same schema parts meant i zip = go (slice_get meant i) refl
  where
    go : (o : Option Part) → slice_get meant i ≡ o → key_in (slice_get parts i) ≡ key_of schema o
    go None at = ap key_in (no-part schema parts meant i zip at)
    go (Some m) at = let is = part-at schema parts meant i m zip at in ap key_in is.at ∙ is.is.key

-- the joins are those that are meant
pub joins-same : (schema : List Table) (parts : List code.Part) (meant : List Part) (n : ℕ) (joins : List KeyJoin) (means : List Join) → AllZip (IsPart schema) parts meant → AllZip IsJoin joins means
    → join_each schema meant n means ≡ true → map (join_of parts) joins ≡ means
joins-same schema parts meant n [] [] zip all each = refl
joins-same schema parts meant n [] (m ∷ means) zip all each = absurd all
joins-same schema parts meant n (j ∷ joins) [] zip all each = absurd all
joins-same schema parts meant n (j ∷ joins) (m ∷ means) zip all each =
    let ih = joins-same schema parts meant (n + 1) joins means zip all.1 (grind (arith, each)) in
    let at : m.right ≡ n = grind (arith, nat_tests, each) in
    let meant_key : m.key ≡ key_of schema (slice_get meant n) = grind (arith, nat_tests, each) in
    let key : key_in (slice_get parts j.right) ≡ m.key = key-same schema parts meant j.right zip ∙ (ap (λ i. key_of schema (slice_get meant i)) (all.0.right ∙ at) ∙ sym meant_key) in
    let one : join_of parts j ≡ m = made m j.left j.column j.right (key_in (slice_get parts j.right)) all.0.left all.0.column all.0.right key in
    rw (one, ih) refl
  where
    made : (m : Join) (l c r k : ℕ) → l ≡ m.left → c ≡ m.column → r ≡ m.right → k ≡ m.key → record { left = l; column = c; right = r; key = k } ≡ m
    made m l c r k a b d e = rw (a, b, d, e) refl

-- ---- what was found

-- for each part alone
abbrev pub FindsEach : List code.Part → List Run → List (List Shown) → Type 0
FindsEach parts runs found =
    (i need : ℕ) (all : List Row) (test : Row → Bool) → i < length parts → ascend (key_in (slice_get parts i)) all ≡ true → has_column need (key_in (slice_get parts i)) ≡ true
    → AreLent need all test (map (rows_for i) runs) → AreShown need all test (found_at found i)

lent-at : (n i : ℕ) (tables : Tables) (meant : List Part) (runs : List Run) (m : Part) → LendFrom n tables meant runs → slice_get meant i ≡ Some m
    → AreLent m.need (rows_at tables m.table) (points_of m) (map (rows_for (n + i)) runs)
lent-at n i tables [] runs m lend at = absurd (cc)
lent-at n zero tables (p ∷ meant) runs m lend at =
    let same : p ≡ m = cc in
    let one : n + 0 ≡ n = omega arith in
    subst (λ (m : Part). AreLent m.need (rows_at tables m.table) (points_of m) (map (rows_for (n + 0)) runs)) same
    (subst (λ k. AreLent p.need (rows_at tables p.table) (points_of p) (map (rows_for k) runs)) (sym one) lend.0)
lent-at n (suc i) tables (p ∷ meant) runs m lend at =
    let one : n + 1 + i ≡ n + suc i = omega arith in
    subst (λ k. AreLent m.need (rows_at tables m.table) (points_of m) (map (rows_for k) runs)) one (lent-at (n + 1) i tables meant runs m lend.1 at)

needs-at : (schema : List Table) (meant : List Part) (i : ℕ) (m : Part) → list_all (needs_key schema) meant ≡ true → slice_get meant i ≡ Some m → needs_key schema m ≡ true
needs-at schema [] i m all at = absurd (cc)
needs-at schema (p ∷ meant) zero m all at = let same : p ≡ m = cc in subst (λ m. needs_key schema m ≡ true) same (first_so (needs_key schema p) (list_all (needs_key schema) meant) all)
needs-at schema (p ∷ meant) (suc i) m all at = needs-at schema meant i m (second_so (needs_key schema p) (list_all (needs_key schema) meant) all) at

past-end : {A : Type 0} (xs : List A) (i : ℕ) → slice_get xs i ≡ None → length xs ≤ i
past-end [] i at = omega arith
past-end (y ∷ xs) zero at = absurd (cc)
past-end (y ∷ xs) (suc i) at = let ih = past-end xs i at in omega (arith, ih)

none-found : (found : List (List Shown)) (i : ℕ) → length found ≤ i → found_at found i ≡ []
none-found [] i past = refl
none-found (f ∷ found) zero past = absurd (omega (arith, past))
none-found (f ∷ found) (suc i) past = none-found found i (omega (arith, past))

module _ (schema : List Table) (tables : Tables) (query : Query) (meaning : model.Query) (runs : List Run) (found : List (List Shown)) (is : IsJoinable schema tables query meaning)
    (lend : LendFrom 0 tables meaning.parts runs) (finds : FindsEach query.parts runs found) (count : length found ≡ length query.parts) where
  keys : list_all (needs_key schema) meaning.parts ≡ true
  keys = let joined = is.joined in grind (arith, joined)

  each : join_each schema meaning.parts 1 meaning.joins ≡ true
  each = let joined = is.joined in grind (arith, joined)

  -- what was found of a part
  of-part : (i : ℕ) (m : Part) → slice_get meaning.parts i ≡ Some m → AreShown m.need (rows_at tables m.table) (points_of m) (found_at found i) × (are_by (key_in (slice_get query.parts i)) (found_at found i) ≡ true)
  of-part i m at =
      let p = part-at schema query.parts meaning.parts i m is.means.parts at in
      let key : (table_at schema m.table).key ≡ key_in (slice_get query.parts i) = sym (ap key_in p.at ∙ p.is.key) in
      let has : has_column m.need (key_in (slice_get query.parts i)) ≡ true = subst (λ k. has_column m.need k ≡ true) key (needs-at schema meaning.parts i m keys at) in
      let order : ascend (key_in (slice_get query.parts i)) (rows_at tables m.table) ≡ true = subst (λ k. ascend k (rows_at tables m.table) ≡ true) key (is.by_key m.table) in
      let zero_more : 0 + i ≡ i = omega arith in
      let lent = subst (λ k. AreLent m.need (rows_at tables m.table) (points_of m) (map (rows_for k) runs)) zero_more (lent-at 0 i tables meaning.parts runs m lend at) in
      let shown = finds i m.need (rows_at tables m.table) (points_of m) (slice_get_within query.parts i p.part p.at) order has lent in
      (shown, shown-by m.need (key_in (slice_get query.parts i)) (rows_at tables m.table) (points_of m) (found_at found i) has order shown)

  pub are-by : AreBy query.parts found
  are-by i = go (slice_get meaning.parts i) refl
    where
      go : (o : Option Part) → slice_get meaning.parts i ≡ o → are_by (key_in (slice_get query.parts i)) (found_at found i) ≡ true
      go None at =
          let none = no-part schema query.parts meaning.parts i is.means.parts at in
          let past = past-end query.parts i none in
          let empty : found_at found i ≡ [] = none-found found i (subst (λ n. n ≤ i) (sym count) past) in
          rw empty refl
      go (Some m) at = (of-part i m at).1

  pub answers : answers_of query found (found_at found 0) ≡ rows_of meaning tables
  answers = go meaning.parts refl
    where
      joins : map (join_of query.parts) query.joins ≡ meaning.joins
      joins = joins-same schema query.parts meaning.parts 1 query.joins meaning.joins is.means.parts is.means.joins each

      shown : ShowParts tables meaning.parts found
      shown i part at = (of-part i part at).0

      needed : list_all (is_needed meaning.parts) (map output_of query.output) ≡ true
      needed = subst (λ outputs. list_all (is_needed meaning.parts) outputs ≡ true) (sym is.means.outputs) is.outputs

      go : (parts : List Part) → meaning.parts ≡ parts → answers_of query found (found_at found 0) ≡ rows_of meaning tables
      go [] none = absurd (no-joins meaning.joins (subst (λ parts. join_each schema parts 1 meaning.joins ≡ true) none each))
        where
          no-joins : (joins : List Join) → join_each schema [] 1 joins ≡ true → ⊥
          no-joins [] h = absurd (grind (arith, nat_tests, h))
          no-joins (j ∷ joins) h = absurd (grind (arith, nat_tests, h))
      go (part ∷ parts) are =
          let one = answered schema tables meaning.parts found query.output shown needed part parts meaning.joins are each in
          ap (λ joins. flat_map (λ first. map (outputs_of query.output) (choices found joins (first ∷ []))) (found_at found 0)) joins
          ∙ (one ∙ (ap (λ parts. behind tables (map output_of query.output) [] parts meaning.joins) (sym are)
          ∙ ap (λ outputs. behind tables outputs [] meaning.parts meaning.joins) is.means.outputs))

pub right-answer : {E : Type 0} (result : Result (List Row) E) (schema : List Table) (tables : Tables) (query : Query) (meaning : model.Query) (runs : List Run) (found : List (List Shown))
    → IfOk result (λ answer. AreBy query.parts found → answer ≡ answers_of query found (found_at found 0)) → FindsEach query.parts runs found → length found ≡ length query.parts
    → IfOk result (λ answer. IsJoinable schema tables query meaning → LendFrom 0 tables meaning.parts runs → answer ≡ rows_of meaning tables)
right-answer (Err e) schema tables query meaning runs found is finds count = tt
right-answer (Ok answer) schema tables query meaning runs found is finds count =
    λ joinable lend. is (are-by schema tables query meaning runs found joinable lend finds count) ∙ answers schema tables query meaning runs found joinable lend finds count
