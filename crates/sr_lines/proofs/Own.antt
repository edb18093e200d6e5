-- Each query that a statement asks needs no columns but those of its tables.
use Rattle.std.proofs.Common.{◌≡◌, ℕ, zero, suc, ◌+◌, ◌-◌, ◌/◌, ◌^◌, ◌<◌, ◌≤◌, Bool, true, false, List, [], ◌∷◌, ◌++◌, length, take, refl, sym, ap, subst, ◌∙◌, arith, lt-ltb, eqb-true, ltb-true}
use Rattle.std.specs.Prelude.{◌==◌, ◌&&◌, ◌||◌, not, nat_lt, nat_le, map, flat_map, bytes_eq, slice_index_or, Option, Some, None, Ok, if◌then◌else◌}
use Rattle.std.specs.List.{list_all}
use Rattle.std.specs.Cmp.Derive.{both_true}
use Rattle.std.proofs.lemmas.Bool.{and_parts}
use Rattle.std.proofs.lemmas.Bool.Decides.{nat_tests}
use Rattle.std.proofs.lemmas.Grind.{flat_map-append}
use Rattle.std.proofs.lemmas.List.Folds.{list_all-append, list_all-map}
use Rattle.sr_cell.specs.declared.fault.Why.TheVariants.{NotKeyJoin}
use Rattle.sr_cell.specs.declared.table.Column.{Column}
use Rattle.sr_cell.specs.declared.table.Table.{Table}
use Rattle.sr_cell.specs.Attrs.{has_column}
use Rattle.sr_cell.specs.Columns.{table_at}
use Rattle.sr_cell.specs.Names.{is_bad_domain}
use Rattle.sr_cell.proofs.Results.{same_Ok}
use Rattle.sr_cell.proofs.ColumnSets.{no_bits, has_column-shifted, has_column-none}
use Rattle.sr_grammar.specs.declared.statement.Name.{Name}
use Rattle.sr_grammar.specs.declared.statement.JoinOn.{JoinOn}
use Rattle.sr_grammar.specs.Trees as tree
use Rattle.sr_model.specs.Conditions.{Test}
use Rattle.sr_model.specs.Queries.{Join, Output, Query}
use Rattle.sr_query.specs.Bound.{is_table}
use Rattle.sr_query.specs.Binding.{fault, ◌>>=◌, each, sources, tables_from, column_named, output_in, outputs_named, part_named, the_one, column_of_part, resolved, table_of_part, column_of, is_kind, is_key_join, key_join, joins_from, columns_of_part, all_outputs, outputs_of, Bound, Bounds, Testing, Conjunction, Disjunction, Negation, no_more, one_more, test_of, said, bound, bound_all, references, all_references, conjuncts, all_conjuncts, names_one, with_column, needed, join_columns, named_columns, part_of, narrow, parts_from, filter_bound, bound_select}
use Rattle.sr_query.proofs.Steps.{split_ok}
use Rattle.sr_lines.specs.Own.{part_needs_own, needs_own, BoundNeedOwn}
use Rattle.sr_lines.proofs.Selected.{resolved_near, tables_known}
use Rattle.sr_lines.proofs.Sets.{above}
use Rattle.sr_lines.proofs.Sound.{all_narrow}

-- ---- sets of columns

-- a set without columns from that number on
none_from : (attrs n : ℕ) → ((c : ℕ) → n ≤ c → has_column attrs c ≡ false) → (attrs / 2 ^ n == 0) ≡ true
none_from attrs n none = by (attrs / 2 ^ n) (no_bits (attrs / 2 ^ n) (attrs / 2 ^ n) (omega arith) (λ k. sym (has_column-shifted attrs n k) ∙ none (n + k) (omega arith)))
  where
    by : (m : ℕ) → m ≡ 0 → (m == 0) ≡ true
    by m e = grind (arith, nat_tests, e)

-- one column more, at a place that was free, changes nothing from the next on
more_none : (attrs d c : ℕ) → has_column attrs d ≡ false → d < c → has_column (attrs + 2 ^ d) c ≡ has_column attrs c
more_none attrs d c free less =
    let at : d + suc (c - d - 1) ≡ c = omega (arith, less) in
    subst (λ z. has_column (attrs + 2 ^ d) z ≡ has_column attrs z) at (above attrs d (c - d - 1) free)

one_none : (d c : ℕ) → d < c → has_column (2 ^ d) c ≡ false
one_none d c less = let sum : 0 + 2 ^ d ≡ 2 ^ d = omega arith in ap (λ a. has_column a c) (sym sum) ∙ (more_none 0 d c (has_column-none d) less ∙ has_column-none c)

with_none : (attrs d c : ℕ) → d < c → has_column attrs c ≡ false → has_column (with_column d attrs) c ≡ false
with_none attrs d c less none = go (has_column attrs d) refl
  where
    go : (b : Bool) → has_column attrs d ≡ b → has_column (if b then attrs else attrs + 2 ^ d) c ≡ false
    go true is = none
    go false is = more_none attrs d c is less ∙ none

-- an output of another part, or of one of so many columns
abbrev is_below : ℕ → ℕ → Output → Bool
is_below part n o = not (o.part == part) || nat_lt o.column n

needed_none : (part : ℕ) (os : List Output) (attrs n c : ℕ) → list_all (is_below part n) os ≡ true → n ≤ c → has_column attrs c ≡ false → has_column (needed part os attrs) c ≡ false
needed_none part [] attrs n c all le none = none
needed_none part (o ∷ others) attrs n c all le none =
    let p = and_parts (is_below part n o) (list_all (is_below part n) others) all in
    needed_none part others (if o.part == part then with_column o.column attrs else attrs) n c p.1 le (go (o.part == part) refl p.0)
  where
    go : (b : Bool) → (o.part == part) ≡ b → (not b || nat_lt o.column n) ≡ true → has_column (if b then with_column o.column attrs else attrs) c ≡ false
    go true is below = let less : o.column < c = let inside : o.column < n = grind (arith, nat_tests, below) in omega (arith, inside, le) in with_none attrs o.column c less none
    go false is below = none

-- ---- a name means a column of its table

abbrev of_own : List Table → List ℕ → Output → Bool
of_own schema tables o = nat_lt o.column (length (table_of_part schema tables o.part).columns)

column_below : (c : ℕ) (columns : List Column) (name : List ℕ) (k : ℕ) → column_named c columns name ≡ Some k → k < c + length columns
column_below c [] name k e = absurd cc
column_below c (column ∷ columns) name k e = go (bytes_eq column.name name) e (column_below (c + 1) columns name k)
  where
    go : (b : Bool) → (if b then Some c else column_named (c + 1) columns name) ≡ Some k → (column_named (c + 1) columns name ≡ Some k → k < c + 1 + length columns) → k < c + suc (length columns)
    go true e rest = let same : c ≡ k = cc in omega (arith, same)
    go false e rest = let under = rest e in omega (arith, under)

-- so many columns has each of these tables, of which the first is part's
abbrev Has : List Table → (ℕ → ℕ → Bool) → ℕ → List ℕ → Type 0
Has schema p part tables = (k c : ℕ) → k < length tables → c < length (table_at schema (slice_index_or tables k 0)).columns → p (part + k) c ≡ true

abbrev is_good : (ℕ → ℕ → Bool) → Output → Bool
is_good p o = p o.part o.column

first_has : (schema : List Table) (p : ℕ → ℕ → Bool) (part t c : ℕ) (tables : List ℕ) → Has schema p part (t ∷ tables) → c < length (table_at schema t).columns → p part c ≡ true
first_has schema p part t c tables has within = let same : part + 0 ≡ part = omega arith in subst (λ n. p n c ≡ true) same (has 0 c (omega arith) within)

others_have : (schema : List Table) (p : ℕ → ℕ → Bool) (part t : ℕ) (tables : List ℕ) → Has schema p part (t ∷ tables) → Has schema p (part + 1) tables
others_have schema p part t tables has k c under within =
    let same : part + suc k ≡ part + 1 + k = omega arith in subst (λ n. p n c ≡ true) same (has (suc k) c (omega (arith, under)) within)

outputs_good : (schema : List Table) (p : ℕ → ℕ → Bool) (part : ℕ) (tables name : List ℕ) → Has schema p part tables → list_all (is_good p) (outputs_named schema part tables name) ≡ true
outputs_good schema p part [] name has = refl
outputs_good schema p part (t ∷ tables) name has =
    list_all-append (is_good p) (output_in part (column_named 0 (table_at schema t).columns name)) (outputs_named schema (part + 1) tables name)
    ∙ both_true (go (column_named 0 (table_at schema t).columns name) refl) (outputs_good schema p (part + 1) tables name (others_have schema p part t tables has))
  where
    go : (o : Option ℕ) → column_named 0 (table_at schema t).columns name ≡ o → list_all (is_good p) (output_in part o) ≡ true
    go None is = refl
    go (Some c) is = let under = column_below 0 (table_at schema t).columns name c is in both_true (first_has schema p part t c tables has (omega (arith, under))) refl

columns_good : (p : ℕ → ℕ → Bool) (part c : ℕ) (columns : List Column) → ((k : ℕ) → k < c + length columns → p part k ≡ true) → list_all (is_good p) (columns_of_part part c columns) ≡ true
columns_good p part c [] has = refl
columns_good p part c (column ∷ columns) has = both_true (has c (omega arith)) (columns_good p part (c + 1) columns (λ k under. has k (omega (arith, under))))

all_good : (schema : List Table) (p : ℕ → ℕ → Bool) (part : ℕ) (tables : List ℕ) → Has schema p part tables → list_all (is_good p) (all_outputs schema part tables) ≡ true
all_good schema p part [] has = refl
all_good schema p part (t ∷ tables) has =
    list_all-append (is_good p) (columns_of_part part 0 (table_at schema t).columns) (all_outputs schema (part + 1) tables)
    ∙ both_true (columns_good p part 0 (table_at schema t).columns (λ k under. first_has schema p part t k tables has (omega (arith, under)))) (all_good schema p (part + 1) tables (others_have schema p part t tables has))

own_has : (schema : List Table) (tables : List ℕ) → Has schema (λ part c. nat_lt c (length (table_of_part schema tables part).columns)) 0 tables
own_has schema tables k c under within = lt-ltb c (length (table_of_part schema tables (0 + k)).columns) (let same : 0 + k ≡ k = omega arith in subst (λ n. c < length (table_of_part schema tables n).columns) (sym same) within)

one_own : (p : Output → Bool) (place : ℕ) (os : List Output) (o : Output) → the_one place os ≡ Ok o → list_all p os ≡ true → p o ≡ true
one_own p place [] o e all = absurd cc
one_own p place (x ∷ []) o e all = subst (λ y. p y ≡ true) (same_Ok x o e) (and_parts (p x) true all).0
one_own p place (x ∷ y ∷ os) o e all = absurd cc

part_own : (schema : List Table) (tables : List ℕ) (place : ℕ) (column : List ℕ) (part : Option ℕ) (o : Output) → column_of_part schema tables place column part ≡ Ok o → of_own schema tables o ≡ true
part_own schema tables place column None o e = absurd cc
part_own schema tables place column (Some p) o e = go (column_named 0 (table_at schema (slice_index_or tables p 0)).columns column) refl
  where
    go : (c : Option ℕ) → column_named 0 (table_at schema (slice_index_or tables p 0)).columns column ≡ c → of_own schema tables o ≡ true
    go None is = let bad = rw is at e in absurd cc
    go (Some c) is =
        let good = rw is at e in
        let same : record { part = p; column = c } ≡ o = cc in
        let under = column_below 0 (table_at schema (slice_index_or tables p 0)).columns column c is in
        subst (λ x. of_own schema tables x ≡ true) same (lt-ltb c (length (table_at schema (slice_index_or tables p 0)).columns) (omega (arith, under)))

resolved_own : (schema : List Table) (tables : List ℕ) (n : Name) (o : Output) → resolved schema tables n ≡ Ok o → of_own schema tables o ≡ true
resolved_own schema tables n o e = go n.table refl
  where
    go : (t : Option (List ℕ)) → n.table ≡ t → of_own schema tables o ≡ true
    go None is =
        let alone = rw is at e in
        one_own (of_own schema tables) n.place (outputs_named schema 0 tables n.column) o alone
        (outputs_good schema (λ part c. nat_lt c (length (table_of_part schema tables part).columns)) 0 tables n.column (own_has schema tables))
    go (Some table) is = let named = rw is at e in part_own schema tables n.place n.column (part_named schema 0 tables table) o named

each_own : (schema : List Table) (tables : List ℕ) (ns : List Name) (os : List Output) → each (resolved schema tables) ns ≡ Ok os → list_all (of_own schema tables) os ≡ true
each_own schema tables [] os e = subst (λ x. list_all (of_own schema tables) x ≡ true) (same_Ok [] os e) refl
each_own schema tables (n ∷ ns) os e =
    let a = split_ok (resolved schema tables n) (λ o. each (resolved schema tables) ns >>= λ more. Ok (o ∷ more)) os e in
    let b = split_ok (each (resolved schema tables) ns) (λ more. Ok (a.0 ∷ more)) os a.2 in
    subst (λ x. list_all (of_own schema tables) x ≡ true) (same_Ok (a.0 ∷ b.0) os b.2) (both_true (resolved_own schema tables n a.0 a.1) (each_own schema tables ns b.0 b.1))

-- ---- what is selected

selected_own : (schema : List Table) (tables : List ℕ) (s : tree.Select) (os : List Output) → outputs_of schema tables s ≡ Ok os → list_all (of_own schema tables) os ≡ true
selected_own schema tables s os e = go s.all e
  where
    go : (x : Bool) → (if x then Ok (all_outputs schema 0 tables) else each (resolved schema tables) s.list) ≡ Ok os → list_all (of_own schema tables) os ≡ true
    go true e = subst (λ x. list_all (of_own schema tables) x ≡ true) (same_Ok (all_outputs schema 0 tables) os e)
        (all_good schema (λ part c. nat_lt c (length (table_of_part schema tables part).columns)) 0 tables (own_has schema tables))
    go false e = each_own schema tables s.list os e

-- ---- joins

taken : (tables : List ℕ) (n k : ℕ) → k < length (take n tables) → slice_index_or (take n tables) k 0 ≡ slice_index_or tables k 0
taken [] zero k under = refl
taken [] (suc n) k under = refl
taken (t ∷ tables) zero k under = absurd (omega (arith, under))
taken (t ∷ tables) (suc n) zero under = refl
taken (t ∷ tables) (suc n) (suc k) under = taken tables n k (omega (arith, under))

-- what a reference to the first tables means is a column of its table
front_own : (schema : List Table) (tables : List ℕ) (count : ℕ) (n : Name) (o : Output) → resolved schema (take count tables) n ≡ Ok o → of_own schema tables o ≡ true
front_own schema tables count n o e =
    let under = ltb-true o.part (length (take count tables)) (resolved_near schema (take count tables) n o e) in
    subst (λ t. nat_lt o.column (length (table_at schema t).columns) ≡ true) (taken tables count o.part under) (resolved_own schema (take count tables) n o e)

key_part : (a b c d : Bool) → (a && b && c && d) ≡ true → a ≡ true
key_part a b c d h = grind arith

joined_own : (schema : List Table) (tables : List ℕ) (part : ℕ) (one other : Output) (j : Join) → is_key_join schema tables part one other ≡ true
    → record { left = other.part; column = other.column; right = part; key = one.column } ≡ j → of_own schema tables one ≡ true → of_own schema tables other ≡ true → list_all (of_own schema tables) (join_columns j) ≡ true
joined_own schema tables part one other j is same own_one own_other =
    let at : one.part ≡ part = eqb-true one.part part (key_part (one.part == part) (one.column == (table_of_part schema tables part).key) (nat_lt other.part part) (is_kind (column_of schema tables one).kind (column_of schema tables other).kind) is) in
    subst (λ j. list_all (of_own schema tables) (join_columns j) ≡ true) same
    (both_true own_other (both_true (subst (λ n. nat_lt one.column (length (table_of_part schema tables n).columns) ≡ true) at own_one) refl))

join_own : (schema : List Table) (tables : List ℕ) (part place : ℕ) (left right : Output) (j : Join) → key_join schema tables part place left right ≡ Ok j → of_own schema tables left ≡ true → of_own schema tables right ≡ true
    → list_all (of_own schema tables) (join_columns j) ≡ true
join_own schema tables part place left right j e own_left own_right = go (is_key_join schema tables part left right) refl (is_key_join schema tables part right left) refl e
  where
    go : (a : Bool) → is_key_join schema tables part left right ≡ a → (b : Bool) → is_key_join schema tables part right left ≡ b
        → (if a then Ok (record { left = right.part; column = right.column; right = part; key = left.column })
        else (if b then Ok (record { left = left.part; column = left.column; right = part; key = right.column }) else fault NotKeyJoin place)) ≡ Ok j
        → list_all (of_own schema tables) (join_columns j) ≡ true
    go true is b other e = joined_own schema tables part left right j is (same_Ok _ j e) own_left own_right
    go false other true is e = joined_own schema tables part right left j is (same_Ok _ j e) own_right own_left
    go false other false none e = absurd cc

joins_own : (schema : List Table) (tables : List ℕ) (part : ℕ) (js : List JoinOn) (joins : List Join) → joins_from schema tables part js ≡ Ok joins → list_all (of_own schema tables) (flat_map join_columns joins) ≡ true
joins_own schema tables part [] joins e = subst (λ x. list_all (of_own schema tables) (flat_map join_columns x) ≡ true) (same_Ok [] joins e) refl
joins_own schema tables part (j ∷ js) joins e =
    let left = split_ok (resolved schema (take (part + 1) tables) j.left) _ joins e in
    let right = split_ok (resolved schema (take (part + 1) tables) j.right) _ joins left.2 in
    let join = split_ok (key_join schema tables part j.place left.0 right.0) _ joins right.2 in
    let others = split_ok (joins_from schema tables (part + 1) js) _ joins join.2 in
    subst (λ x. list_all (of_own schema tables) (flat_map join_columns x) ≡ true) (same_Ok (join.0 ∷ others.0) joins others.2)
    (list_all-append (of_own schema tables) (join_columns join.0) (flat_map join_columns others.0)
    ∙ both_true (join_own schema tables part j.place left.0 right.0 join.0 join.1 (front_own schema tables (part + 1) j.left left.0 left.1) (front_own schema tables (part + 1) j.right right.0 right.1))
    (joins_own schema tables (part + 1) js others.0 others.1))

-- ---- what is compared

abbrev is_own : List Table → List ℕ → ℕ × Output → Bool
is_own schema tables r = of_own schema tables r.1

said_own : (schema : List Table) (tables : List ℕ) (place : ℕ) (o : Output) (t : Bool × Test) → of_own schema tables o ≡ true → list_all (is_own schema tables) (references (said place o t)) ≡ true
said_own schema tables place o (true, t) own = both_true own refl
said_own schema tables place o (false, t) own = both_true own refl

mutual
  bound_own : (schema : List Table) (tables : List ℕ) (c : tree.Cond) (b : Bound) → bound schema tables c ≡ Ok b → list_all (is_own schema tables) (references b) ≡ true
  bound_own schema tables (tree.Test n a) b e =
      let o = split_ok (resolved schema tables n) _ b e in
      let t = split_ok (test_of (column_of schema tables o.0).kind a) _ b o.2 in
      subst (λ b. list_all (is_own schema tables) (references b) ≡ true) (same_Ok (said n.place o.0 t.0) b t.2) (said_own schema tables n.place o.0 t.0 (resolved_own schema tables n o.0 o.1))
  bound_own schema tables (tree.And cs) b e =
      let bs = split_ok (bound_all schema tables cs) (λ bs. Ok (Conjunction bs)) b e in
      subst (λ b. list_all (is_own schema tables) (references b) ≡ true) (same_Ok (Conjunction bs.0) b bs.2) (bounds_own schema tables cs bs.0 bs.1)
  bound_own schema tables (tree.Or cs) b e =
      let bs = split_ok (bound_all schema tables cs) (λ bs. Ok (Disjunction bs)) b e in
      subst (λ b. list_all (is_own schema tables) (references b) ≡ true) (same_Ok (Disjunction bs.0) b bs.2) (bounds_own schema tables cs bs.0 bs.1)
  bound_own schema tables (tree.Not c) b e =
      let inner = split_ok (bound schema tables c) (λ b. Ok (Negation b)) b e in
      subst (λ b. list_all (is_own schema tables) (references b) ≡ true) (same_Ok (Negation inner.0) b inner.2) (bound_own schema tables c inner.0 inner.1)

  bounds_own : (schema : List Table) (tables : List ℕ) (cs : tree.Conds) (bs : Bounds) → bound_all schema tables cs ≡ Ok bs → list_all (is_own schema tables) (all_references bs) ≡ true
  bounds_own schema tables tree.none bs e = subst (λ bs. list_all (is_own schema tables) (all_references bs) ≡ true) (same_Ok no_more bs e) refl
  bounds_own schema tables (tree.more c cs) bs e =
      let one = split_ok (bound schema tables c) (λ b. bound_all schema tables cs >>= λ more. Ok (one_more b more)) bs e in
      let more = split_ok (bound_all schema tables cs) (λ more. Ok (one_more one.0 more)) bs one.2 in
      subst (λ bs. list_all (is_own schema tables) (all_references bs) ≡ true) (same_Ok (one_more one.0 more.0) bs more.2)
      (list_all-append (is_own schema tables) (references one.0) (all_references more.0) ∙ both_true (bound_own schema tables c one.0 one.1) (bounds_own schema tables cs more.0 more.1))

-- the references of the conjuncts are those of the condition
alone : (p : ℕ × Output → Bool) (rs : List (ℕ × Output)) → list_all p rs ≡ true → list_all p (rs ++ []) ≡ true
alone p rs all = list_all-append p rs [] ∙ both_true all refl

mutual
  conjuncts_own : (p : ℕ × Output → Bool) (b : Bound) → list_all p (references b) ≡ true → list_all p (flat_map references (conjuncts b)) ≡ true
  conjuncts_own p (Testing place o t) all = alone p ((place, o) ∷ []) all
  conjuncts_own p (Conjunction bs) all = all_conjuncts_own p bs all
  conjuncts_own p (Disjunction bs) all = alone p (all_references bs) all
  conjuncts_own p (Negation b) all = alone p (references b) all

  all_conjuncts_own : (p : ℕ × Output → Bool) (bs : Bounds) → list_all p (all_references bs) ≡ true → list_all p (flat_map references (all_conjuncts bs)) ≡ true
  all_conjuncts_own p no_more all = refl
  all_conjuncts_own p (one_more b bs) all =
      let both = and_parts (list_all p (references b)) (list_all p (all_references bs)) (sym (list_all-append p (references b) (all_references bs)) ∙ all) in
      ap (list_all p) (flat_map-append references (conjuncts b) (all_conjuncts bs))
      ∙ (list_all-append p (flat_map references (conjuncts b)) (flat_map references (all_conjuncts bs)) ∙ both_true (conjuncts_own p b both.0) (all_conjuncts_own p bs both.1))

filter_own : (schema : List Table) (tables : List ℕ) (c : Option tree.Cond) (bs : List Bound) → filter_bound schema tables c ≡ Ok bs → list_all (is_own schema tables) (flat_map references bs) ≡ true
filter_own schema tables None bs e = subst (λ bs. list_all (is_own schema tables) (flat_map references bs) ≡ true) (same_Ok [] bs e) refl
filter_own schema tables (Some c) bs e =
    let one = split_ok (bound schema tables c) (λ b. Ok (conjuncts b)) bs e in
    subst (λ bs. list_all (is_own schema tables) (flat_map references bs) ≡ true) (same_Ok (conjuncts one.0) bs one.2) (conjuncts_own (is_own schema tables) one.0 (bound_own schema tables c one.0 one.1))

-- ---- all that is named

named_own : (schema : List Table) (tables : List ℕ) (outputs : List Output) (joins : List Join) (bs : List Bound) → list_all (of_own schema tables) outputs ≡ true → list_all (of_own schema tables) (flat_map join_columns joins) ≡ true
    → list_all (is_own schema tables) (flat_map references bs) ≡ true → list_all (of_own schema tables) (named_columns outputs joins bs) ≡ true
named_own schema tables outputs joins bs a b c =
    let compared = map (λ (r : ℕ × Output). r.1) (flat_map references bs) in
    list_all-append (of_own schema tables) outputs (flat_map join_columns joins ++ compared)
    ∙ both_true a (list_all-append (of_own schema tables) (flat_map join_columns joins) compared ∙ both_true b (list_all-map (of_own schema tables) (λ (r : ℕ × Output). r.1) (flat_map references bs) ∙ c))

-- ---- the parts

known_table : (schema : List Table) (t : ℕ) → list_all is_table schema ≡ true → t < length schema → is_table (table_at schema t) ≡ true
known_table [] t all under = absurd (omega (arith, under))
known_table (table ∷ schema) zero all under = (and_parts (is_table table) (list_all is_table schema) all).0
known_table (table ∷ schema) (suc t) all under = known_table schema t (and_parts (is_table table) (list_all is_table schema) all).1 (omega (arith, under))

key_below : (t : Table) → is_table t ≡ true → t.key < length t.columns
key_below t is =
    let columns = (and_parts (nat_le (length t.columns) 12 && nat_lt t.key (length t.columns) && list_all (λ c. not (is_bad_domain c)) t.columns) _ is).0 in
    let sizes = (and_parts (nat_le (length t.columns) 12 && nat_lt t.key (length t.columns)) (list_all (λ c. not (is_bad_domain c)) t.columns) columns).0 in
    ltb-true t.key (length t.columns) (and_parts (nat_le (length t.columns) 12) (nat_lt t.key (length t.columns)) sizes).1

below_own : (schema : List Table) (tables : List ℕ) (part t : ℕ) (os : List Output) → slice_index_or tables part 0 ≡ t → list_all (of_own schema tables) os ≡ true → list_all (is_below part (length (table_at schema t).columns)) os ≡ true
below_own schema tables part t [] at all = refl
below_own schema tables part t (o ∷ os) at all =
    let p = and_parts (of_own schema tables o) (list_all (of_own schema tables) os) all in
    both_true (go (o.part == part) refl) (below_own schema tables part t os at p.1)
  where
    go : (b : Bool) → (o.part == part) ≡ b → (not b || nat_lt o.column (length (table_at schema t).columns)) ≡ true
    go true is =
        let same : slice_index_or tables o.part 0 ≡ t = ap (λ n. slice_index_or tables n 0) (eqb-true o.part part is) ∙ at in
        subst (λ t. nat_lt o.column (length (table_at schema t).columns) ≡ true) same (and_parts (of_own schema tables o) (list_all (of_own schema tables) os) all).0
    go false is = refl

part_is_own : (schema : List Table) (tables : List ℕ) (part t : ℕ) (columns : List Output) (bs : List Bound) → list_all is_table schema ≡ true → nat_lt t (length schema) ≡ true → slice_index_or tables part 0 ≡ t
    → list_all (of_own schema tables) columns ≡ true → part_needs_own schema (part_of schema part t columns bs) ≡ true
part_is_own schema tables part t columns bs all known at own =
    let n = length (table_at schema t).columns in
    let key = (table_at schema t).key in
    let under = key_below (table_at schema t) (known_table schema t all (ltb-true t (length schema) known)) in
    none_from (needed part columns (2 ^ (table_at schema t).key)) (length (table_at schema t).columns) (λ c le.
    needed_none part columns (2 ^ (table_at schema t).key) (length (table_at schema t).columns) c (below_own schema tables part t columns at own) le (one_none (table_at schema t).key c (omega (arith, under, le))))

-- the tables from that part on
abbrev Goes : List ℕ → ℕ → List ℕ → Type 0
Goes tables part more = (k : ℕ) → k < length more → slice_index_or tables (part + k) 0 ≡ slice_index_or more k 0

parts_own : (schema : List Table) (tables : List ℕ) (part : ℕ) (more : List ℕ) (columns : List Output) (bs : List Bound) → list_all is_table schema ≡ true → list_all (λ t. nat_lt t (length schema)) more ≡ true → Goes tables part more
    → list_all (of_own schema tables) columns ≡ true → list_all (part_needs_own schema) (parts_from schema part more columns bs) ≡ true
parts_own schema tables part [] columns bs all known goes own = refl
parts_own schema tables part (t ∷ more) columns bs all known goes own =
    let p = and_parts (nat_lt t (length schema)) (list_all (λ t. nat_lt t (length schema)) more) known in
    let here : part + 0 ≡ part = omega arith in
    both_true (part_is_own schema tables part t columns bs all p.0 (ap (λ n. slice_index_or tables n 0) (sym here) ∙ goes 0 (omega arith)) own)
    (parts_own schema tables (part + 1) more columns bs all p.1 (λ k under. let next : part + 1 + k ≡ part + suc k = omega arith in ap (λ n. slice_index_or tables n 0) next ∙ goes (suc k) (omega (arith, under))) own)

-- ---- a query

select_own : (schema : List Table) (s : tree.Select) (q : Query) → list_all is_table schema ≡ true → bound_select schema s ≡ Ok q → needs_own schema q ≡ true
select_own schema s q all e =
    let tables = split_ok (tables_from schema [] (sources s)) _ q e in
    let joins = split_ok (joins_from schema tables.0 1 s.joins) _ q tables.2 in
    let outputs = split_ok (outputs_of schema tables.0 s) _ q joins.2 in
    let bs = split_ok (filter_bound schema tables.0 s.filter) _ q outputs.2 in
    let named = split_ok (each (λ b. names_one (references b)) bs.0) _ q bs.2 in
    let columns = named_columns outputs.0 joins.0 bs.0 in
    let parts = split_ok (each narrow (parts_from schema 0 tables.0 columns bs.0)) _ q named.2 in
    let own = named_own schema tables.0 outputs.0 joins.0 bs.0 (selected_own schema tables.0 s outputs.0 outputs.1) (joins_own schema tables.0 1 s.joins joins.0 joins.1) (filter_own schema tables.0 s.filter bs.0 bs.1) in
    let are = parts_own schema tables.0 0 tables.0 columns bs.0 all (tables_known schema [] (sources s) tables.0 refl tables.1)
    (λ k under. let same : 0 + k ≡ k = omega arith in ap (λ n. slice_index_or tables.0 n 0) same) own in
    subst (λ (q : Query). needs_own schema q ≡ true) (same_Ok _ q parts.2)
    (subst (λ ps. list_all (part_needs_own schema) ps ≡ true) (all_narrow (parts_from schema 0 tables.0 columns bs.0) parts.0 parts.1) are)

pub bound_need_own : BoundNeedOwn
bound_need_own schema (tree.Selects s) q all e = select_own schema s q all e
bound_need_own schema (tree.Create t) q all e = absurd cc
bound_need_own schema (tree.Inserts s) q all e = absurd cc
bound_need_own schema (tree.Updates s) q all e = absurd cc
bound_need_own schema (tree.Deletes s) q all e = absurd cc
