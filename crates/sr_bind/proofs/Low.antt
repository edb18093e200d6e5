-- The columns that a query names are among the first twelve of their tables, and its parts are those of its tables.
use Rattle.std.proofs.Common.{◌≡◌, ℕ, zero, suc, ◌+◌, ◌<◌, ◌≤◌, Bool, true, false, List, [], ◌∷◌, ◌++◌, length, take, map, flat_map, refl, subst, ◌∙◌, arith}
use Rattle.std.specs.Prelude.{◌==◌, ◌&&◌, nat_lt, Ok, Option, Some, None, bytes_eq, slice_index_or, if◌then◌else◌}
use Rattle.std.specs.List.{list_all}
use Rattle.std.specs.Cmp.Derive.{both_true}
use Rattle.std.proofs.lemmas.Bool.{and_parts, eqb-true}
use Rattle.std.proofs.lemmas.Bool.Decides.{nat_tests}
use Rattle.std.proofs.lemmas.List.{length-take}
use Rattle.std.proofs.lemmas.List.Folds.{list_all-append, list_all-map}
use Rattle.sr_cell.specs.declared.fault.Why.TheVariants.{NotKeyJoin}
use Rattle.sr_cell.specs.declared.table.Column.{Column}
use Rattle.sr_cell.specs.declared.table.Table.{Table}
use Rattle.sr_cell.specs.Columns.{table_at}
use Rattle.sr_grammar.specs.declared.statement.Name.{Name}
use Rattle.sr_grammar.specs.declared.statement.JoinOn.{JoinOn}
use Rattle.sr_grammar.specs.Trees.{Select}
use Rattle.sr_model.specs.Queries.{Output, Join}
use Rattle.sr_query.specs.Binding.{fault, ◌>>=◌, each, column_named, output_in, outputs_named, part_named, the_one, column_of_part, resolved, is_key_join, key_join, joins_from, join_columns, columns_of_part, all_outputs, outputs_of, table_of_part, Bound, Bounds, Testing, Conjunction, Disjunction, Negation, no_more, one_more, references, all_references, named_columns}
use Rattle.sr_query.specs.Bound.{is_table}
use Rattle.sr_query.proofs.Steps.{split_ok, part_within}
use Rattle.sr_resolve.specs.Known.{is_within}
use Rattle.sr_bind.specs.AreBound.{are_bound, all_are_bound}
use Rattle.sr_bind.specs.Needs.{is_low, is_joined, is_near_join}

-- a column of a table, of so many parts
abbrev pub is_near : ℕ → Output → Bool
is_near parts o = nat_lt o.part parts && is_low o

pub few_columns : (schema : List Table) (t : ℕ) → list_all is_table schema ≡ true → length (table_at schema t).columns ≤ 12
few_columns [] t sound = search arith
few_columns (table ∷ schema) zero sound = let x = and_parts (is_table table) _ sound in grind (arith, nat_tests, x)
few_columns (table ∷ schema) (suc t) sound = let x = and_parts (is_table table) _ sound in few_columns schema t x.1

pub column_within : (c k : ℕ) (columns : List Column) (name : List ℕ) → column_named c columns name ≡ Some k → k < c + length columns
column_within c k [] name e = absurd cc
column_within c k (column ∷ columns) name e = go (bytes_eq column.name name) e (column_within (c + 1) k columns name)
  where
    go : (x : Bool) → (if x then Some c else column_named (c + 1) columns name) ≡ Some k → (column_named (c + 1) columns name ≡ Some k → k < c + 1 + length columns) → k < c + suc (length columns)
    go true e rest = let same : c ≡ k = cc in omega arith
    go false e rest = let less = rest e in omega arith

pub near : (parts part c : ℕ) → part < parts → c < 12 → is_near parts (record { part = part; column = c }) ≡ true
near parts part c one two = grind (arith, nat_tests)

outputs_near : (schema : List Table) (parts part : ℕ) (tables name : List ℕ) → list_all is_table schema ≡ true → part + length tables ≤ parts → list_all (is_near parts) (outputs_named schema part tables name) ≡ true
outputs_near schema parts part [] name sound all = refl
outputs_near schema parts part (t ∷ tables) name sound all =
    list_all-append (is_near parts) (output_in part (column_named 0 (table_at schema t).columns name)) _
    ∙ both_true (go (column_named 0 (table_at schema t).columns name) refl) (outputs_near schema parts (part + 1) tables name sound (omega arith))
  where
    go : (o : Option ℕ) → column_named 0 (table_at schema t).columns name ≡ o → list_all (is_near parts) (output_in part o) ≡ true
    go None e = refl
    go (Some c) e =
        let less = column_within 0 c (table_at schema t).columns name e in
        let few = few_columns schema t sound in
        both_true (near parts part c (omega arith) (omega arith)) refl

one_near : (parts place : ℕ) (os : List Output) (o : Output) → the_one place os ≡ Ok o → list_all (is_near parts) os ≡ true → is_near parts o ≡ true
one_near parts place [] o e all = absurd cc
one_near parts place (p ∷ []) o e all = let same : p ≡ o = cc in subst (λ x. is_near parts x ≡ true) same (and_parts (is_near parts p) true all).0
one_near parts place (p ∷ q ∷ os) o e all = absurd cc

by_table : (schema : List Table) (tables : List ℕ) (place : ℕ) (column : List ℕ) (part : Option ℕ) (o : Output) → list_all is_table schema ≡ true
    → ((p : ℕ) → part ≡ Some p → p < length tables) → column_of_part schema tables place column part ≡ Ok o → is_near (length tables) o ≡ true
by_table schema tables place column None o sound less e = absurd cc
by_table schema tables place column (Some p) o sound less e = go (column_named 0 (table_at schema (slice_index_or tables p 0)).columns column) refl
  where
    go : (c : Option ℕ) → column_named 0 (table_at schema (slice_index_or tables p 0)).columns column ≡ c → is_near (length tables) o ≡ true
    go None is = let bad = rw is at e in absurd cc
    go (Some c) is =
        let good = rw is at e in
        let same : record { part = p; column = c } ≡ o = cc in
        let within = column_within 0 c (table_at schema (slice_index_or tables p 0)).columns column is in
        let few = few_columns schema (slice_index_or tables p 0) sound in
        subst (λ x. is_near (length tables) x ≡ true) same (near (length tables) p c (less p refl) (omega arith))

pub resolved_near : (schema : List Table) (tables : List ℕ) (n : Name) (o : Output) → list_all is_table schema ≡ true → resolved schema tables n ≡ Ok o → is_near (length tables) o ≡ true
resolved_near schema tables n o sound e = go n.table refl
  where
    go : (t : Option (List ℕ)) → n.table ≡ t → is_near (length tables) o ≡ true
    go None is =
        let alone = rw is at e in
        one_near (length tables) n.place (outputs_named schema 0 tables n.column) o alone (outputs_near schema (length tables) 0 tables n.column sound (omega arith))
    go (Some table) is =
        let named = rw is at e in
        by_table schema tables n.place n.column (part_named schema 0 tables table) o sound (λ p found. let less = part_within schema 0 p tables table found in omega arith) named

-- ---- what is selected

low_of_near : (parts : ℕ) (o : Output) → is_near parts o ≡ true → is_low o ≡ true
low_of_near parts o h = (and_parts (nat_lt o.part parts) _ h).1

each_low : (schema : List Table) (tables : List ℕ) (ns : List Name) (os : List Output) → list_all is_table schema ≡ true → each (resolved schema tables) ns ≡ Ok os → list_all is_low os ≡ true
each_low schema tables [] os sound e = let same : [] ≡ os = cc in subst (λ x. list_all is_low x ≡ true) same refl
each_low schema tables (n ∷ ns) os sound e =
    let a = split_ok (resolved schema tables n) (λ o. each (resolved schema tables) ns >>= λ more. Ok (o ∷ more)) os e in
    let b = split_ok (each (resolved schema tables) ns) (λ more. Ok (a.0 ∷ more)) os a.2 in
    let last = b.2 in
    let same : a.0 ∷ b.0 ≡ os = cc in
    subst (λ x. list_all is_low x ≡ true) same
    (both_true (low_of_near (length tables) a.0 (resolved_near schema tables n a.0 sound a.1)) (each_low schema tables ns b.0 sound b.1))

columns_low : (part c : ℕ) (columns : List Column) → c + length columns ≤ 12 → list_all is_low (columns_of_part part c columns) ≡ true
columns_low part c [] few = refl
columns_low part c (column ∷ columns) few =
    let low : is_low (record { part = part; column = c }) ≡ true = grind (arith, nat_tests) in both_true low (columns_low part (c + 1) columns (omega arith))

all_low : (schema : List Table) (part : ℕ) (tables : List ℕ) → list_all is_table schema ≡ true → list_all is_low (all_outputs schema part tables) ≡ true
all_low schema part [] sound = refl
all_low schema part (t ∷ tables) sound =
    list_all-append is_low (columns_of_part part 0 (table_at schema t).columns) _
    ∙ both_true (columns_low part 0 (table_at schema t).columns (let few = few_columns schema t sound in omega arith)) (all_low schema (part + 1) tables sound)

pub outputs_low : (schema : List Table) (tables : List ℕ) (s : Select) (os : List Output) → list_all is_table schema ≡ true → outputs_of schema tables s ≡ Ok os → list_all is_low os ≡ true
outputs_low schema tables s os sound e = go s.all refl
  where
    go : (x : Bool) → s.all ≡ x → list_all is_low os ≡ true
    go true is =
        let all = rw is at e in
        let same : all_outputs schema 0 tables ≡ os = cc in subst (λ x. list_all is_low x ≡ true) same (all_low schema 0 tables sound)
    go false is = let listed = rw is at e in each_low schema tables s.list os sound listed

-- ---- joins

first_near : (n parts : ℕ) (tables : List ℕ) (o : Output) → is_near (length (take n tables)) o ≡ true → is_near (length tables) o ≡ true
first_near n parts tables o h = grind (arith, nat_tests, and_parts (nat_lt o.part (length (take n tables))) _ h, length-take n tables)

one_way : (schema : List Table) (tables : List ℕ) (part place : ℕ) (one other : Output) → is_near (length tables) one ≡ true → is_near (length tables) other ≡ true
    → is_key_join schema tables part one other ≡ true → is_near_join (length tables) (record { left = other.part; column = other.column; right = part; key = one.column }) ≡ true
one_way schema tables part place one other a b is =
    let key = (table_of_part schema tables part).key in
    let kinds = and_parts (one.part == part && one.column == key && nat_lt other.part part) _ is in
    let earlier = and_parts (one.part == part && one.column == key) _ kinds.0 in
    let keys = and_parts (one.part == part) _ earlier.0 in
    let within : nat_lt part (length tables) ≡ true =
    subst (λ p. nat_lt p (length tables) ≡ true) (eqb-true one.part part keys.0) (and_parts (nat_lt one.part (length tables)) _ a).0 in
    both_true within (both_true (low_of_near (length tables) other b) (both_true (low_of_near (length tables) one a) refl))

joined_near : (schema : List Table) (tables : List ℕ) (part place : ℕ) (left right : Output) (j : Join) → is_near (length tables) left ≡ true → is_near (length tables) right ≡ true
    → key_join schema tables part place left right ≡ Ok j → is_near_join (length tables) j ≡ true
joined_near schema tables part place left right j a b e = go (is_key_join schema tables part left right) (is_key_join schema tables part right left) refl refl e
  where
    go : (x y : Bool) → is_key_join schema tables part left right ≡ x → is_key_join schema tables part right left ≡ y
        → (if x then Ok (record { left = right.part; column = right.column; right = part; key = left.column })
        else (if y then Ok (record { left = left.part; column = left.column; right = part; key = right.column }) else fault NotKeyJoin place)) ≡ Ok j
        → is_near_join (length tables) j ≡ true
    go true y is on e = let same : record { left = right.part; column = right.column; right = part; key = left.column } ≡ j = cc in subst (λ x. is_near_join (length tables) x ≡ true) same (one_way schema tables part place left right a b is)
    go false true is on e = let same : record { left = left.part; column = left.column; right = part; key = right.column } ≡ j = cc in subst (λ x. is_near_join (length tables) x ≡ true) same (one_way schema tables part place right left b a on)
    go false false is on e = absurd cc

join_more : (parts : ℕ) (j : Join) (others js : List Join) → j ∷ others ≡ js → is_near_join parts j ≡ true → list_all (is_near_join parts) others ≡ true → list_all (is_near_join parts) js ≡ true
join_more parts j others js same one rest = subst (λ x. list_all (is_near_join parts) x ≡ true) same (both_true one rest)

pub joins_near : (schema : List Table) (tables : List ℕ) (part : ℕ) (joins : List JoinOn) (js : List Join) → list_all is_table schema ≡ true → joins_from schema tables part joins ≡ Ok js
    → list_all (is_near_join (length tables)) js ≡ true
joins_near schema tables part [] js sound e = let same : [] ≡ js = cc in subst (λ x. list_all (is_near_join (length tables)) x ≡ true) same refl
joins_near schema tables part (j ∷ joins) js sound e =
    let seen = take (part + 1) tables in
    let a = split_ok (resolved schema seen j.left) (λ left. resolved schema seen j.right >>= λ right. key_join schema tables part j.place left right >>= λ join. joins_from schema tables (part + 1) joins >>= λ others. Ok (join ∷ others)) js e in
    let b = split_ok (resolved schema seen j.right) (λ right. key_join schema tables part j.place a.0 right >>= λ join. joins_from schema tables (part + 1) joins >>= λ others. Ok (join ∷ others)) js a.2 in
    let d = split_ok (key_join schema tables part j.place a.0 b.0) (λ join. joins_from schema tables (part + 1) joins >>= λ others. Ok (join ∷ others)) js b.2 in
    let f = split_ok (joins_from schema tables (part + 1) joins) (λ others. Ok (d.0 ∷ others)) js d.2 in
    let last = f.2 in
    let left = first_near (part + 1) (length tables) tables a.0 (resolved_near schema seen j.left a.0 sound a.1) in
    let right = first_near (part + 1) (length tables) tables b.0 (resolved_near schema seen j.right b.0 sound b.1) in
    join_more (length tables) d.0 f.0 js (cc) (joined_near schema tables part j.place a.0 b.0 d.0 left right d.1) (joins_near schema tables (part + 1) joins f.0 sound f.1)

-- ---- what is compared

mutual
  one_low : (schema : List Table) (tables : List ℕ) (b : Bound) → list_all is_table schema ≡ true → are_bound schema tables b ≡ true → list_all (λ r. is_low r.1) (references b) ≡ true
  one_low schema tables (Testing place o t) sound bound =
      let a = and_parts (is_within schema tables o) _ bound in
      let b = and_parts (nat_lt o.part (length tables)) _ a.0 in
      let few = few_columns schema (slice_index_or tables o.part 0) sound in
      let low : is_low o ≡ true = grind (arith, nat_tests, b.1, few) in
      both_true low refl
  one_low schema tables (Conjunction bs) sound bound = members_low schema tables bs sound bound
  one_low schema tables (Disjunction bs) sound bound = members_low schema tables bs sound bound
  one_low schema tables (Negation b) sound bound = one_low schema tables b sound bound

  members_low : (schema : List Table) (tables : List ℕ) (bs : Bounds) → list_all is_table schema ≡ true → all_are_bound schema tables bs ≡ true → list_all (λ r. is_low r.1) (all_references bs) ≡ true
  members_low schema tables no_more sound bound = refl
  members_low schema tables (one_more b bs) sound bound =
      let x = and_parts (are_bound schema tables b) _ bound in
      list_all-append (λ r. is_low r.1) (references b) (all_references bs) ∙ both_true (one_low schema tables b sound x.0) (members_low schema tables bs sound x.1)

compared_low : (schema : List Table) (tables : List ℕ) (bs : List Bound) → list_all is_table schema ≡ true → list_all (are_bound schema tables) bs ≡ true → list_all (λ r. is_low r.1) (flat_map references bs) ≡ true
compared_low schema tables [] sound bound = refl
compared_low schema tables (b ∷ bs) sound bound =
    let x = and_parts (are_bound schema tables b) _ bound in
    list_all-append (λ r. is_low r.1) (references b) (flat_map references bs) ∙ both_true (one_low schema tables b sound x.0) (compared_low schema tables bs sound x.1)

joined_low : (parts : ℕ) (js : List Join) → list_all (is_near_join parts) js ≡ true → list_all is_low (flat_map join_columns js) ≡ true
joined_low parts [] near = refl
joined_low parts (j ∷ js) near =
    let x = and_parts (is_near_join parts j) _ near in
    list_all-append is_low (join_columns j) (flat_map join_columns js) ∙ both_true (and_parts (is_joined parts j) _ x.0).1 (joined_low parts js x.1)

pub are_joined : (parts : ℕ) (js : List Join) → list_all (is_near_join parts) js ≡ true → list_all (is_joined parts) js ≡ true
are_joined parts [] near = refl
are_joined parts (j ∷ js) near = let x = and_parts (is_near_join parts j) _ near in both_true (and_parts (is_joined parts j) _ x.0).0 (are_joined parts js x.1)

pub named_low : (schema : List Table) (tables : List ℕ) (outputs : List Output) (js : List Join) (bs : List Bound) → list_all is_table schema ≡ true → list_all is_low outputs ≡ true
    → list_all (is_near_join (length tables)) js ≡ true → list_all (are_bound schema tables) bs ≡ true → list_all is_low (named_columns outputs js bs) ≡ true
named_low schema tables outputs js bs sound low near bound =
    let compared = list_all-map is_low (λ r. r.1) (flat_map references bs) ∙ compared_low schema tables bs sound bound in
    let others : list_all is_low (flat_map join_columns js ++ map (λ r. r.1) (flat_map references bs)) ≡ true =
    list_all-append is_low (flat_map join_columns js) _ ∙ both_true (joined_low (length tables) js near) compared in
    list_all-append is_low outputs _ ∙ both_true low others
