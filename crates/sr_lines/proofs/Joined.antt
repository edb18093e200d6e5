-- Each query that a statement asks is joined by keys.
use Rattle.std.proofs.Common.{◌≡◌, ℕ, zero, suc, ◌+◌, ◌^◌, ◌<◌, ◌≤◌, Bool, true, false, List, [], ◌∷◌, ◌++◌, length, refl, sym, ap, subst, ◌∙◌, arith, length-append}
use Rattle.std.specs.Prelude.{◌==◌, nat_le, nat_lt, slice_get, map, flat_map, Option, Some, None, Ok, if◌then◌else◌}
use Rattle.std.specs.List.{list_any, list_all}
use Rattle.std.specs.Cmp.Derive.{both_true}
use Rattle.std.proofs.lemmas.Bool.{and_parts, lt-ltb}
use Rattle.std.proofs.lemmas.Bool.Decides.{nat_tests}
use Rattle.sr_cell.specs.declared.fault.Why.TheVariants.{NotKeyJoin, Repeated, TooManyTables}
use Rattle.sr_cell.specs.declared.table.Table.{Table}
use Rattle.sr_cell.specs.Columns.{table_at}
use Rattle.sr_cell.specs.Names.{table_named}
use Rattle.sr_cell.proofs.Results.{same_Ok}
use Rattle.sr_grammar.specs.declared.statement.JoinOn.{JoinOn}
use Rattle.sr_grammar.specs.Words.{Word}
use Rattle.sr_grammar.specs.Trees as tree
use Rattle.sr_model.specs.Queries.{Part, Join, Output, Query}
use Rattle.sr_query.specs.Binding.{fault, ◌>>=◌, each, is_among, new_table, sources, tables_from, resolved, table_of_part, is_key_join, key_join, joins_from, outputs_of, filter_bound, names_one, references, narrow, needed, named_columns, join_columns, parts_from, Bound, bound_select}
use Rattle.sr_query.specs.Joined.{needs_column, is_needed, needs_key, key_of, join_each, are_different, is_joined}
use Rattle.sr_query.proofs.Steps.{split_ok}
use Rattle.sr_lines.specs.Joined.{BoundAreJoined, BoundHaveFewParts}
use Rattle.sr_lines.proofs.Sets.{needed_keeps, one_column, is_covered, covers}
use Rattle.sr_lines.proofs.Selected.{is_of}
use Rattle.sr_lines.proofs.Sound.{all_narrow, joined_parts, outputs_sound, made}

-- ---- the tables

more-different : (ns : List ℕ) (t : ℕ) → are_different ns ≡ true → list_any (λ m. m == t) ns ≡ false → are_different (ns ++ t ∷ []) ≡ true
more-different [] t all none = refl
more-different (n ∷ ns) t all none =
    let ih = more-different ns t (grind (arith, all)) (grind (arith, none)) in
    let first = not-more n ns t (grind (arith, all)) (grind (arith, none)) in
    grind (arith, ih, first)
  where
    not-more : (n : ℕ) (ns : List ℕ) (t : ℕ) → list_any (λ m. m == n) ns ≡ false → (n == t) ≡ false → list_any (λ m. m == n) (ns ++ t ∷ []) ≡ false
    not-more n [] t none other = grind (arith, nat_tests, other)
    not-more n (m ∷ ns) t none other = let ih = not-more n ns t (grind (arith, none)) other in grind (arith, none, ih)

new-apart : (named : List ℕ) (place : ℕ) (o : Option ℕ) (t : ℕ) → new_table named place o ≡ Ok t → list_any (λ m. m == t) named ≡ false
new-apart named place None t e = absurd cc
new-apart named place (Some u) t e = go (is_among named u) refl e
  where
    go : (b : Bool) → is_among named u ≡ b → (if b then fault Repeated place else Ok u) ≡ Ok t → list_any (λ m. m == t) named ≡ false
    go true is e = absurd cc
    go false is e = subst (λ z. list_any (λ m. m == z) named ≡ false) (same_Ok u t e) is

record AreTables (named tables : List ℕ) (ws : List Word) : Type 0 where
  pub different : are_different tables ≡ true
  pub count : length tables ≡ length named + length ws

tables-apart : (schema : List Table) (named : List ℕ) (ws : List Word) (tables : List ℕ) → are_different named ≡ true → tables_from schema named ws ≡ Ok tables → AreTables named tables ws
tables-apart schema named [] tables apart e =
    let same = same_Ok named tables e in
    record { different = subst (λ z. are_different z ≡ true) same apart; count = sym (ap length same) ∙ add-none (length named) }
  where
    add-none : (n : ℕ) → n ≡ n + 0
    add-none n = omega arith
tables-apart schema named (w ∷ ws) tables apart e = go (nat_le 4 (length named)) e (λ t different rest. tables-apart schema (named ++ t ∷ []) ws tables different rest)
  where
    next : (t : ℕ) → new_table named w.place (table_named schema w.text) ≡ Ok t → tables_from schema (named ++ t ∷ []) ws ≡ Ok tables → (are_different (named ++ t ∷ []) ≡ true → tables_from schema (named ++ t ∷ []) ws ≡ Ok tables → AreTables (named ++ t ∷ []) tables ws)
        → AreTables named tables (w ∷ ws)
    next t first rest later =
        let more = later (more-different named t apart (new-apart named w.place (table_named schema w.text) t first)) rest in
        let n : length tables ≡ length (named ++ t ∷ []) + length ws = more.count in
        let m = length-append named (t ∷ []) in
        record { different = more.different; count = omega (arith, n, m) }

    go : (b : Bool) → (if b then fault TooManyTables w.place else (new_table named w.place (table_named schema w.text) >>= λ t. tables_from schema (named ++ t ∷ []) ws)) ≡ Ok tables
        → ((t : ℕ) → are_different (named ++ t ∷ []) ≡ true → tables_from schema (named ++ t ∷ []) ws ≡ Ok tables → AreTables (named ++ t ∷ []) tables ws) → AreTables named tables (w ∷ ws)
    go true e later = absurd cc
    go false e later =
        let first = split_ok (new_table named w.place (table_named schema w.text)) (λ t. tables_from schema (named ++ t ∷ []) ws) tables e in
        next first.0 first.1 first.2 (later first.0)

-- ---- the parts

tables-of-parts : (schema : List Table) (part : ℕ) (tables : List ℕ) (columns : List Output) (bs : List Bound) → map (λ (p : Part). p.table) (parts_from schema part tables columns bs) ≡ tables
tables-of-parts schema part [] columns bs = refl
tables-of-parts schema part (t ∷ tables) columns bs = ap (λ ts. t ∷ ts) (tables-of-parts schema (part + 1) tables columns bs)

count-parts : (schema : List Table) (part : ℕ) (tables : List ℕ) (columns : List Output) (bs : List Bound) → length (parts_from schema part tables columns bs) ≡ length tables
count-parts schema part [] columns bs = refl
count-parts schema part (t ∷ tables) columns bs = ap (λ n. suc n) (count-parts schema (part + 1) tables columns bs)

parts-need-keys : (schema : List Table) (part : ℕ) (tables : List ℕ) (columns : List Output) (bs : List Bound) → list_all (needs_key schema) (parts_from schema part tables columns bs) ≡ true
parts-need-keys schema part [] columns bs = refl
parts-need-keys schema part (t ∷ tables) columns bs =
    let key = (table_at schema t).key in
    both_true (needed_keeps part columns (2 ^ key) key (one_column key)) (parts-need-keys schema (part + 1) tables columns bs)

key-of-part : (schema : List Table) (part : ℕ) (tables : List ℕ) (columns : List Output) (bs : List Bound) (k : ℕ) → k < length tables
    → key_of schema (slice_get (parts_from schema part tables columns bs) k) ≡ (table_of_part schema tables k).key
key-of-part schema part [] columns bs k within = absurd (omega (arith, within))
key-of-part schema part (t ∷ tables) columns bs zero within = refl
key-of-part schema part (t ∷ tables) columns bs (suc k) within = key-of-part schema (part + 1) tables columns bs k (omega (arith, within))

-- ---- the joins

-- the right part's key, and an earlier part
record IsKeyJoin (schema : List Table) (tables : List ℕ) (part : ℕ) (j : Join) : Type 0 where
  pub right : j.right ≡ part
  pub left : nat_lt j.left part ≡ true
  pub key : j.key ≡ (table_of_part schema tables part).key

by-key : (schema : List Table) (tables : List ℕ) (part : ℕ) (one other : Output) → is_key_join schema tables part one other ≡ true
    → IsKeyJoin schema tables part (record { left = other.part; column = other.column; right = part; key = one.column })
by-key schema tables part one other h = record {
  right = refl;
  left = grind (arith, h);
  key = let same : (one.column == (table_of_part schema tables part).key) ≡ true = grind (arith, h) in grind (arith, nat_tests, same);
}

is-key-join : (schema : List Table) (tables : List ℕ) (part place : ℕ) (one other : Output) (j : Join) → key_join schema tables part place one other ≡ Ok j → IsKeyJoin schema tables part j
is-key-join schema tables part place one other j e = first (is_key_join schema tables part one other) refl e
  where
    second : (b : Bool) → is_key_join schema tables part other one ≡ b
        → (if b then Ok (record { left = one.part; column = one.column; right = part; key = other.column }) else fault NotKeyJoin place) ≡ Ok j → IsKeyJoin schema tables part j
    second true is e = subst (IsKeyJoin schema tables part) (same_Ok (record { left = one.part; column = one.column; right = part; key = other.column }) j e) (by-key schema tables part other one is)
    second false is e = absurd cc

    first : (b : Bool) → is_key_join schema tables part one other ≡ b
        → (if b then Ok (record { left = other.part; column = other.column; right = part; key = one.column })
        else (if is_key_join schema tables part other one then Ok (record { left = one.part; column = one.column; right = part; key = other.column }) else fault NotKeyJoin place)) ≡ Ok j
        → IsKeyJoin schema tables part j
    first true is e = subst (IsKeyJoin schema tables part) (same_Ok (record { left = other.part; column = other.column; right = part; key = one.column }) j e) (by-key schema tables part one other is)
    first false is e = second (is_key_join schema tables part other one) refl e

-- each joins the next part
abbrev AreKeyJoins : List Table → List ℕ → ℕ → List Join → Type 0
AreKeyJoins schema tables part [] = Unit {0}
AreKeyJoins schema tables part (j ∷ joins) = IsKeyJoin schema tables part j × AreKeyJoins schema tables (part + 1) joins

record AreJoins (schema : List Table) (tables : List ℕ) (part : ℕ) (ons : List JoinOn) (joins : List Join) : Type 0 where
  pub each : AreKeyJoins schema tables part joins
  pub count : length joins ≡ length ons

joins-apart : (schema : List Table) (tables : List ℕ) (part : ℕ) (ons : List JoinOn) (joins : List Join) → joins_from schema tables part ons ≡ Ok joins → AreJoins schema tables part ons joins
joins-apart schema tables part [] joins e = subst (AreJoins schema tables part []) (same_Ok [] joins e) (record { each = tt; count = refl })
joins-apart schema tables part (on ∷ ons) joins e =
    let one = split_ok (resolved schema _ on.left) _ joins e in
    let other = split_ok (resolved schema _ on.right) _ joins one.2 in
    let join = split_ok (key_join schema tables part on.place one.0 other.0) _ joins other.2 in
    let more = split_ok (joins_from schema tables (part + 1) ons) _ joins join.2 in
    let ih = joins-apart schema tables (part + 1) ons more.0 more.1 in
    subst (AreJoins schema tables part (on ∷ ons)) (same_Ok (join.0 ∷ more.0) joins more.2)
    (record { each = (is-key-join schema tables part on.place one.0 other.0 join.0 join.1, ih.each); count = ap (λ n. suc n) ih.count })

less-than : (n m k : ℕ) → nat_lt n m ≡ true → m ≤ k → nat_lt n k ≡ true
less-than n m k below le = grind (arith, nat_tests, below)

-- the joined columns are of parts that there are
joins-near : (schema : List Table) (tables : List ℕ) (part : ℕ) (joins : List Join) → AreKeyJoins schema tables part joins → part + length joins ≤ length tables
    → list_all (is_of (length tables)) (flat_map join_columns joins) ≡ true
joins-near schema tables part [] each within = refl
joins-near schema tables part (j ∷ joins) each within =
    let ih = joins-near schema tables (part + 1) joins each.1 (omega (arith, within)) in
    let left = less-than j.left part (length tables) each.0.left (omega (arith, within)) in
    let right = subst (λ i. nat_lt i (length tables) ≡ true) (sym each.0.right) (lt-ltb part (length tables) (omega (arith, within))) in
    both_true left (both_true right ih)

-- a number is itself
itself : (n m : ℕ) → n ≡ m → (n == m) ≡ true
itself n m same = grind (arith, nat_tests)

-- the joins, for the parts of these tables
joins-each : (schema : List Table) (tables : List ℕ) (parts : List Part) (part : ℕ) (joins : List Join) → AreKeyJoins schema tables part joins → part + length joins ≡ length tables → length parts ≡ length tables
    → ((k : ℕ) → k < length tables → key_of schema (slice_get parts k) ≡ (table_of_part schema tables k).key) → list_all (is_needed parts) (flat_map join_columns joins) ≡ true
    → join_each schema parts part joins ≡ true
joins-each schema tables parts part [] each count long keys needed = itself part (length parts) (omega (arith, count, long))
joins-each schema tables parts part (j ∷ joins) each count long keys needed =
    let one = and_parts (needs_column j.column (slice_get parts j.left)) _ needed in
    let two = and_parts (needs_column j.key (slice_get parts j.right)) _ one.1 in
    let ih = joins-each schema tables parts (part + 1) joins each.1 (omega (arith, count)) long keys two.1 in
    let key = itself j.key (key_of schema (slice_get parts part)) (each.0.key ∙ sym (keys part (omega (arith, count)))) in
    both_true (both_true (both_true (both_true (itself j.right part each.0.right) each.0.left) key) (both_true one.0 (both_true two.0 refl))) ih

-- ---- a query

abbrev word_of : JoinOn → Word
word_of j = record { text = j.table; place = j.table_place }

count-sources : (s : tree.Select) → length (sources s) ≡ 1 + length s.joins
count-sources s = go s.joins
  where
    go : (joins : List JoinOn) → suc (length (map word_of joins)) ≡ 1 + length joins
    go [] = refl
    go (j ∷ joins) = let ih = go joins in omega (arith, ih)

select_joined : (schema : List Table) (s : tree.Select) (q : Query) → bound_select schema s ≡ Ok q → is_joined schema q ≡ true
select_joined schema s q e =
    let tables = split_ok (tables_from schema [] (sources s)) _ q e in
    let joins = split_ok (joins_from schema tables.0 1 s.joins) _ q tables.2 in
    let outputs = split_ok (outputs_of schema tables.0 s) _ q joins.2 in
    let bs = split_ok (filter_bound schema tables.0 s.filter) _ q outputs.2 in
    let named = split_ok (each (λ b. names_one (references b)) bs.0) _ q bs.2 in
    let columns = named_columns outputs.0 joins.0 bs.0 in
    let parts = split_ok (each narrow (parts_from schema 0 tables.0 columns bs.0)) _ q named.2 in
    let same : made (parts_from schema 0 tables.0 columns bs.0) joins.0 outputs.0 ≡ q =
    ap (λ ps. made ps joins.0 outputs.0) (all_narrow (parts_from schema 0 tables.0 columns bs.0) parts.0 parts.1) ∙ same_Ok (made parts.0 joins.0 outputs.0) q parts.2 in
    let apart = tables-apart schema [] (sources s) tables.0 refl tables.1 in
    let are = joins-apart schema tables.0 1 s.joins joins.0 joins.1 in
    let count : 1 + length joins.0 ≡ length tables.0 = counts (length tables.0) (length (sources s)) (length joins.0) (length s.joins) apart.count (count-sources s) are.count in
    let whole = parts_from schema 0 tables.0 columns bs.0 in
    let needed_all = outputs_sound schema tables.0 columns bs.0 (flat_map join_columns joins.0)
    (λ part start. joined_parts (is_covered part (needed part columns start)) outputs.0 joins.0 bs.0 (covers part columns start))
    (joins-near schema tables.0 1 joins.0 are.each (at-most (1 + length joins.0) (length tables.0) count)) in
    subst (λ z. is_joined schema z ≡ true) same
    (both_true (both_true (parts-need-keys schema 0 tables.0 columns bs.0)
    (joins-each schema tables.0 whole 1 joins.0 are.each count (count-parts schema 0 tables.0 columns bs.0) (λ k within. key-of-part schema 0 tables.0 columns bs.0 k within) needed_all))
    (subst (λ ts. are_different ts ≡ true) (sym (tables-of-parts schema 0 tables.0 columns bs.0)) apart.different))
  where
    counts : (t w j o : ℕ) → t ≡ 0 + w → w ≡ 1 + o → j ≡ o → 1 + j ≡ t
    counts t w j o a b d = omega (arith, a, b, d)

    at-most : (n m : ℕ) → n ≡ m → n ≤ m
    at-most n m same = omega (arith, same)

pub bound_are_joined : BoundAreJoined
bound_are_joined schema (tree.Selects s) q e = select_joined schema s q e
bound_are_joined schema (tree.Create t) q e = absurd cc
bound_are_joined schema (tree.Inserts s) q e = absurd cc
bound_are_joined schema (tree.Updates s) q e = absurd cc
bound_are_joined schema (tree.Deletes s) q e = absurd cc

-- ---- how many tables

tables-few : (schema : List Table) (named : List ℕ) (ws : List Word) (tables : List ℕ) → length named ≤ 4 → tables_from schema named ws ≡ Ok tables → length tables ≤ 4
tables-few schema named [] tables few e = subst (λ (z : List ℕ). length z ≤ 4) (same_Ok named tables e) few
tables-few schema named (w ∷ ws) tables few e = go (nat_le 4 (length named)) refl e (λ t room rest. tables-few schema (named ++ t ∷ []) ws tables room rest)
  where
    more : (t : ℕ) → nat_le 4 (length named) ≡ false → length (named ++ t ∷ []) ≤ 4
    more t below = let less : length named < 4 = grind (arith, nat_tests, below) in let n = length-append named (t ∷ []) in omega (arith, less, n)

    go : (b : Bool) → nat_le 4 (length named) ≡ b
        → (if b then fault TooManyTables w.place else (new_table named w.place (table_named schema w.text) >>= λ t. tables_from schema (named ++ t ∷ []) ws)) ≡ Ok tables
        → ((t : ℕ) → length (named ++ t ∷ []) ≤ 4 → tables_from schema (named ++ t ∷ []) ws ≡ Ok tables → length tables ≤ 4) → length tables ≤ 4
    go true is e later = absurd cc
    go false is e later =
        let first = split_ok (new_table named w.place (table_named schema w.text)) (λ t. tables_from schema (named ++ t ∷ []) ws) tables e in
        later first.0 (more first.0 is) first.2

select_few : (schema : List Table) (s : tree.Select) (q : Query) → bound_select schema s ≡ Ok q → length q.parts ≤ 4
select_few schema s q e =
    let tables = split_ok (tables_from schema [] (sources s)) _ q e in
    let joins = split_ok (joins_from schema tables.0 1 s.joins) _ q tables.2 in
    let outputs = split_ok (outputs_of schema tables.0 s) _ q joins.2 in
    let bs = split_ok (filter_bound schema tables.0 s.filter) _ q outputs.2 in
    let named = split_ok (each (λ b. names_one (references b)) bs.0) _ q bs.2 in
    let columns = named_columns outputs.0 joins.0 bs.0 in
    let parts = split_ok (each narrow (parts_from schema 0 tables.0 columns bs.0)) _ q named.2 in
    let same : made (parts_from schema 0 tables.0 columns bs.0) joins.0 outputs.0 ≡ q =
    ap (λ ps. made ps joins.0 outputs.0) (all_narrow (parts_from schema 0 tables.0 columns bs.0) parts.0 parts.1) ∙ same_Ok (made parts.0 joins.0 outputs.0) q parts.2 in
    let few = tables-few schema [] (sources s) tables.0 (omega arith) tables.1 in
    let count = count-parts schema 0 tables.0 columns bs.0 in
    subst (λ (z : Query). length z.parts ≤ 4) same (at-most (length (parts_from schema 0 tables.0 columns bs.0)) (length tables.0) count few)
  where
    at-most : (n m : ℕ) → n ≡ m → m ≤ 4 → n ≤ 4
    at-most n m same few = omega (arith, same, few)

pub bound_have_few_parts : BoundHaveFewParts
bound_have_few_parts schema (tree.Selects s) q e = select_few schema s q e
bound_have_few_parts schema (tree.Create t) q e = absurd cc
bound_have_few_parts schema (tree.Inserts s) q e = absurd cc
bound_have_few_parts schema (tree.Updates s) q e = absurd cc
bound_have_few_parts schema (tree.Deletes s) q e = absurd cc
