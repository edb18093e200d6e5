-- The tables of a query are known, and its outputs are of its parts.
use Rattle.std.proofs.Common.{◌≡◌, ℕ, ◌+◌, ◌<◌, ◌≤◌, Bool, true, false, List, [], ◌∷◌, ◌++◌, length, refl, subst, ◌∙◌, arith, lt-ltb}
use Rattle.std.specs.Prelude.{nat_lt, nat_le, Ok, Option, Some, None, bytes_eq, slice_index_or, if◌then◌else◌}
use Rattle.std.specs.List.{list_all}
use Rattle.std.specs.Cmp.Derive.{both_true}
use Rattle.std.proofs.lemmas.Bool.{and_parts}
use Rattle.std.proofs.lemmas.List.Folds.{list_all-append}
use Rattle.std.proofs.lemmas.List.Quantifiers.{position-Some}
use Rattle.sr_cell.specs.declared.fault.Why.TheVariants.{Repeated, TooManyTables}
use Rattle.sr_cell.specs.declared.table.Column.{Column}
use Rattle.sr_cell.specs.declared.table.Table.{Table}
use Rattle.sr_cell.specs.Columns.{table_at}
use Rattle.sr_cell.specs.Names.{table_named}
use Rattle.sr_cell.proofs.Results.{same_Ok}
use Rattle.sr_grammar.specs.declared.statement.Name.{Name}
use Rattle.sr_grammar.specs.Words.{Word}
use Rattle.sr_grammar.specs.Trees.{Select}
use Rattle.sr_model.specs.Queries.{Output}
use Rattle.sr_query.specs.Binding.{fault, ◌>>=◌, each, is_among, new_table, tables_from, column_named, output_in, outputs_named, part_named, the_one, column_of_part, resolved, columns_of_part, all_outputs, outputs_of}
use Rattle.sr_query.proofs.Steps.{split_ok, part_within}

-- ---- the tables

no_table : Table
no_table = record { name = []; columns = []; key = 0 }

new_known : (schema : List Table) (named : List ℕ) (place t : ℕ) (name : List ℕ) → new_table named place (table_named schema name) ≡ Ok t → nat_lt t (length schema) ≡ true
new_known schema named place t name e = go (table_named schema name) refl e
  where
    by : (u : ℕ) (among : Bool) → u < length schema → (if among then fault Repeated place else Ok u) ≡ Ok t → nat_lt t (length schema) ≡ true
    by u true within e = absurd cc
    by u false within e = subst (λ z. nat_lt z (length schema) ≡ true) (same_Ok u t e) (lt-ltb u (length schema) within)

    go : (o : Option ℕ) → table_named schema name ≡ o → new_table named place o ≡ Ok t → nat_lt t (length schema) ≡ true
    go None is e = absurd cc
    go (Some u) is e = by u (is_among named u) (position-Some (λ (table : Table). bytes_eq name table.name) schema u no_table is).0 e

pub tables_known : (schema : List Table) (named : List ℕ) (ws : List Word) (tables : List ℕ) → list_all (λ t. nat_lt t (length schema)) named ≡ true → tables_from schema named ws ≡ Ok tables
    → list_all (λ t. nat_lt t (length schema)) tables ≡ true
tables_known schema named [] tables known e = subst (λ z. list_all (λ t. nat_lt t (length schema)) z ≡ true) (same_Ok named tables e) known
tables_known schema named (w ∷ ws) tables known e = go (nat_le 4 (length named)) e (λ t more. tables_known schema (named ++ t ∷ []) ws tables more)
  where
    go : (b : Bool) → (if b then fault TooManyTables w.place else (new_table named w.place (table_named schema w.text) >>= λ t. tables_from schema (named ++ t ∷ []) ws)) ≡ Ok tables
        → ((t : ℕ) → list_all (λ t. nat_lt t (length schema)) (named ++ t ∷ []) ≡ true → tables_from schema (named ++ t ∷ []) ws ≡ Ok tables → list_all (λ t. nat_lt t (length schema)) tables ≡ true)
        → list_all (λ t. nat_lt t (length schema)) tables ≡ true
    go true e rest = absurd cc
    go false e rest =
        let first = split_ok (new_table named w.place (table_named schema w.text)) (λ t. tables_from schema (named ++ t ∷ []) ws) tables e in
        let one = new_known schema named w.place first.0 w.text first.1 in
        rest first.0 (list_all-append (λ t. nat_lt t (length schema)) named (first.0 ∷ []) ∙ both_true known (both_true one refl)) first.2

-- ---- what is selected

-- an output of one of so many parts
abbrev pub is_of : ℕ → Output → Bool
is_of parts o = nat_lt o.part parts

outputs_near : (schema : List Table) (parts part : ℕ) (tables name : List ℕ) → part + length tables ≤ parts → list_all (is_of parts) (outputs_named schema part tables name) ≡ true
outputs_near schema parts part [] name all = refl
outputs_near schema parts part (t ∷ tables) name all =
    list_all-append (is_of parts) (output_in part (column_named 0 (table_at schema t).columns name)) _
    ∙ both_true (go (column_named 0 (table_at schema t).columns name)) (outputs_near schema parts (part + 1) tables name (omega arith))
  where
    go : (o : Option ℕ) → list_all (is_of parts) (output_in part o) ≡ true
    go None = refl
    go (Some c) = both_true (lt-ltb part parts (omega arith)) refl

one_near : (parts place : ℕ) (os : List Output) (o : Output) → the_one place os ≡ Ok o → list_all (is_of parts) os ≡ true → is_of parts o ≡ true
one_near parts place [] o e all = absurd cc
one_near parts place (p ∷ []) o e all = subst (λ x. is_of parts x ≡ true) (same_Ok p o e) (and_parts (is_of parts p) true all).0
one_near parts place (p ∷ q ∷ os) o e all = absurd cc

by_table : (schema : List Table) (tables : List ℕ) (place : ℕ) (column : List ℕ) (part : Option ℕ) (o : Output)
    → ((p : ℕ) → part ≡ Some p → p < length tables) → column_of_part schema tables place column part ≡ Ok o → is_of (length tables) o ≡ true
by_table schema tables place column None o within e = absurd cc
by_table schema tables place column (Some p) o within e = go (column_named 0 (table_at schema (slice_index_or tables p 0)).columns column) refl
  where
    go : (c : Option ℕ) → column_named 0 (table_at schema (slice_index_or tables p 0)).columns column ≡ c → is_of (length tables) o ≡ true
    go None is = let bad = rw is at e in absurd cc
    go (Some c) is =
        let good = rw is at e in
        let same : record { part = p; column = c } ≡ o = cc in
        subst (λ x. is_of (length tables) x ≡ true) same (lt-ltb p (length tables) (within p refl))

pub resolved_near : (schema : List Table) (tables : List ℕ) (n : Name) (o : Output) → resolved schema tables n ≡ Ok o → is_of (length tables) o ≡ true
resolved_near schema tables n o e = go n.table refl
  where
    go : (t : Option (List ℕ)) → n.table ≡ t → is_of (length tables) o ≡ true
    go None is =
        let alone = rw is at e in
        one_near (length tables) n.place (outputs_named schema 0 tables n.column) o alone (outputs_near schema (length tables) 0 tables n.column (omega arith))
    go (Some table) is =
        let named = rw is at e in
        by_table schema tables n.place n.column (part_named schema 0 tables table) o (λ p found. let within = part_within schema 0 p tables table found in omega arith) named

each_near : (schema : List Table) (tables : List ℕ) (ns : List Name) (os : List Output) → each (resolved schema tables) ns ≡ Ok os → list_all (is_of (length tables)) os ≡ true
each_near schema tables [] os e = subst (λ x. list_all (is_of (length tables)) x ≡ true) (same_Ok [] os e) refl
each_near schema tables (n ∷ ns) os e =
    let a = split_ok (resolved schema tables n) (λ o. each (resolved schema tables) ns >>= λ more. Ok (o ∷ more)) os e in
    let b = split_ok (each (resolved schema tables) ns) (λ more. Ok (a.0 ∷ more)) os a.2 in
    subst (λ x. list_all (is_of (length tables)) x ≡ true) (same_Ok (a.0 ∷ b.0) os b.2)
    (both_true (resolved_near schema tables n a.0 a.1) (each_near schema tables ns b.0 b.1))

columns_near : (parts part c : ℕ) (columns : List Column) → part < parts → list_all (is_of parts) (columns_of_part part c columns) ≡ true
columns_near parts part c [] within = refl
columns_near parts part c (column ∷ columns) within = both_true (lt-ltb part parts within) (columns_near parts part (c + 1) columns within)

all_near : (schema : List Table) (parts part : ℕ) (tables : List ℕ) → part + length tables ≤ parts → list_all (is_of parts) (all_outputs schema part tables) ≡ true
all_near schema parts part [] all = refl
all_near schema parts part (t ∷ tables) all =
    list_all-append (is_of parts) (columns_of_part part 0 (table_at schema t).columns) _
    ∙ both_true (columns_near parts part 0 (table_at schema t).columns (omega arith)) (all_near schema parts (part + 1) tables (omega arith))

pub outputs_of_parts : (schema : List Table) (tables : List ℕ) (s : Select) (os : List Output) → outputs_of schema tables s ≡ Ok os → list_all (is_of (length tables)) os ≡ true
outputs_of_parts schema tables s os e = go s.all e
  where
    go : (x : Bool) → (if x then Ok (all_outputs schema 0 tables) else each (resolved schema tables) s.list) ≡ Ok os → list_all (is_of (length tables)) os ≡ true
    go true e = subst (λ x. list_all (is_of (length tables)) x ≡ true) (same_Ok (all_outputs schema 0 tables) os e) (all_near schema (length tables) 0 tables (omega arith))
    go false e = each_near schema tables s.list os e
