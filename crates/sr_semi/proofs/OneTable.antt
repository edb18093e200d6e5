-- The rows of a query of one table by its needed columns.
use Rattle.std.proofs.Common.{◌≡◌, ℕ, zero, suc, ◌+◌, ◌<◌, Bool, true, false, List, [], ◌∷◌, ◌++◌, map, length, Some, None, refl, sym, ap, subst, ◌∙◌, arith, length-append, if◌then◌else◌}
use Rattle.std.specs.Prelude.{◌&&◌, nat_le, Ok, Result, Option, slice_index_or, bytes_eq, filter}
use Rattle.std.specs.List.{list_all, AllByRecursion}
use Rattle.std.proofs.lemmas.List.Quantifiers.{position-Some}
use Rattle.std.proofs.lemmas.Bool.{and_parts, or_parts}
use Rattle.std.proofs.lemmas.List.{append_assoc}
use Rattle.std.proofs.lemmas.Slice.Eq.{bytes_eq-Decides}
use Rattle.sr_cell.specs.declared.cell.Cell.{Cell}
use Rattle.sr_cell.specs.declared.fault.Fault.{Fault}
use Rattle.sr_cell.specs.declared.table.Column.{Column}
use Rattle.sr_cell.specs.declared.table.Table.{Table}
use Rattle.sr_cell.specs.Attrs.{has_column, project, project_from}
use Rattle.sr_cell.specs.Cells.{Row, cell_at}
use Rattle.sr_cell.specs.Columns.{fits_columns, table_at, takes_cell}
use Rattle.sr_cell.specs.Names.{has_column_named, repeat_at, table_named}
use Rattle.sr_cell.proofs.Results.{same_Ok}
use Rattle.sr_grammar.specs.declared.statement.Name.{Name}
use Rattle.sr_grammar.specs.declared.statement.JoinOn.{JoinOn}
use Rattle.sr_grammar.specs.Places.{bare_name}
use Rattle.sr_grammar.specs.Trees as tree
use Rattle.sr_grammar.specs.Words.{Word}
use Rattle.sr_join.proofs.Lists.{chosen-images}
use Rattle.sr_model.specs.Queries.{Part, Output, Query, all_meet, combinations, joins_hold, output_of, points_of, row_at, rows_at, rows_of}
use Rattle.sr_model.specs.Statements.{Tables}
use Rattle.sr_query.specs.Binding.{Bound, all_outputs, bound_select, column_named, each, fault, filter_bound, is_among, joins_from, named_columns, names_one, narrow, new_table, outputs_named, outputs_of, part_of, parts_from, references, resolved, sources, tables_from, the_one, ◌>>=◌}
use Rattle.sr_query.proofs.Steps.{split_ok}
use Rattle.sr_lines.proofs.Sound.{all_narrow, made}
use Rattle.sr_grammar_laws.proofs.Words.{bytes_eq-true}
use Rattle.sr_cell.specs.declared.fault.Why.TheVariants.{Repeated, TooManyTables}
use Rattle.sr_semi.specs.Texts.{bare_reference, names_of}
use Rattle.sr_semi.proofs.Spelled.{each-append}

-- ---- the phases of binding

-- what a query of one table asks
pub record AsksOne (schema : List Table) (t : ℕ) (s : tree.Select) (q : Query) : Type 0 where
  pub outputs : List Output
  pub bs : List Bound
  pub listed : each (resolved schema (t ∷ [])) s.list ≡ Ok outputs
  pub filtered : filter_bound schema (t ∷ []) s.filter ≡ Ok bs
  pub same : made (part_of schema 0 t (named_columns outputs [] bs) bs ∷ []) [] outputs ≡ q

pub asks-one : (schema : List Table) (t : ℕ) (s : tree.Select) (q : Query) → table_named schema s.first ≡ Some t → s.joins ≡ [] → s.all ≡ false → bound_select schema s ≡ Ok q → AsksOne schema t s q
asks-one schema t s q named none listed e =
    let tables = split_ok (tables_from schema [] (sources s)) _ q e in
    let joins = split_ok (joins_from schema tables.0 1 s.joins) _ q tables.2 in
    let outputs = split_ok (outputs_of schema tables.0 s) _ q joins.2 in
    let bs = split_ok (filter_bound schema tables.0 s.filter) _ q outputs.2 in
    let apart = split_ok (each (λ b. names_one (references b)) bs.0) _ q bs.2 in
    let parts = split_ok (each narrow (parts_from schema 0 tables.0 (named_columns outputs.0 joins.0 bs.0) bs.0)) _ q apart.2 in
    let here : tables.0 ≡ t ∷ [] = one-table tables.0 (subst (λ js. tables_from schema [] (sources-of js) ≡ Ok tables.0) none tables.1) in
    let no-join : joins.0 ≡ [] = sym (same_Ok [] joins.0 (subst (λ js. joins_from schema tables.0 1 js ≡ Ok joins.0) none joins.1)) in
    let all : each (resolved schema tables.0) s.list ≡ Ok outputs.0 = subst (λ (b : Bool). listing b tables.0 ≡ Ok outputs.0) listed outputs.1 in
    let same : made (parts_from schema 0 tables.0 (named_columns outputs.0 joins.0 bs.0) bs.0) joins.0 outputs.0 ≡ q =
    ap (λ ps. made ps joins.0 outputs.0) (all_narrow (parts_from schema 0 tables.0 (named_columns outputs.0 joins.0 bs.0) bs.0) parts.0 parts.1) ∙ same_Ok (made parts.0 joins.0 outputs.0) q parts.2 in
    record {
      outputs = outputs.0;
      bs = bs.0;
      listed = subst (λ ts. each (resolved schema ts) s.list ≡ Ok outputs.0) here all;
      filtered = subst (λ ts. filter_bound schema ts s.filter ≡ Ok bs.0) here bs.1;
      same = subst (λ ts. made (parts_from schema 0 ts (named_columns outputs.0 [] bs.0) bs.0) [] outputs.0 ≡ q) here
          (subst (λ js. made (parts_from schema 0 tables.0 (named_columns outputs.0 js bs.0) bs.0) js outputs.0 ≡ q) no-join same);
    }
  where
    listing : Bool → List ℕ → Result (List Output) Fault
    listing b ts = if b then Ok (all_outputs schema 0 ts) else each (resolved schema ts) s.list

    sources-of : List JoinOn → List Word
    sources-of js = record { text = s.first; place = s.first_place } ∷ map (λ j. record { text = j.table; place = j.table_place }) js

    one-table : (ts : List ℕ) → tables_from schema [] (sources-of []) ≡ Ok ts → ts ≡ t ∷ []
    one-table ts e = sym (same_Ok (t ∷ []) ts (rw named at e))

-- ---- its rows

one-choice : (rows : List Row) → combinations (rows ∷ []) ≡ map (λ row. row ∷ []) rows
one-choice [] = refl
one-choice (row ∷ rows) = ap (λ (more : List (List Row)). (row ∷ []) ∷ more) (one-choice rows)

and-true : (b : Bool) → (true && (b && true)) ≡ b
and-true true = refl
and-true false = refl

pub one-rows : (tables : Tables) (part : Part) (os : List Output)
    → rows_of (made (part ∷ []) [] os) tables ≡ map (λ row. output_of os (row ∷ [])) (filter (points_of part) (rows_at tables part.table))
one-rows tables part os =
    ap (λ all. map (output_of os) (filter (λ rows. joins_hold [] rows && all_meet (part ∷ []) rows) all)) (one-choice (rows_at tables part.table))
    ∙ chosen-images (output_of os) (λ rows. joins_hold [] rows && all_meet (part ∷ []) rows) (λ row. row ∷ []) (λ row. output_of os (row ∷ [])) (points_of part) (rows_at tables part.table)
    (λ row. and-true (points_of part row)) (λ row. refl)

-- maps that do the same to the rows that fit
pub same-images : (f g : Row → Row) (p fit : Row → Bool) (rows : List Row) → list_all fit rows ≡ true → ((row : Row) → fit row ≡ true → f row ≡ g row) → map f (filter p rows) ≡ map g (filter p rows)
same-images f g p fit [] all same = refl
same-images f g p fit (row ∷ rows) all same =
    let a = and_parts (fit row) (list_all fit rows) all in
    go (p row) (same row a.0) (same-images f g p fit rows a.1 same)
  where
    go : (b : Bool) → f row ≡ g row → map f (filter p rows) ≡ map g (filter p rows) → map f (if b then row ∷ filter p rows else filter p rows) ≡ map g (if b then row ∷ filter p rows else filter p rows)
    go true one others = rw (one, others) refl
    go false one others = others

-- ---- names

bytes-same : (a : List ℕ) → bytes_eq a a ≡ true
bytes-same a = (bytes_eq-Decides a a).1 refl

behind : (before : List Column) (column : Column) (rest : List Column) (c : ℕ) → has_column_named before column.name ≡ false → column_named c (before ++ column ∷ rest) column.name ≡ Some (c + length before)
behind [] column rest c none = let e : c ≡ c + 0 = omega arith in rw (bytes-same column.name) (ap Some e)
behind (d ∷ before) column rest c none =
    let n = or_parts (bytes_eq d.name column.name) (has_column_named before column.name) none in
    let e : c + 1 + length before ≡ c + suc (length before) = omega arith in
    rw n.0 (behind before column rest (c + 1) n.1 ∙ ap Some e)

-- the columns that are needed, by their numbers; c is that of the first
abbrev pub picked : ℕ → ℕ → List Column → List Output
picked c need [] = []
picked c need (column ∷ columns) = if has_column need c then record { part = 0; column = c } ∷ picked (c + 1) need columns else picked (c + 1) need columns

-- the column of that number has its name first
pub column-first : (before columns : List Column) (k : ℕ) (d : Column) → repeat_at before columns ≡ None → k < length columns
    → column_named 0 (before ++ columns) (slice_index_or columns k d).name ≡ Some (length before + k)
column-first before [] k d differ less = absurd (omega (arith, less))
column-first before (column ∷ columns) k d differ less =
    split (has_column_named before column.name) refl differ (λ j rest e. column-first (before ++ column ∷ []) columns j d rest (omega (arith, less, e)))
  where
    one-more : length (before ++ column ∷ []) ≡ length before + 1
    one-more = length-append before (column ∷ [])

    split : (b : Bool) → has_column_named before column.name ≡ b → (if b then Some (length before) else repeat_at (before ++ column ∷ []) columns) ≡ None
        → ((j : ℕ) → repeat_at (before ++ column ∷ []) columns ≡ None → k ≡ suc j → column_named 0 ((before ++ column ∷ []) ++ columns) (slice_index_or columns j d).name ≡ Some (length (before ++ column ∷ []) + j))
        → column_named 0 (before ++ column ∷ columns) (slice_index_or (column ∷ columns) k d).name ≡ Some (length before + k)
    split true is e later = absurd cc
    split false is e later = by k refl
      where
        by : (j : ℕ) → k ≡ j → column_named 0 (before ++ column ∷ columns) (slice_index_or (column ∷ columns) j d).name ≡ Some (length before + j)
        by zero at = let same : 0 + length before ≡ length before + 0 = omega arith in behind before column columns 0 is ∙ ap Some same
        by (suc j) at =
            let same : length (before ++ column ∷ []) + j ≡ length before + suc j = omega (arith, one-more) in
            ap (λ cs. column_named 0 cs (slice_index_or columns j d).name) (sym (append_assoc before (column ∷ []) columns)) ∙ (later j e at ∙ ap Some same)

-- a reference that is bare but for its place
pub resolves : (schema : List Table) (t : ℕ) (n : Name) (column : List ℕ) (c : ℕ) (o : Output) → bare_name n ≡ bare_reference column → column_named 0 (table_at schema t).columns column ≡ Some c
    → resolved schema (t ∷ []) n ≡ Ok o → o ≡ record { part = 0; column = c }
resolves schema t n column c o bare named e =
    let none : n.table ≡ None = ap (λ (m : Name). m.table) bare in
    let same : n.column ≡ column = ap (λ (m : Name). m.column) bare in
    let one : the_one n.place (outputs_named schema 0 (t ∷ []) n.column) ≡ Ok o = rw none at e in
    let here : column_named 0 (table_at schema t).columns n.column ≡ Some c = ap (column_named 0 (table_at schema t).columns) same ∙ named in
    let is : Ok (record { part = 0; column = c }) ≡ Ok o = rw here at one in
    sym (same_Ok (record { part = 0; column = c }) o is)

pub names-resolve : (schema : List Table) (t : ℕ) (before columns : List Column) (need : ℕ) (ns : List Name) (os : List Output) → before ++ columns ≡ (table_at schema t).columns
    → repeat_at before columns ≡ None → map bare_name ns ≡ names_of (length before) need columns → each (resolved schema (t ∷ [])) ns ≡ Ok os → os ≡ picked (length before) need columns
names-resolve schema t before [] need [] os all differ names e = sym (same_Ok [] os e)
names-resolve schema t before [] need (n ∷ ns) os all differ names e = absurd cc
names-resolve schema t before (column ∷ columns) need ns os all differ names e = go (has_column need (length before)) ns os (names-resolve schema t (before ++ column ∷ []) columns need) names e
  where
    apart : (has_column_named before column.name ≡ false) × (repeat_at (before ++ column ∷ []) columns ≡ None)
    apart = split (has_column_named before column.name) refl differ
      where
        split : (b : Bool) → has_column_named before column.name ≡ b → (if b then Some (length before) else repeat_at (before ++ column ∷ []) columns) ≡ None
            → (has_column_named before column.name ≡ false) × (repeat_at (before ++ column ∷ []) columns ≡ None)
        split true is e = absurd cc
        split false is e = (is, e)

    one-more : length (before ++ column ∷ []) ≡ length before + 1
    one-more = length-append before (column ∷ [])

    Later : Type 0
    Later = (ns : List Name) (os : List Output) → (before ++ column ∷ []) ++ columns ≡ (table_at schema t).columns → repeat_at (before ++ column ∷ []) columns ≡ None
        → map bare_name ns ≡ names_of (length (before ++ column ∷ [])) need columns → each (resolved schema (t ∷ [])) ns ≡ Ok os → os ≡ picked (length (before ++ column ∷ [])) need columns

    rest : Later → (ns : List Name) (os : List Output) → map bare_name ns ≡ names_of (length before + 1) need columns → each (resolved schema (t ∷ [])) ns ≡ Ok os → os ≡ picked (length before + 1) need columns
    rest later ns os names e =
        later ns os (append_assoc before (column ∷ []) columns ∙ all) apart.1 (names ∙ ap (λ n. names_of n need columns) (sym one-more)) e
        ∙ ap (λ n. picked n need columns) one-more

    go : (b : Bool) (ns : List Name) (os : List Output) → Later → map bare_name ns ≡ (if b then bare_reference column.name ∷ names_of (length before + 1) need columns else names_of (length before + 1) need columns)
        → each (resolved schema (t ∷ [])) ns ≡ Ok os → os ≡ (if b then record { part = 0; column = length before } ∷ picked (length before + 1) need columns else picked (length before + 1) need columns)
    go true [] os later names e = absurd cc
    go true (n ∷ ns) os later names e =
        let x = split_ok (resolved schema (t ∷ []) n) (λ o. each (resolved schema (t ∷ [])) ns >>= λ more. Ok (o ∷ more)) os e in
        let y = split_ok (each (resolved schema (t ∷ [])) ns) (λ more. Ok (x.0 ∷ more)) os x.2 in
        let first : bare_name n ≡ bare_reference column.name = cc names in
        let others : map bare_name ns ≡ names_of (length before + 1) need columns = cc names in
        let zero-more : 0 + length before ≡ length before = omega arith in
        let named : column_named 0 (table_at schema t).columns column.name ≡ Some (length before) =
        ap (λ cs. column_named 0 cs column.name) (sym all) ∙ (behind before column columns 0 apart.0 ∙ ap Some zero-more) in
        sym (same_Ok (x.0 ∷ y.0) os y.2)
        ∙ (ap (λ (o : Output). o ∷ y.0) (resolves schema t n column.name (length before) x.0 first named x.1)
        ∙ ap (λ (more : List Output). record { part = 0; column = length before } ∷ more) (rest later ns y.0 others y.1))
    go false ns os later names e = rest later ns os names e

-- ---- cells

cell-behind : (front : Row) (v : Cell) (rest : Row) → cell_at (front ++ v ∷ rest) (length front) ≡ v
cell-behind [] v rest = refl
cell-behind (w ∷ front) v rest = cell-behind front v rest

picks : (front : Row) (row : Row) (need : ℕ) (columns : List Column) → fits_columns columns row ≡ true
    → map (λ (o : Output). cell_at (row_at ((front ++ row) ∷ []) o.part) o.column) (picked (length front) need columns) ≡ project_from (length front) need row
picks front [] need [] fits = refl
picks front (v ∷ row) need [] fits = absurd cc
picks front [] need (column ∷ columns) fits = absurd cc
picks front (v ∷ row) need (column ∷ columns) fits = go (has_column need (length front)) (picks (front ++ v ∷ []) row need columns (and_parts (takes_cell column v) (fits_columns columns row) fits).1)
  where
    more : length (front ++ v ∷ []) ≡ length front + 1
    more = length-append front (v ∷ [])

    Later : Type 0
    Later = map (λ (o : Output). cell_at (row_at (((front ++ v ∷ []) ++ row) ∷ []) o.part) o.column) (picked (length (front ++ v ∷ [])) need columns) ≡ project_from (length (front ++ v ∷ [])) need row

    rest : Later → map (λ (o : Output). cell_at (row_at ((front ++ v ∷ row) ∷ []) o.part) o.column) (picked (length front + 1) need columns) ≡ project_from (length front + 1) need row
    rest ih =
        let a : (front ++ v ∷ []) ++ row ≡ front ++ v ∷ row = append_assoc front (v ∷ []) row in
        subst (λ n. map (λ (o : Output). cell_at (row_at ((front ++ v ∷ row) ∷ []) o.part) o.column) (picked n need columns) ≡ project_from n need row) more
        (subst (λ all. map (λ (o : Output). cell_at (row_at (all ∷ []) o.part) o.column) (picked (length (front ++ v ∷ [])) need columns) ≡ project_from (length (front ++ v ∷ [])) need row) a ih)

    go : (b : Bool) → Later → map (λ (o : Output). cell_at (row_at ((front ++ v ∷ row) ∷ []) o.part) o.column) (if b then record { part = 0; column = length front } ∷ picked (length front + 1) need columns else picked (length front + 1) need columns)
        ≡ (if b then v ∷ project_from (length front + 1) need row else project_from (length front + 1) need row)
    go true later = rw (cell-behind front v row, rest later) refl
    go false later = rest later

pub picks-need : (row : Row) (need : ℕ) (columns : List Column) → fits_columns columns row ≡ true → output_of (picked 0 need columns) (row ∷ []) ≡ project need row
picks-need row need columns fits = picks [] row need columns fits

-- ---- the table that is named

pub named-again : (schema : List Table) (name : List ℕ) (t : ℕ) → table_named schema name ≡ Some t → table_named schema (table_at schema t).name ≡ Some t
named-again schema name t e =
    let p = position-Some (λ (table : Table). bytes_eq name table.name) schema t (record { name = []; columns = []; key = 0 }) e in
    let same : name ≡ (table_at schema t).name = bytes_eq-true name (table_at schema t).name p.1 in
    subst (λ n. table_named schema n ≡ Some t) same e

-- the table is the first of its name
abbrev pub IsFirst : List Table → ℕ → Type 0
IsFirst schema t = table_named schema (table_at schema t).name ≡ Some t

new-is : (named : List ℕ) (place : ℕ) (o : Option ℕ) (t : ℕ) → new_table named place o ≡ Ok t → o ≡ Some t
new-is named place None t e = absurd cc
new-is named place (Some u) t e = go (is_among named u) e
  where
    go : (b : Bool) → (if b then fault Repeated place else Ok u) ≡ Ok t → Some u ≡ Some t
    go true e = absurd cc
    go false e = ap Some (same_Ok u t e)

-- each table of a query is
pub each-first : (schema : List Table) (named : List ℕ) (ws : List Word) (tables : List ℕ) → AllByRecursion (IsFirst schema) named → tables_from schema named ws ≡ Ok tables → AllByRecursion (IsFirst schema) tables
each-first schema named [] tables known e = subst (AllByRecursion (IsFirst schema)) (same_Ok named tables e) known
each-first schema named (w ∷ ws) tables known e = go (nat_le 4 (length named)) e (λ t more. each-first schema (named ++ t ∷ []) ws tables more)
  where
    go : (b : Bool) → (if b then fault TooManyTables w.place else (new_table named w.place (table_named schema w.text) >>= λ t. tables_from schema (named ++ t ∷ []) ws)) ≡ Ok tables
        → ((t : ℕ) → AllByRecursion (IsFirst schema) (named ++ t ∷ []) → tables_from schema (named ++ t ∷ []) ws ≡ Ok tables → AllByRecursion (IsFirst schema) tables) → AllByRecursion (IsFirst schema) tables
    go true e rest = absurd cc
    go false e rest =
        let first = split_ok (new_table named w.place (table_named schema w.text)) (λ t. tables_from schema (named ++ t ∷ []) ws) tables e in
        let is = named-again schema w.text first.0 (new-is named w.place (table_named schema w.text) first.0 first.1) in
        rest first.0 (each-append (IsFirst schema) named (first.0 ∷ []) known (is, tt)) first.2
