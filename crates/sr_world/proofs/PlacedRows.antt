-- The rows of an answer have numbers such as an i64 holds.
use Rattle.std.proofs.Common.{zero, suc, ◌≡◌, ◌≤◌, ◌<◌, ◌-◌, ℕ, ℤ, pos, negsuc, Bool, true, false, inl, inr, List, [], ◌∷◌, ◌++◌, length, map, refl, sym, subst, arith}
use Rattle.std.specs.Prelude.{◌&&◌, not, int_le, filter, flat_map}
use Rattle.std.specs.List.{list_all, AllByRecursion}
use Rattle.std.specs.Cmp.Derive.{both_true}
use Rattle.std.proofs.Math.ListN.{get_or-eq_default}
use Rattle.std.proofs.lemmas.Bool.{and_parts, cases_lt}
use Rattle.std.proofs.lemmas.Bool.Decides.{nat_tests}
use Rattle.std.proofs.lemmas.List.Concat.{flat_map-cons}
use Rattle.std.proofs.lemmas.List.Elements.{All-filter, All-from_recursion, recursion_from_All}
use Rattle.sr_cell.specs.declared.cell.Cell.{Cell}
use Rattle.sr_cell.specs.declared.cell.Cell.TheVariants.{Num, Str, Null}
use Rattle.sr_cell.specs.declared.table.Kind.{Kind}
use Rattle.sr_cell.specs.declared.table.Kind.TheVariants.{Num as Numbers, Str as Texts}
use Rattle.sr_cell.specs.declared.table.Column.{Column}
use Rattle.sr_cell.specs.declared.table.Table.{Table}
use Rattle.sr_cell.specs.Cells.{Row, cell_at}
use Rattle.sr_cell.specs.Columns.{in_column, in_kind, is_point, table_at}
use Rattle.sr_cell.specs.Names.{is_bad_by, is_bad_domain}
use Rattle.sr_model.specs.Queries.{Output, Part, Query, all_meet, combinations, joins_hold, output_of, row_at, rows_at, rows_of}
use Rattle.sr_model.specs.Statements.{Tables}
use Rattle.sr_query.specs.Bound.{is_table}
use Rattle.sr_script.specs.Printable.{IsRow, is_cell, is_signed}
use Rattle.sr_session.specs.Laws.{HasTables}
use Rattle.sr_session.specs.Sessions.{Database, newest, tables_of}
use Rattle.sr_world.proofs.Placed.{all-append, all-map}

-- ---- rows of tables

abbrev is_good : Column → Bool
is_good c = not (is_bad_domain c)

signed : (low n high : ℤ) → not (not (int_le low high && (int_le (negsuc 1099511627775) low && int_le high (pos 1099511627775)))) ≡ true → (int_le low n && int_le n high) ≡ true
    → is_signed n ≡ true
signed (pos a) (pos n) (pos b) good is = grind (arith, nat_tests)
signed (pos a) (pos n) (negsuc b) good is = grind (arith, nat_tests)
signed (pos a) (negsuc n) (pos b) good is = grind (arith, nat_tests)
signed (pos a) (negsuc n) (negsuc b) good is = grind (arith, nat_tests)
signed (negsuc a) (pos n) (pos b) good is = grind (arith, nat_tests)
signed (negsuc a) (pos n) (negsuc b) good is = grind (arith, nat_tests)
signed (negsuc a) (negsuc n) (pos b) good is = grind (arith, nat_tests)
signed (negsuc a) (negsuc n) (negsuc b) good is = grind (arith, nat_tests)

value-signed : (c : Column) (k : Kind) (v : Cell) → not (is_bad_by k c) ≡ true → in_kind k c.lo c.hi c.nullable v ≡ true → is_cell v ≡ true
value-signed c Numbers (Num n) good is = signed c.lo n c.hi good is
value-signed c Numbers (Str s) good is = refl
value-signed c Numbers Null good is = refl
value-signed c Texts (Num n) good is = absurd (cc)
value-signed c Texts (Str s) good is = refl
value-signed c Texts Null good is = refl

point-signed : (columns : List Column) (row : Row) → list_all is_good columns ≡ true → is_point columns row ≡ true → list_all is_cell row ≡ true
point-signed [] [] good is = refl
point-signed [] (v ∷ row) good is = absurd (cc)
point-signed (c ∷ columns) [] good is = absurd (cc)
point-signed (c ∷ columns) (v ∷ row) good is =
    let g = and_parts (is_good c) (list_all is_good columns) good in
    let p = and_parts (in_column c v) (is_point columns row) is in
    both_true (value-signed c c.kind v g.0 p.0) (point-signed columns row g.1 p.1)

points-signed : (columns : List Column) (rows : List Row) → list_all is_good columns ≡ true → list_all (is_point columns) rows ≡ true → AllByRecursion IsRow rows
points-signed columns [] good are = tt
points-signed columns (row ∷ rows) good are =
    let p = and_parts (is_point columns row) (list_all (is_point columns) rows) are in
    (point-signed columns row good p.0, points-signed columns rows good p.1)

good-columns : (schema : List Table) (t : ℕ) → list_all is_table schema ≡ true → list_all is_good (table_at schema t).columns ≡ true
good-columns [] t are = refl
good-columns (u ∷ schema) zero are = let own = (and_parts (is_table u) (list_all is_table schema) are).0 in grind (arith, own)
good-columns (u ∷ schema) (suc t) are = good-columns schema t (and_parts (is_table u) (list_all is_table schema) are).1

-- each number in the tables' rows is such
abbrev pub AreSigned : Tables → Type 0
AreSigned tables = (t : ℕ) → AllByRecursion IsRow (rows_at tables t)

pub versions-signed : (db : Database) → list_all is_table db.schema ≡ true → HasTables db → (v : ℕ) → AreSigned (tables_of db v)
versions-signed db are has v = elim (cases_lt v (length db.versions)) [
  | inl there ↦ (λ t. points-signed (table_at db.schema t).columns (rows_at (tables_of db v) t) (good-columns db.schema t are) ((has v (omega (arith, there))).points t))
  | inr beyond ↦ subst AreSigned (sym (get_or-eq_default db.versions [] beyond)) (λ t. tt)
]

-- ---- rows of answers

cell-signed : (row : Row) (c : ℕ) → list_all is_cell row ≡ true → is_cell (cell_at row c) ≡ true
cell-signed [] c are = refl
cell-signed (v ∷ row) zero are = (and_parts (is_cell v) (list_all is_cell row) are).0
cell-signed (v ∷ row) (suc c) are = cell-signed row c (and_parts (is_cell v) (list_all is_cell row) are).1

row-signed : (rows : List Row) (i : ℕ) → AllByRecursion IsRow rows → list_all is_cell (row_at rows i) ≡ true
row-signed [] i are = refl
row-signed (row ∷ rows) zero are = are.0
row-signed (row ∷ rows) (suc i) are = row-signed rows i are.1

output-signed : (outputs : List Output) (rows : List Row) → AllByRecursion IsRow rows → list_all is_cell (output_of outputs rows) ≡ true
output-signed [] rows are = refl
output-signed (o ∷ outputs) rows are = both_true (cell-signed (row_at rows o.part) o.column (row-signed rows o.part are)) (output-signed outputs rows are)

abbrev Choices : List (List Row) → Type 0
Choices lists = AllByRecursion (AllByRecursion IsRow) lists

with-each : (rows : List Row) (others : List (List Row)) → AllByRecursion IsRow rows → Choices others → Choices (flat_map (λ row. map (λ more. row ∷ more) others) rows)
with-each [] others are all = tt
with-each (row ∷ rows) others are all =
    subst Choices (sym (flat_map-cons (λ row. map (λ more. row ∷ more) others) row rows))
    (all-append (AllByRecursion IsRow) (map (λ more. row ∷ more) others) (flat_map (λ row. map (λ more. row ∷ more) others) rows)
    (all-map (AllByRecursion IsRow) (λ more. row ∷ more) others (in-front others all)) (with-each rows others are.1 all))
  where
    in-front : (lists : List (List Row)) → Choices lists → AllByRecursion (λ more. AllByRecursion IsRow (row ∷ more)) lists
    in-front [] all = tt
    in-front (list ∷ lists) all = ((are.0, all.0), in-front lists all.1)

choices-signed : (lists : List (List Row)) → Choices lists → Choices (combinations lists)
choices-signed [] all = (tt, tt)
choices-signed (rows ∷ lists) all = with-each rows (combinations lists) all.0 (choices-signed lists all.1)

lists-signed : (tables : Tables) (parts : List Part) → AreSigned tables → Choices (map (λ part. rows_at tables part.table) parts)
lists-signed tables [] are = tt
lists-signed tables (part ∷ parts) are = (are part.table, lists-signed tables parts are)

outputs-signed : (outputs : List Output) (lists : List (List Row)) → Choices lists → AllByRecursion IsRow (map (output_of outputs) lists)
outputs-signed outputs [] all = tt
outputs-signed outputs (rows ∷ lists) all = (output-signed outputs rows all.0, outputs-signed outputs lists all.1)

pub answer-signed : (q : Query) (tables : Tables) → AreSigned tables → AllByRecursion IsRow (rows_of q tables)
answer-signed q tables are =
    let lists = combinations (map (λ part. rows_at tables part.table) q.parts) in
    let all = choices-signed (map (λ part. rows_at tables part.table) q.parts) (lists-signed tables q.parts are) in
    let test : List Row → Bool = λ rows. joins_hold q.joins rows && all_meet q.parts rows in
    outputs-signed q.outputs (filter test lists)
    (recursion_from_All (AllByRecursion IsRow) (filter test lists) (All-filter test (AllByRecursion IsRow) lists (All-from_recursion (AllByRecursion IsRow) lists all)))
