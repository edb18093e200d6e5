-- What a query means to the tables of a schema, or its first fault.
use Rattle.std.specs.Prelude.{ℕ, ℤ, pos, int_le, ◌+◌, ◌^◌, ◌==◌, ◌&&◌, not, Bool, true, false, nat_lt, nat_le, List, [], ◌∷◌, ◌++◌, map, filter, flat_map, length, take, bytes_eq, slice_index_or, Option, Some, None, Result, Ok, Err, if◌then◌else◌}
use Rattle.std.specs.List.{list_any}
use Rattle.sr_cell.specs.declared.cell.Cell.{Cell}
use Rattle.sr_cell.specs.declared.cell.Cell.TheVariants.{Num, Str, Null}
use Rattle.sr_cell.specs.declared.table.Kind.{Kind}
use Rattle.sr_cell.specs.declared.table.Kind.TheVariants as kinds
use Rattle.sr_cell.specs.declared.table.Column.{Column}
use Rattle.sr_cell.specs.declared.table.Table.{Table}
use Rattle.sr_cell.specs.declared.fault.Fault.{Fault}
use Rattle.sr_cell.specs.declared.fault.Why.{Why}
use Rattle.sr_cell.specs.declared.fault.Why.TheVariants.{UnknownTable, UnknownColumn, Ambiguous, WrongType, OutOfDomain, NotKeyJoin, Repeated, Mixed, TooWide, TooManyTables, NotAQuery}
use Rattle.sr_cell.specs.Columns.{table_at}
use Rattle.sr_cell.specs.Names.{table_named}
use Rattle.sr_cell.specs.Attrs.{has_column}
use Rattle.sr_grammar.specs.declared.statement.Name.{Name}
use Rattle.sr_grammar.specs.declared.statement.Literal.{Literal}
use Rattle.sr_grammar.specs.declared.statement.Op.{Op}
use Rattle.sr_grammar.specs.declared.statement.Op.TheVariants as ops
use Rattle.sr_grammar.specs.declared.statement.Atom.{Atom}
use Rattle.sr_grammar.specs.declared.statement.Atom.TheVariants as atoms
use Rattle.sr_grammar.specs.declared.statement.JoinOn.{JoinOn}
use Rattle.sr_grammar.specs.Words.{Word}
use Rattle.sr_grammar.specs.Trees as tree
use Rattle.sr_grammar.specs.Trees.{low_default, high_default}
use Rattle.sr_model.specs.Conditions.{Cond, Conds, Test, Tests, And, Or, Not, none, more, Eq, Ne, Lt, Le, Gt, Ge, Between, OneOf, Prefix, IsNull}
use Rattle.sr_model.specs.Width.{width}
use Rattle.sr_model.specs.Queries.{Part, Join, Output, Query}

abbrev pub fault : {A : Type 0} → Why → ℕ → Result A Fault
fault why place = Err (record { why = why; at = place })

infixl 10 ◌>>=◌
abbrev pub ◌>>=◌ : {A B : Type 0} → Result A Fault → (A → Result B Fault) → Result B Fault
(Ok a) >>= f = f a
(Err e) >>= f = Err e

-- each of the list, from the left
abbrev pub each : {A B : Type 0} → (A → Result B Fault) → List A → Result (List B) Fault
each f [] = Ok []
each f (a ∷ others) = f a >>= λ b. each f others >>= λ bs. Ok (b ∷ bs)

-- ---- first: the tables

abbrev pub sources : tree.Select → List Word
sources s = record { text = s.first; place = s.first_place } ∷ map (λ j. record { text = j.table; place = j.table_place }) s.joins

abbrev pub is_among : List ℕ → ℕ → Bool
is_among numbers n = list_any (λ m. m == n) numbers

abbrev pub new_table : List ℕ → ℕ → Option ℕ → Result ℕ Fault
new_table named place None = fault UnknownTable place
new_table named place (Some t) = if is_among named t then fault Repeated place else Ok t

-- the numbers of the tables, behind those that are named already: at most four, each once
abbrev pub tables_from : List Table → List ℕ → List Word → Result (List ℕ) Fault
tables_from schema named [] = Ok named
tables_from schema named (w ∷ ws) =
    if nat_le 4 (length named) then fault TooManyTables w.place
    else (new_table named w.place (table_named schema w.text) >>= λ t. tables_from schema (named ++ t ∷ []) ws)

-- ---- references

-- the number of the column of that name; c is the number of the first
abbrev pub column_named : ℕ → List Column → List ℕ → Option ℕ
column_named c [] name = None
column_named c (column ∷ columns) name = if bytes_eq column.name name then Some c else column_named (c + 1) columns name

abbrev pub output_in : ℕ → Option ℕ → List Output
output_in part None = []
output_in part (Some c) = record { part = part; column = c } ∷ []

-- the columns of that name of these tables; part is the number of the first of them
abbrev pub outputs_named : List Table → ℕ → List ℕ → List ℕ → List Output
outputs_named schema part [] name = []
outputs_named schema part (t ∷ tables) name =
    output_in part (column_named 0 (table_at schema t).columns name) ++ outputs_named schema (part + 1) tables name

-- the part of the table of that name; part is the number of the first
abbrev pub part_named : List Table → ℕ → List ℕ → List ℕ → Option ℕ
part_named schema part [] name = None
part_named schema part (t ∷ tables) name = if bytes_eq (table_at schema t).name name then Some part else part_named schema (part + 1) tables name

-- a column by its name alone, which one table has
abbrev pub the_one : ℕ → List Output → Result Output Fault
the_one place [] = fault UnknownColumn place
the_one place (o ∷ []) = Ok o
the_one place (o ∷ p ∷ others) = fault Ambiguous place

abbrev pub column_of_part : List Table → List ℕ → ℕ → List ℕ → Option ℕ → Result Output Fault
column_of_part schema tables place column None = fault UnknownTable place
column_of_part schema tables place column (Some part) =
    of_column (column_named 0 (table_at schema (slice_index_or tables part 0)).columns column)
  where
    of_column : Option ℕ → Result Output Fault
    of_column None = fault UnknownColumn place
    of_column (Some c) = Ok (record { part = part; column = c })

-- the column that a reference means among these tables of a query
abbrev pub resolved : List Table → List ℕ → Name → Result Output Fault
resolved schema tables n = by_table n.table
  where
    by_table : Option (List ℕ) → Result Output Fault
    by_table None = the_one n.place (outputs_named schema 0 tables n.column)
    by_table (Some table) = column_of_part schema tables n.place n.column (part_named schema 0 tables table)

abbrev pub table_of_part : List Table → List ℕ → ℕ → Table
table_of_part schema tables part = table_at schema (slice_index_or tables part 0)

abbrev pub column_at : Table → ℕ → Column
column_at t c = slice_index_or t.columns c (record { name = []; kind = kinds.Str; lo = pos 0; hi = pos 0; nullable = false })

abbrev pub column_of : List Table → List ℕ → Output → Column
column_of schema tables o = column_at (table_of_part schema tables o.part) o.column

abbrev pub is_kind : Kind → Kind → Bool
is_kind kinds.Num kinds.Num = true
is_kind kinds.Num kinds.Str = false
is_kind kinds.Str kinds.Num = false
is_kind kinds.Str kinds.Str = true

-- ---- second: joins

-- one is the key of the table just joined, and the other a column of its kind of an earlier table
abbrev pub is_key_join : List Table → List ℕ → ℕ → Output → Output → Bool
is_key_join schema tables part one other =
    one.part == part && one.column == (table_of_part schema tables part).key && nat_lt other.part part
    && is_kind (column_of schema tables one).kind (column_of schema tables other).kind

abbrev pub key_join : List Table → List ℕ → ℕ → ℕ → Output → Output → Result Join Fault
key_join schema tables part place left right =
    if is_key_join schema tables part left right then Ok (record { left = right.part; column = right.column; right = part; key = left.column })
    else (if is_key_join schema tables part right left then Ok (record { left = left.part; column = left.column; right = part; key = right.column })
    else fault NotKeyJoin place)

-- the joins, of which the first joins this part; a reference is to a table up to the joined one
abbrev pub joins_from : List Table → List ℕ → ℕ → List JoinOn → Result (List Join) Fault
joins_from schema tables part [] = Ok []
joins_from schema tables part (j ∷ joins) =
    resolved schema (take (part + 1) tables) j.left >>= λ left. resolved schema (take (part + 1) tables) j.right >>= λ right.
    key_join schema tables part j.place left right >>= λ join. joins_from schema tables (part + 1) joins >>= λ others. Ok (join ∷ others)

-- ---- third: what is selected

abbrev pub columns_of_part : ℕ → ℕ → List Column → List Output
columns_of_part part c [] = []
columns_of_part part c (column ∷ columns) = record { part = part; column = c } ∷ columns_of_part part (c + 1) columns

-- all columns, by table; part is the number of the first
abbrev pub all_outputs : List Table → ℕ → List ℕ → List Output
all_outputs schema part [] = []
all_outputs schema part (t ∷ tables) = columns_of_part part 0 (table_at schema t).columns ++ all_outputs schema (part + 1) tables

abbrev pub outputs_of : List Table → List ℕ → tree.Select → Result (List Output) Fault
outputs_of schema tables s = if s.all then Ok (all_outputs schema 0 tables) else each (resolved schema tables) s.list

-- ---- fourth: WHERE

-- a condition whose tests know their columns, and the places of their references
mutual
  pub data Bound : Type 0 where
    Testing : (place : ℕ) → Output → Test → Bound
    Conjunction : Bounds → Bound
    Disjunction : Bounds → Bound
    Negation : Bound → Bound

  pub data Bounds : Type 0 where
    no_more : Bounds
    one_more : Bound → Bounds → Bounds

abbrev pub is_default : ℤ → Bool
is_default n = int_le low_default n && int_le n high_default

-- a number inside the default domain, or a text of at most 120 bytes; a column is compared with no Null
abbrev pub is_inside : Cell → Bool
is_inside (Num n) = is_default n
is_inside (Str s) = nat_le (length s) 120
is_inside Null = false

-- Null is of each kind
abbrev pub is_of : Kind → Cell → Bool
is_of kind Null = true
is_of kinds.Num (Num n) = true
is_of kinds.Num (Str s) = false
is_of kinds.Str (Num n) = false
is_of kinds.Str (Str s) = true

abbrev pub value_of : Kind → Literal → Result Cell Fault
value_of kind l = if not (is_of kind l.cell) then fault WrongType l.place else (if is_inside l.cell then Ok l.cell else fault OutOfDomain l.place)

abbrev pub compared : Op → Cell → Test
compared ops.Eq v = Eq v
compared ops.Ne v = Ne v
compared ops.Lt v = Lt v
compared ops.Le v = Le v
compared ops.Gt v = Gt v
compared ops.Ge v = Ge v

abbrev pub text_of : Cell → List ℕ
text_of (Num n) = []
text_of (Str s) = s
text_of Null = []

-- whether the test holds, or its contrary, and the test
abbrev pub test_of : Kind → Atom → Result (Bool × Test) Fault
test_of kind (atoms.Cmp op l) = value_of kind l >>= λ v. Ok (true, compared op v)
test_of kind (atoms.Between low high) = value_of kind low >>= λ a. value_of kind high >>= λ b. Ok (true, Between a b)
test_of kind (atoms.OneOf all) = each (value_of kind) all >>= λ vs. Ok (true, OneOf vs)
test_of kind (atoms.Prefix text) = value_of kind text >>= λ v. Ok (true, Prefix (text_of v))
test_of kind (atoms.NotBetween low high) = value_of kind low >>= λ a. value_of kind high >>= λ b. Ok (false, Between a b)
test_of kind (atoms.NotOneOf all) = each (value_of kind) all >>= λ vs. Ok (false, OneOf vs)
test_of kind (atoms.NotPrefix text) = value_of kind text >>= λ v. Ok (false, Prefix (text_of v))
test_of kind atoms.IsNull = Ok (true, IsNull)
test_of kind atoms.NotNull = Ok (false, IsNull)

abbrev pub said : ℕ → Output → Bool × Test → Bound
said place o (true, t) = Testing place o t
said place o (false, t) = Negation (Testing place o t)

abbrev mutual
  pub bound : List Table → List ℕ → tree.Cond → Result Bound Fault
  bound schema tables (tree.Test n a) = resolved schema tables n >>= λ o. test_of (column_of schema tables o).kind a >>= λ t. Ok (said n.place o t)
  bound schema tables (tree.And cs) = bound_all schema tables cs >>= λ bs. Ok (Conjunction bs)
  bound schema tables (tree.Or cs) = bound_all schema tables cs >>= λ bs. Ok (Disjunction bs)
  bound schema tables (tree.Not c) = bound schema tables c >>= λ b. Ok (Negation b)

  pub bound_all : List Table → List ℕ → tree.Conds → Result Bounds Fault
  bound_all schema tables tree.none = Ok no_more
  bound_all schema tables (tree.more c cs) = bound schema tables c >>= λ b. bound_all schema tables cs >>= λ bs. Ok (one_more b bs)

abbrev mutual
  -- the condition of a part, which its tests are all of
  pub cond_of : Bound → Cond
  cond_of (Testing place o t) = Tests o.column t
  cond_of (Conjunction bs) = And (conds_of bs)
  cond_of (Disjunction bs) = Or (conds_of bs)
  cond_of (Negation b) = Not (cond_of b)

  pub conds_of : Bounds → Conds
  conds_of no_more = none
  conds_of (one_more b bs) = more (cond_of b) (conds_of bs)

abbrev mutual
  -- the tests' columns, with the places of their references, from the left
  pub references : Bound → List (ℕ × Output)
  references (Testing place o t) = (place, o) ∷ []
  references (Conjunction bs) = all_references bs
  references (Disjunction bs) = all_references bs
  references (Negation b) = references b

  pub all_references : Bounds → List (ℕ × Output)
  all_references no_more = []
  all_references (one_more b bs) = references b ++ all_references bs

-- ---- fifth: each top conjunct names one table

abbrev mutual
  -- the members of an AND, those of its members that are ANDs among them
  pub conjuncts : Bound → List Bound
  conjuncts (Conjunction bs) = all_conjuncts bs
  conjuncts (Testing place o t) = Testing place o t ∷ []
  conjuncts (Disjunction bs) = Disjunction bs ∷ []
  conjuncts (Negation b) = Negation b ∷ []

  pub all_conjuncts : Bounds → List Bound
  all_conjuncts no_more = []
  all_conjuncts (one_more b bs) = conjuncts b ++ all_conjuncts bs

-- the first reference to another part than this one
abbrev pub stranger : ℕ → List (ℕ × Output) → Result (Unit {0}) Fault
stranger part [] = Ok tt
stranger part ((place, o) ∷ others) = if o.part == part then stranger part others else fault Mixed place

abbrev pub names_one : List (ℕ × Output) → Result (Unit {0}) Fault
names_one [] = Ok tt
names_one ((place, o) ∷ others) = stranger o.part others

abbrev pub is_of_part : ℕ → List (ℕ × Output) → Bool
is_of_part part [] = false
is_of_part part ((place, o) ∷ others) = o.part == part

-- ---- sixth: the parts, none of which is too wide

abbrev pub list_conds : List Bound → Conds
list_conds [] = none
list_conds (b ∷ bs) = more (cond_of b) (list_conds bs)

-- the conjuncts on one part, all of which hold
abbrev pub part_condition : ℕ → List Bound → Cond
part_condition part bs = And (list_conds (filter (λ b. is_of_part part (references b)) bs))

-- a set of columns with one more
abbrev pub with_column : ℕ → ℕ → ℕ
with_column c attrs = if has_column attrs c then attrs else attrs + 2 ^ c

abbrev pub needed : ℕ → List Output → ℕ → ℕ
needed part [] attrs = attrs
needed part (o ∷ others) attrs = needed part others (if o.part == part then with_column o.column attrs else attrs)

abbrev pub join_columns : Join → List Output
join_columns j = record { part = j.left; column = j.column } ∷ record { part = j.right; column = j.key } ∷ []

-- all columns that a query names: selected, joined and compared
abbrev pub named_columns : List Output → List Join → List Bound → List Output
named_columns outputs joins bs = outputs ++ (flat_map join_columns joins ++ map (λ r. r.1) (flat_map references bs))

abbrev pub part_of : List Table → ℕ → ℕ → List Output → List Bound → Part
part_of schema part t columns bs = record { table = t; need = needed part columns (2 ^ (table_at schema t).key); condition = part_condition part bs }

-- a part of width above 64 is refused
abbrev pub narrow : Part → Result Part Fault
narrow p = if nat_lt 64 (width true p.condition) then fault TooWide (width true p.condition) else Ok p

abbrev pub parts_from : List Table → ℕ → List ℕ → List Output → List Bound → List Part
parts_from schema part [] columns bs = []
parts_from schema part (t ∷ tables) columns bs = part_of schema part t columns bs ∷ parts_from schema (part + 1) tables columns bs

-- ---- a query

abbrev pub filter_bound : List Table → List ℕ → Option tree.Cond → Result (List Bound) Fault
filter_bound schema tables None = Ok []
filter_bound schema tables (Some c) = bound schema tables c >>= λ b. Ok (conjuncts b)

-- the phases one after another
abbrev pub bound_select : List Table → tree.Select → Result Query Fault
bound_select schema s =
    tables_from schema [] (sources s) >>= λ tables. joins_from schema tables 1 s.joins >>= λ joins.
    outputs_of schema tables s >>= λ outputs. filter_bound schema tables s.filter >>= λ bs.
    each (λ b. names_one (references b)) bs >>= λ _.
    each narrow (parts_from schema 0 tables (named_columns outputs joins bs) bs) >>= λ parts.
    Ok (record { parts = parts; joins = joins; outputs = outputs })

-- what a statement asks, or why it asks nothing
abbrev pub bound_query : List Table → tree.Statement → Result Query Fault
bound_query schema (tree.Selects s) = bound_select schema s
bound_query schema (tree.Create t) = fault NotAQuery 0
bound_query schema (tree.Inserts s) = fault NotAQuery 0
bound_query schema (tree.Updates s) = fault NotAQuery 0
bound_query schema (tree.Deletes s) = fault NotAQuery 0
