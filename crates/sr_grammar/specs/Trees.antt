-- Statements as trees, where the code's are not plain values: conditions, and what holds them.
use Rattle.std.specs.Prelude.{ℕ, ℤ, pos, negsuc, ◌+◌, ◌==◌, ◌&&◌, not, Bool, true, false, List, [], ◌∷◌, map, filter, length, Option, Result, Ok, Err, int_le, bytes_eq, if◌then◌else◌}
use Rattle.std.specs.List.{list_any}
use Rattle.sr_cell.specs.declared.table.Kind.{Kind}
use Rattle.sr_cell.specs.declared.table.Kind.TheVariants as kinds
use Rattle.sr_cell.specs.declared.table.Column.{Column}
use Rattle.sr_cell.specs.declared.table.Table.{Table}
use Rattle.sr_cell.specs.declared.fault.Fault.{Fault}
use Rattle.sr_cell.specs.declared.fault.Why.TheVariants.{NoKey, BadDomain, BadNull}
use Rattle.sr_grammar.specs.declared.statement.Name.{Name}
use Rattle.sr_grammar.specs.declared.statement.Atom.{Atom}
use Rattle.sr_grammar.specs.declared.statement.JoinOn.{JoinOn}
use Rattle.sr_grammar.specs.declared.statement.Insert.{Insert}
use Rattle.sr_grammar.specs.declared.statement.Set.{Set}
use Rattle.sr_grammar.specs.declared.statement.Check.{Check}
use Rattle.sr_grammar.specs.declared.statement.ColumnRule.{ColumnRule}
use Rattle.sr_grammar.specs.declared.statement.ColumnRule.TheVariants as rules
use Rattle.sr_grammar.specs.declared.statement.Definition.{Definition}

mutual
  pub data Cond : Type 0 where
    Test : Name → Atom → Cond
    And : Conds → Cond
    Or : Conds → Cond
    Not : Cond → Cond

  pub data Conds : Type 0 where
    none : Conds
    more : Cond → Conds → Conds

abbrev pub conds_of : List Cond → Conds
conds_of [] = none
conds_of (c ∷ cs) = more c (conds_of cs)

-- an AND of one member is that member
abbrev pub and_of : Cond → List Cond → Cond
and_of c [] = c
and_of c (d ∷ ds) = And (more c (more d (conds_of ds)))

abbrev pub or_of : Cond → List Cond → Cond
or_of c [] = c
or_of c (d ∷ ds) = Or (more c (more d (conds_of ds)))

pub record Select : Type 0 where
  pub all : Bool
  pub list : List Name
  pub first : List ℕ
  pub first_place : ℕ
  pub joins : List JoinOn
  pub filter : Option Cond
  pub place : ℕ

pub record Update : Type 0 where
  pub table : List ℕ
  pub place : ℕ
  pub sets : List Set
  pub filter : Option Cond

pub record Delete : Type 0 where
  pub table : List ℕ
  pub place : ℕ
  pub filter : Option Cond

pub data Statement : Type 0 where
  Create : Table → Statement
  Selects : Select → Statement
  Inserts : Insert → Statement
  Updates : Update → Statement
  Deletes : Delete → Statement

-- what tokens spell: a statement, or the columns of a CREATE, which are judged after the grammar
pub data Tree : Type 0 where
  Defines : (table : List ℕ) → (columns : List Definition) → Tree
  Says : Statement → Tree

-- ---- the table of a CREATE

abbrev pub is_key_rule : ColumnRule → Bool
is_key_rule rules.PrimaryKey = true
is_key_rule rules.NotNull = false
is_key_rule rules.Null = false
is_key_rule (rules.Check check) = false

abbrev pub is_key : Definition → Bool
is_key d = list_any is_key_rule d.rules

abbrev pub is_null_rule : ColumnRule → Bool
is_null_rule rules.PrimaryKey = false
is_null_rule rules.NotNull = false
is_null_rule rules.Null = true
is_null_rule (rules.Check check) = false

-- a column is nullable exactly where it has the rule NULL
abbrev pub is_nullable : Definition → Bool
is_nullable d = list_any is_null_rule d.rules

abbrev pub is_nullable_key : Definition → Bool
is_nullable_key d = is_key d && is_nullable d

-- the default domain
abbrev pub low_default : ℤ
low_default = negsuc 1099511627775

abbrev pub high_default : ℤ
high_default = pos 1099511627775

-- a range that a column of this name and kind may have
abbrev pub may_check : List ℕ → Kind → Check → Bool
may_check name kinds.Num check = bytes_eq check.name name && (int_le low_default check.low && (int_le check.low check.high && int_le check.high high_default))
may_check name kinds.Str check = false

abbrev pub is_bad_rule : List ℕ → Kind → ColumnRule → Bool
is_bad_rule name kind rules.PrimaryKey = false
is_bad_rule name kind rules.NotNull = false
is_bad_rule name kind rules.Null = false
is_bad_rule name kind (rules.Check check) = not (may_check name kind check)

-- a CHECK that names another column, or is of texts, or has its ends out of order or outside the default domain
abbrev pub has_bad_domain : Definition → Bool
has_bad_domain d = list_any (is_bad_rule d.name d.kind) d.rules

-- the domain of a column: that of its CHECK, or the default; texts have none
abbrev pub checked : List ℕ → Kind → Bool → List ColumnRule → Column
checked name kinds.Num nullable [] = record { name = name; kind = kinds.Num; lo = low_default; hi = high_default; nullable = nullable }
checked name kinds.Str nullable [] = record { name = name; kind = kinds.Str; lo = pos 0; hi = pos 0; nullable = nullable }
checked name kind nullable (rules.PrimaryKey ∷ others) = checked name kind nullable others
checked name kind nullable (rules.NotNull ∷ others) = checked name kind nullable others
checked name kind nullable (rules.Null ∷ others) = checked name kind nullable others
checked name kind nullable (rules.Check check ∷ others) = record { name = name; kind = kind; lo = check.low; hi = check.high; nullable = nullable }

abbrev pub column_of : Definition → Column
column_of d = checked d.name d.kind (is_nullable d) d.rules

-- the number of the first key column
abbrev pub key_of : List Definition → ℕ
key_of [] = 0
key_of (d ∷ ds) = if is_key d then 0 else key_of ds + 1

abbrev pub table_of : List ℕ → List Definition → Table
table_of name columns = record { name = name; columns = map column_of columns; key = key_of columns }

-- what the tokens say; a CREATE is judged first by its domains, then by NULL in its key, then by its key
abbrev pub statement_of : Tree → Result Statement Fault
statement_of (Says s) = Ok s
statement_of (Defines name columns) =
    if list_any has_bad_domain columns then Err (record { why = BadDomain; at = 0 })
    else if list_any is_nullable_key columns then Err (record { why = BadNull; at = 0 })
    else (if length (filter is_key columns) == 1 then Ok (Create (table_of name columns)) else Err (record { why = NoKey; at = 0 }))
