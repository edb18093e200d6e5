-- The grammar of a CREATE: each rule of a column stands at most once.
use Rattle.std.specs.Prelude.{ℕ, ℤ, pos, zero, suc, Bool, true, false, List, [], ◌∷◌, codes, IsTrue}
use Rattle.sr_cell.specs.declared.table.Kind.{Kind}
use Rattle.sr_cell.specs.declared.table.Kind.TheVariants.{Num, Str}
use Rattle.sr_grammar.specs.declared.statement.Check.{Check}
use Rattle.sr_grammar.specs.declared.statement.ColumnRule.{ColumnRule}
use Rattle.sr_grammar.specs.declared.statement.ColumnRule.TheVariants.{PrimaryKey, NotNull, Null, Check as Checks}
use Rattle.sr_grammar.specs.declared.statement.Definition.{Definition}
use Rattle.sr_grammar.specs.Words.{name_of, number_of, minus}
use Rattle.sr_grammar.specs.Trees.{Tree, Defines}
use Rattle.sr_grammar.specs.Rules.{Rule, One, Nothing, ◌>>=◌, ◌or◌}
use Rattle.sr_grammar.specs.Conditions.{KEY, MARK, ListOf, InParens}

-- ["-"] Number
abbrev pub IsNumber : Rule ℤ
IsNumber = (do
  _ ← MARK (codes "-")
  n ← One number_of
  Nothing (minus n)) or
    (do
      n ← One number_of
      Nothing (pos n))

-- INT | INTEGER | TEXT
abbrev pub IsKind : Rule Kind
IsKind =
    (do
      _ ← KEY (codes "INT")
      Nothing Num) or
    ((do
      _ ← KEY (codes "INTEGER")
      Nothing Num) or
    (do
      _ ← KEY (codes "TEXT")
      Nothing Str))

-- which rules may still stand; NULL and NOT NULL count as one
pub record Left : Type 0 where
  pub primary : Bool
  pub null : Bool
  pub check : Bool

abbrev pub all_left : Left
all_left = record { primary = true; null = true; check = true }

-- P, if it may stand
abbrev pub Only : {A : Type 0} → Bool → Rule A → Rule A
Only may P a ts = IsTrue may × P a ts

-- name BETWEEN number AND number
abbrev pub IsCheck : Rule Check
IsCheck = do
  name ← One name_of
  _ ← KEY (codes "BETWEEN")
  low ← IsNumber
  _ ← KEY (codes "AND")
  high ← IsNumber
  Nothing (record { name = name.text; low = low; high = high })

-- at most so many of the rules that may still stand: PRIMARY KEY | NOT NULL | NULL | CHECK "(" name BETWEEN number AND number ")"
abbrev pub IsRules : ℕ → Left → Rule (List ColumnRule)
IsRules zero left = Nothing []
IsRules (suc count) left =
    Only left.primary (do
      _ ← KEY (codes "PRIMARY")
      _ ← KEY (codes "KEY")
      more ← IsRules count (record left { primary = false })
      Nothing (PrimaryKey ∷ more)) or
    (Only left.null (do
      _ ← KEY (codes "NOT")
      _ ← KEY (codes "NULL")
      more ← IsRules count (record left { null = false })
      Nothing (NotNull ∷ more)) or
    (Only left.null (do
      _ ← KEY (codes "NULL")
      more ← IsRules count (record left { null = false })
      Nothing (Null ∷ more)) or
    (Only left.check (do
      _ ← KEY (codes "CHECK")
      check ← InParens IsCheck
      more ← IsRules count (record left { check = false })
      Nothing (Checks check ∷ more)) or
    Nothing [])))

-- name kind {rule}
abbrev pub IsColumn : Rule Definition
IsColumn = do
  name ← One name_of
  kind ← IsKind
  rules ← IsRules 3 all_left
  Nothing (record { name = name.text; kind = kind; rules = rules })

-- CREATE TABLE name "(" column {"," column} ")"
abbrev pub IsCreate : Rule Tree
IsCreate = do
  _ ← KEY (codes "CREATE")
  _ ← KEY (codes "TABLE")
  name ← One name_of
  columns ← InParens (ListOf (MARK (codes ",")) IsColumn)
  Nothing (Defines name.text columns)
