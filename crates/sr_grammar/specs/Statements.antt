-- The grammar of statements.
use Rattle.std.specs.Prelude.{ℕ, Bool, true, false, List, [], Option, Some, None, codes}
use Rattle.sr_grammar.specs.declared.statement.Name.{Name}
use Rattle.sr_grammar.specs.declared.statement.JoinOn.{JoinOn}
use Rattle.sr_grammar.specs.declared.statement.LiteralRow.{LiteralRow}
use Rattle.sr_grammar.specs.declared.statement.Set.{Set}
use Rattle.sr_grammar.specs.Words.{Word, name_of, reference_of}
use Rattle.sr_grammar.specs.Trees.{Cond, Select, Selects, Inserts, Updates, Deletes, Tree, Says}
use Rattle.sr_grammar.specs.Rules.{Rule, One, Nothing, ◌>>=◌, ◌or◌, Many}
use Rattle.sr_grammar.specs.Conditions.{KEY, MARK, MaybeOf, ListOf, InParens, IsValue, IsReference, IsCond}
use Rattle.sr_grammar.specs.Columns.{IsCreate}

-- a condition, and the place of its WHERE
pub record Where : Type 0 where
  pub place : ℕ
  pub cond : Cond

-- [WHERE cond]
abbrev pub IsWhere : ℕ → Rule (Option Where)
IsWhere levels = MaybeOf (do
  at ← KEY (codes "WHERE")
  c ← IsCond levels
  Nothing (record { place = at; cond = c }))

abbrev pub filter_of : Option Where → Option Cond
filter_of None = None
filter_of (Some w) = Some w.cond

abbrev pub place_of_where : Option Where → ℕ
place_of_where None = 0
place_of_where (Some w) = w.place

-- what a SELECT lists: all, or these
pub record Listed : Type 0 where
  pub all : Bool
  pub list : List Name

-- "*" | reference {"," reference}
abbrev pub IsListed : Rule Listed
IsListed =
    (do
      _ ← MARK (codes "*")
      Nothing (record { all = true; list = [] })) or
    (do
      list ← ListOf (MARK (codes ",")) IsReference
      Nothing (record { all = false; list = list }))

-- [INNER] JOIN name ON reference "=" reference
abbrev pub IsJoin : Rule JoinOn
IsJoin = do
  _ ← ((do
    _ ← KEY (codes "INNER")
    KEY (codes "JOIN")) or KEY (codes "JOIN"))
  table ← One name_of
  at ← KEY (codes "ON")
  left ← IsReference
  _ ← MARK (codes "=")
  right ← IsReference
  Nothing (record { table = table.text; table_place = table.place; left = left; right = right; place = at })

abbrev pub select_of : Listed → Word → List JoinOn → Option Where → Select
select_of listed first joins filter = record {
  all = listed.all;
  list = listed.list;
  first = first.text;
  first_place = first.place;
  joins = joins;
  filter = filter_of filter;
  place = place_of_where filter;
}

-- SELECT list FROM name {join} [WHERE cond]
abbrev pub IsSelect : ℕ → Rule Tree
IsSelect levels = do
  _ ← KEY (codes "SELECT")
  listed ← IsListed
  _ ← KEY (codes "FROM")
  first ← One name_of
  joins ← Many IsJoin
  filter ← IsWhere levels
  Nothing (Says (Selects (select_of listed first joins filter)))

abbrev pub IsColumnName : Rule Name
IsColumnName = do
  name ← One name_of
  Nothing (reference_of name None)

-- ["(" name {"," name} ")"]
abbrev pub IsColumnNames : Rule (List Name)
IsColumnNames = InParens (ListOf (MARK (codes ",")) IsColumnName) or Nothing []

-- "(" value {"," value} ")"
abbrev pub IsRow : Rule LiteralRow
IsRow = do
  at ← MARK (codes "(")
  literals ← ListOf (MARK (codes ",")) IsValue
  _ ← MARK (codes ")")
  Nothing (record { literals = literals; place = at })

-- INSERT INTO name [names] VALUES row {"," row}
abbrev pub IsInsert : Rule Tree
IsInsert = do
  _ ← KEY (codes "INSERT")
  _ ← KEY (codes "INTO")
  table ← One name_of
  columns ← IsColumnNames
  _ ← KEY (codes "VALUES")
  rows ← ListOf (MARK (codes ",")) IsRow
  Nothing (Says (Inserts (record { table = table.text; place = table.place; columns = columns; rows = rows })))

-- name "=" value
abbrev pub IsSet : Rule Set
IsSet = do
  name ← IsColumnName
  _ ← MARK (codes "=")
  value ← IsValue
  Nothing (record { name = name; value = value })

-- UPDATE name SET set {"," set} [WHERE cond]
abbrev pub IsUpdate : ℕ → Rule Tree
IsUpdate levels = do
  _ ← KEY (codes "UPDATE")
  table ← One name_of
  _ ← KEY (codes "SET")
  sets ← ListOf (MARK (codes ",")) IsSet
  filter ← IsWhere levels
  Nothing (Says (Updates (record { table = table.text; place = table.place; sets = sets; filter = filter_of filter })))

-- DELETE FROM name [WHERE cond]
abbrev pub IsDelete : ℕ → Rule Tree
IsDelete levels = do
  _ ← KEY (codes "DELETE")
  _ ← KEY (codes "FROM")
  table ← One name_of
  filter ← IsWhere levels
  Nothing (Says (Deletes (record { table = table.text; place = table.place; filter = filter_of filter })))

-- statement [";"]
abbrev pub IsStatement : ℕ → Rule Tree
IsStatement levels = do
  tree ← (IsCreate or (IsSelect levels or (IsInsert or (IsUpdate levels or IsDelete levels))))
  _ ← MaybeOf (MARK (codes ";"))
  Nothing tree
