-- Statements without their places.
use Rattle.std.specs.Prelude.{◌≡◌, map, Option, Some, None}
use Rattle.sr_grammar.specs.declared.statement.Name.{Name}
use Rattle.sr_grammar.specs.declared.statement.Literal.{Literal}
use Rattle.sr_grammar.specs.declared.statement.Atom.{Atom}
use Rattle.sr_grammar.specs.declared.statement.Atom.TheVariants.{Cmp, Between, OneOf, Prefix, NotBetween, NotOneOf, NotPrefix, IsNull, NotNull}
use Rattle.sr_grammar.specs.declared.statement.JoinOn.{JoinOn}
use Rattle.sr_grammar.specs.declared.statement.LiteralRow.{LiteralRow}
use Rattle.sr_grammar.specs.declared.statement.Set.{Set}
use Rattle.sr_grammar.specs.Tokens.{Tok}
use Rattle.sr_grammar.specs.Trees.{Cond, Conds, Test, And, Or, Not, none, more, Select, Statement, Create, Selects, Inserts, Updates, Deletes, Tree, Defines, Says}

abbrev pub bare_name : Name → Name
bare_name n = record n { place = 0 }

abbrev pub bare_literal : Literal → Literal
bare_literal l = record l { place = 0 }

abbrev pub bare_atom : Atom → Atom
bare_atom (Cmp op value) = Cmp op (bare_literal value)
bare_atom (Between low high) = Between (bare_literal low) (bare_literal high)
bare_atom (OneOf all) = OneOf (map bare_literal all)
bare_atom (Prefix text) = Prefix (bare_literal text)
bare_atom (NotBetween low high) = NotBetween (bare_literal low) (bare_literal high)
bare_atom (NotOneOf all) = NotOneOf (map bare_literal all)
bare_atom (NotPrefix text) = NotPrefix (bare_literal text)
bare_atom IsNull = IsNull
bare_atom NotNull = NotNull

abbrev mutual
  pub bare_cond : Cond → Cond
  bare_cond (Test n a) = Test (bare_name n) (bare_atom a)
  bare_cond (And cs) = And (bare_conds cs)
  bare_cond (Or cs) = Or (bare_conds cs)
  bare_cond (Not c) = Not (bare_cond c)

  pub bare_conds : Conds → Conds
  bare_conds none = none
  bare_conds (more c cs) = more (bare_cond c) (bare_conds cs)

abbrev pub bare_filter : Option Cond → Option Cond
bare_filter None = None
bare_filter (Some c) = Some (bare_cond c)

abbrev pub bare_join : JoinOn → JoinOn
bare_join j = record { table = j.table; table_place = 0; left = bare_name j.left; right = bare_name j.right; place = 0 }

abbrev pub bare_row : LiteralRow → LiteralRow
bare_row r = record { literals = map bare_literal r.literals; place = 0 }

abbrev pub bare_set : Set → Set
bare_set s = record { name = bare_name s.name; value = bare_literal s.value }

abbrev pub bare_select : Select → Select
bare_select s = record {
  all = s.all;
  list = map bare_name s.list;
  first = s.first;
  first_place = 0;
  joins = map bare_join s.joins;
  filter = bare_filter s.filter;
  place = 0;
}

abbrev pub bare : Statement → Statement
bare (Create t) = Create t
bare (Selects s) = Selects (bare_select s)
bare (Inserts s) = Inserts (record { table = s.table; place = 0; columns = map bare_name s.columns; rows = map bare_row s.rows })
bare (Updates s) = Updates (record { table = s.table; place = 0; sets = map bare_set s.sets; filter = bare_filter s.filter })
bare (Deletes s) = Deletes (record { table = s.table; place = 0; filter = bare_filter s.filter })

-- the same statement, but for places
abbrev pub AreSame : Statement → Statement → Type 0
AreSame s t = bare s ≡ bare t

abbrev pub bare_tree : Tree → Tree
bare_tree (Defines table columns) = Defines table columns
bare_tree (Says s) = Says (bare s)

-- a token without its place
abbrev pub bare_token : Tok → Tok
bare_token t = record t { from = 0 }
