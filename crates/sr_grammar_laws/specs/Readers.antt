-- Reading statements from left to right, by the same words as the grammar.
use Rattle.std.specs.Prelude.{ℕ, ℤ, pos, zero, suc, Bool, true, false, List, [], ◌∷◌, Option, Some, None, codes, ◌||◌, ◌&&◌}
use Rattle.sr_cell.specs.declared.cell.Cell.TheVariants.{Num, Null as null_cell}
use Rattle.sr_cell.specs.declared.table.Kind.{Kind as ColumnKind}
use Rattle.sr_cell.specs.declared.table.Kind.TheVariants as kinds
use Rattle.sr_grammar.specs.declared.statement.Name.{Name}
use Rattle.sr_grammar.specs.declared.statement.Literal.{Literal}
use Rattle.sr_grammar.specs.declared.statement.Atom.{Atom}
use Rattle.sr_grammar.specs.declared.statement.Atom.TheVariants.{Cmp, Between, OneOf, Prefix, NotBetween, NotOneOf, NotPrefix, IsNull, NotNull as is_not_null}
use Rattle.sr_grammar.specs.declared.statement.JoinOn.{JoinOn}
use Rattle.sr_grammar.specs.declared.statement.LiteralRow.{LiteralRow}
use Rattle.sr_grammar.specs.declared.statement.Set.{Set}
use Rattle.sr_grammar.specs.declared.statement.Check.{Check}
use Rattle.sr_grammar.specs.declared.statement.ColumnRule.{ColumnRule}
use Rattle.sr_grammar.specs.declared.statement.ColumnRule.TheVariants.{PrimaryKey, NotNull, Null, Check as Checks}
use Rattle.sr_grammar.specs.declared.statement.Definition.{Definition}
use Rattle.sr_grammar.specs.Tokens.{Kind, Key, Mark, Tok, is}
use Rattle.sr_grammar.specs.Words.{place_of, name_of, number_of, minus, plain_of, prefix_of, op_of, reference_of}
use Rattle.sr_grammar.specs.Trees.{Cond, Test, Not, and_of, or_of, Selects, Inserts, Updates, Deletes, Tree, Defines, Says}
use Rattle.sr_grammar.specs.Columns.{Left, all_left}
use Rattle.sr_grammar.specs.Statements.{Where, filter_of, Listed, select_of}
use Rattle.sr_grammar_laws.specs.Reading.{Got, Fails, Reader, and_then as ◌>>=◌, nothing, one, branch, many}

abbrev pub key : List ℕ → Reader ℕ
key text = one (place_of Key text)

abbrev pub mark : List ℕ → Reader ℕ
mark text = one (place_of Mark text)

abbrev pub maybe : {A : Type 0} → (Tok → Bool) → Reader A → Reader (Option A)
maybe f p = branch f (do
  a ← p
  nothing (Some a)) (nothing None)

-- p, and any number of times the word or mark and p
abbrev pub list : {A : Type 0} → Kind → List ℕ → Reader A → Reader (List A)
list kind text p = do
  a ← p
  more ← many (is kind text) (do
    _ ← one (place_of kind text)
    p)
  nothing (a ∷ more)

abbrev pub in_parens : {A : Type 0} → Reader A → Reader A
in_parens p = do
  _ ← mark (codes "(")
  a ← p
  _ ← mark (codes ")")
  nothing a

-- ---- conditions

unfoldable pub literal : Reader Literal
literal = branch (is Mark (codes "-")) (do
  at ← mark (codes "-")
  n ← one number_of
  nothing (record { cell = Num (minus n); place = at })) (one plain_of)

unfoldable pub value : Reader Literal
value = branch (is Key (codes "NULL")) (do
  at ← key (codes "NULL")
  nothing (record { cell = null_cell; place = at })) literal

unfoldable pub reference : Reader Name
reference = do
  a ← one name_of
  b ← maybe (is Mark (codes ".")) (do
    _ ← mark (codes ".")
    one name_of)
  nothing (reference_of a b)

unfoldable pub between : (Literal → Literal → Atom) → Reader Atom
between made = do
  _ ← key (codes "BETWEEN")
  low ← literal
  _ ← key (codes "AND")
  high ← literal
  nothing (made low high)

unfoldable pub in_list : (List Literal → Atom) → Reader Atom
in_list made = do
  _ ← key (codes "IN")
  all ← in_parens (list Mark (codes ",") literal)
  nothing (made all)

unfoldable pub like : (Literal → Atom) → Reader Atom
like made = do
  _ ← key (codes "LIKE")
  text ← one prefix_of
  nothing (made text)

unfoldable pub null_test : Reader Atom
null_test = do
  _ ← key (codes "IS")
  branch (is Key (codes "NOT")) (do
    _ ← key (codes "NOT")
    _ ← key (codes "NULL")
    nothing is_not_null)
      (do
        _ ← key (codes "NULL")
        nothing IsNull)

unfoldable pub atom : Reader Atom
atom =
    branch (is Key (codes "NOT")) (do
      _ ← key (codes "NOT")
      branch (is Key (codes "BETWEEN")) (between NotBetween) (branch (is Key (codes "IN")) (in_list NotOneOf) (like NotPrefix)))
    (branch (is Key (codes "BETWEEN")) (between Between) (branch (is Key (codes "IN")) (in_list OneOf) (branch (is Key (codes "LIKE")) (like Prefix)
    (branch (is Key (codes "IS")) null_test
    (do
      op ← one op_of
      value ← literal
      nothing (Cmp op value))))))

unfoldable pub comparison : Reader Cond
comparison = do
  r ← reference
  a ← atom
  nothing (Test r a)

unfoldable pub conj_of : Reader Cond → Reader Cond
conj_of unit = do
  first ← unit
  more ← many (is Key (codes "AND")) (do
    _ ← key (codes "AND")
    unit)
  nothing (and_of first more)

unfoldable pub cond_of : Reader Cond → Reader Cond
cond_of unit = do
  first ← conj_of unit
  more ← many (is Key (codes "OR")) (do
    _ ← key (codes "OR")
    conj_of unit)
  nothing (or_of first more)

-- what begins a unit inside a unit
abbrev pub opens : Tok → Bool
opens t = is Key (codes "NOT") t || is Mark (codes "(") t

unfoldable pub unit : ℕ → Reader Cond
unit zero = branch opens (λ ts. Fails true ts) comparison
unit (suc n) = branch (is Key (codes "NOT")) (do
  _ ← key (codes "NOT")
  c ← unit n
  nothing (Not c))
    (branch (is Mark (codes "(")) (in_parens (cond_of (unit n))) comparison)

-- ---- CREATE

unfoldable pub number : Reader ℤ
number = branch (is Mark (codes "-")) (do
  _ ← mark (codes "-")
  n ← one number_of
  nothing (minus n))
    (do
      n ← one number_of
      nothing (pos n))

unfoldable pub kind : Reader ColumnKind
kind = branch (is Key (codes "INT")) (do
  _ ← key (codes "INT")
  nothing kinds.Num)
    (branch (is Key (codes "INTEGER")) (do
      _ ← key (codes "INTEGER")
      nothing kinds.Num)
    (do
      _ ← key (codes "TEXT")
      nothing kinds.Str))

unfoldable pub check : Reader Check
check = do
  name ← one name_of
  _ ← key (codes "BETWEEN")
  low ← number
  _ ← key (codes "AND")
  high ← number
  nothing (record { name = name.text; low = low; high = high })

-- this word, where it may stand
abbrev pub may : Bool → List ℕ → Tok → Bool
may left word t = left && is Key word t

unfoldable pub rules : ℕ → Left → Reader (List ColumnRule)
rules zero left = nothing []
rules (suc count) left =
    branch (may left.primary (codes "PRIMARY")) (do
      _ ← key (codes "PRIMARY")
      _ ← key (codes "KEY")
      more ← rules count (record left { primary = false })
      nothing (PrimaryKey ∷ more))
    (branch (may left.null (codes "NOT")) (do
      _ ← key (codes "NOT")
      _ ← key (codes "NULL")
      more ← rules count (record left { null = false })
      nothing (NotNull ∷ more))
    (branch (may left.null (codes "NULL")) (do
      _ ← key (codes "NULL")
      more ← rules count (record left { null = false })
      nothing (Null ∷ more))
    (branch (may left.check (codes "CHECK")) (do
      _ ← key (codes "CHECK")
      range ← in_parens check
      more ← rules count (record left { check = false })
      nothing (Checks range ∷ more))
    (nothing []))))

unfoldable pub column : Reader Definition
column = do
  name ← one name_of
  k ← kind
  all ← rules 3 all_left
  nothing (record { name = name.text; kind = k; rules = all })

unfoldable pub create : Reader Tree
create = do
  _ ← key (codes "CREATE")
  _ ← key (codes "TABLE")
  name ← one name_of
  columns ← in_parens (list Mark (codes ",") column)
  nothing (Defines name.text columns)

-- ---- the other statements

unfoldable pub filter : ℕ → Reader (Option Where)
filter n = maybe (is Key (codes "WHERE")) (do
  at ← key (codes "WHERE")
  c ← cond_of (unit n)
  nothing (record { place = at; cond = c }))

unfoldable pub listed : Reader Listed
listed = branch (is Mark (codes "*")) (do
  _ ← mark (codes "*")
  nothing (record { all = true; list = [] }))
    (do
      names ← list Mark (codes ",") reference
      nothing (record { all = false; list = names }))

abbrev pub begins_join : Tok → Bool
begins_join t = is Key (codes "INNER") t || is Key (codes "JOIN") t

unfoldable pub join : Reader JoinOn
join = do
  _ ← branch (is Key (codes "INNER")) (do
    _ ← key (codes "INNER")
    key (codes "JOIN")) (key (codes "JOIN"))
  table ← one name_of
  at ← key (codes "ON")
  left ← reference
  _ ← mark (codes "=")
  right ← reference
  nothing (record { table = table.text; table_place = table.place; left = left; right = right; place = at })

unfoldable pub select : ℕ → Reader Tree
select n = do
  _ ← key (codes "SELECT")
  names ← listed
  _ ← key (codes "FROM")
  first ← one name_of
  joins ← many begins_join join
  condition ← filter n
  nothing (Says (Selects (select_of names first joins condition)))

unfoldable pub column_name : Reader Name
column_name = do
  name ← one name_of
  nothing (reference_of name None)

unfoldable pub column_names : Reader (List Name)
column_names = branch (is Mark (codes "(")) (in_parens (list Mark (codes ",") column_name)) (nothing [])

unfoldable pub row : Reader LiteralRow
row = do
  at ← mark (codes "(")
  literals ← list Mark (codes ",") value
  _ ← mark (codes ")")
  nothing (record { literals = literals; place = at })

unfoldable pub insert : Reader Tree
insert = do
  _ ← key (codes "INSERT")
  _ ← key (codes "INTO")
  table ← one name_of
  columns ← column_names
  _ ← key (codes "VALUES")
  rows ← list Mark (codes ",") row
  nothing (Says (Inserts (record { table = table.text; place = table.place; columns = columns; rows = rows })))

unfoldable pub set : Reader Set
set = do
  name ← column_name
  _ ← mark (codes "=")
  given ← value
  nothing (record { name = name; value = given })

unfoldable pub update : ℕ → Reader Tree
update n = do
  _ ← key (codes "UPDATE")
  table ← one name_of
  _ ← key (codes "SET")
  sets ← list Mark (codes ",") set
  condition ← filter n
  nothing (Says (Updates (record { table = table.text; place = table.place; sets = sets; filter = filter_of condition })))

unfoldable pub delete : ℕ → Reader Tree
delete n = do
  _ ← key (codes "DELETE")
  _ ← key (codes "FROM")
  table ← one name_of
  condition ← filter n
  nothing (Says (Deletes (record { table = table.text; place = table.place; filter = filter_of condition })))

unfoldable pub tree : ℕ → Reader Tree
tree n =
    branch (is Key (codes "CREATE")) create
    (branch (is Key (codes "SELECT")) (select n)
    (branch (is Key (codes "INSERT")) insert
    (branch (is Key (codes "UPDATE")) (update n) (delete n))))

unfoldable pub statement : ℕ → Reader Tree
statement n = do
  t ← tree n
  _ ← maybe (is Mark (codes ";")) (mark (codes ";"))
  nothing t

-- nothing more
abbrev pub end : {A : Type 0} → A → Reader A
end a [] = Got a []
end a (t ∷ ts) = Fails false (t ∷ ts)

-- all tokens, with at most n levels
unfoldable pub whole : ℕ → Reader Tree
whole n = do
  t ← statement n
  end t
