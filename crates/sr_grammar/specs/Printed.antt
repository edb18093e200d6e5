-- The printed form of a statement: its tokens, at the places that the tree gives.
use Rattle.std.specs.Prelude.{ℕ, ℤ, pos, negsuc, int_le, ◌+◌, ◌==◌, ◌&&◌, Bool, true, false, List, [], ◌∷◌, ◌++◌, flat_map, decimal, Option, Some, None, codes, if◌then◌else◌}
use Rattle.sr_cell.specs.declared.cell.Cell.{Cell}
use Rattle.sr_cell.specs.declared.cell.Cell.TheVariants.{Num, Str, Null}
use Rattle.sr_cell.specs.declared.table.Kind.{Kind}
use Rattle.sr_cell.specs.declared.table.Kind.TheVariants as kinds
use Rattle.sr_cell.specs.declared.table.Column.{Column}
use Rattle.sr_cell.specs.declared.table.Table.{Table}
use Rattle.sr_grammar.specs.declared.statement.Name.{Name}
use Rattle.sr_grammar.specs.declared.statement.Literal.{Literal}
use Rattle.sr_grammar.specs.declared.statement.Op.{Op}
use Rattle.sr_grammar.specs.declared.statement.Op.TheVariants.{Eq, Ne, Lt, Le, Gt, Ge}
use Rattle.sr_grammar.specs.declared.statement.Atom.{Atom}
use Rattle.sr_grammar.specs.declared.statement.Atom.TheVariants.{Cmp, Between, OneOf, Prefix, NotBetween, NotOneOf, NotPrefix, IsNull, NotNull}
use Rattle.sr_grammar.specs.declared.statement.JoinOn.{JoinOn}
use Rattle.sr_grammar.specs.declared.statement.LiteralRow.{LiteralRow}
use Rattle.sr_grammar.specs.declared.statement.Insert.{Insert}
use Rattle.sr_grammar.specs.declared.statement.Set.{Set}
use Rattle.sr_grammar.specs.Tokens.{Kind as TokenKind, Key, Named, Number, Quoted, Mark, Tok}
use Rattle.sr_grammar.specs.Trees.{Cond, Conds, Test, And, Or, Not, none, more, Select, Update, Delete, Statement, Create, Selects, Inserts, Updates, Deletes, low_default, high_default}

abbrev pub token : TokenKind → List ℕ → ℕ → Tok
token kind text place = record { kind = kind; text = text; from = place }

abbrev pub key : List ℕ → Tok
key word = token Key word 0

abbrev pub mark : List ℕ → Tok
mark sign = token Mark sign 0

abbrev pub name : List ℕ → ℕ → Tok
name text place = token Named text place

-- lists of tokens, with a comma between two
abbrev pub commas : {A : Type 0} → (A → List Tok) → List A → List Tok
commas print [] = []
commas print (a ∷ others) = print a ++ flat_map (λ b. mark (codes ",") ∷ print b) others

abbrev pub parens : List Tok → List Tok
parens ts = mark (codes "(") ∷ (ts ++ mark (codes ")") ∷ [])

-- a minus stands in front of a number below 0; there are no leading zeros
abbrev pub number : ℤ → ℕ → List Tok
number (pos n) place = token Number (decimal n) place ∷ []
number (negsuc n) place = token Mark (codes "-") place ∷ token Number (decimal (n + 1)) 0 ∷ []

abbrev pub cell : Cell → ℕ → List Tok
cell (Num n) place = number n place
cell (Str text) place = token Quoted text place ∷ []
cell Null place = token Key (codes "NULL") place ∷ []

abbrev pub literal : Literal → List Tok
literal l = cell l.cell l.place

abbrev pub prefix_cell : Cell → ℕ → List Tok
prefix_cell (Num n) place = number n place
prefix_cell (Str text) place = token Quoted (text ++ codes "%") place ∷ []
prefix_cell Null place = token Key (codes "NULL") place ∷ []

-- the % of a prefix stands at its end
abbrev pub prefix : Literal → List Tok
prefix l = prefix_cell l.cell l.place

abbrev pub with_table : Option (List ℕ) → List ℕ → ℕ → List Tok
with_table None column place = name column place ∷ []
with_table (Some table) column place = name table place ∷ mark (codes ".") ∷ name column 0 ∷ []

abbrev pub reference : Name → List Tok
reference n = with_table n.table n.column n.place

-- <> stands for both spellings
abbrev pub sign : Op → List ℕ
sign Eq = codes "="
sign Ne = codes "<>"
sign Lt = codes "<"
sign Le = codes "<="
sign Gt = codes ">"
sign Ge = codes ">="

abbrev pub between : Literal → Literal → List Tok
between low high = key (codes "BETWEEN") ∷ (literal low ++ key (codes "AND") ∷ literal high)

abbrev pub one_of : List Literal → List Tok
one_of all = key (codes "IN") ∷ parens (commas literal all)

abbrev pub like : Literal → List Tok
like text = key (codes "LIKE") ∷ prefix text

abbrev pub atom : Atom → List Tok
atom (Cmp op value) = mark (sign op) ∷ literal value
atom (Between low high) = between low high
atom (OneOf all) = one_of all
atom (Prefix text) = like text
atom (NotBetween low high) = key (codes "NOT") ∷ between low high
atom (NotOneOf all) = key (codes "NOT") ∷ one_of all
atom (NotPrefix text) = key (codes "NOT") ∷ like text
atom IsNull = key (codes "IS") ∷ key (codes "NULL") ∷ []
atom NotNull = key (codes "IS") ∷ key (codes "NOT") ∷ key (codes "NULL") ∷ []

abbrev mutual
  -- as a member of an AND, or behind NOT: in parentheses where it is an AND or an OR
  pub unit : Cond → List Tok
  unit (Test n a) = reference n ++ atom a
  unit (Not c) = key (codes "NOT") ∷ unit c
  unit (And cs) = mark (codes "(") ∷ (conjunction cs ++ mark (codes ")") ∷ [])
  unit (Or cs) = mark (codes "(") ∷ (disjunction cs ++ mark (codes ")") ∷ [])

  -- as a member of an OR: in parentheses where it is an OR
  pub member : Cond → List Tok
  member (Test n a) = reference n ++ atom a
  member (Not c) = key (codes "NOT") ∷ unit c
  member (And cs) = conjunction cs
  member (Or cs) = mark (codes "(") ∷ (disjunction cs ++ mark (codes ")") ∷ [])

  pub conjunction : Conds → List Tok
  conjunction none = []
  conjunction (more c cs) = unit c ++ and_others cs

  pub and_others : Conds → List Tok
  and_others none = []
  and_others (more c cs) = (key (codes "AND") ∷ unit c) ++ and_others cs

  pub disjunction : Conds → List Tok
  disjunction none = []
  disjunction (more c cs) = member c ++ or_others cs

  pub or_others : Conds → List Tok
  or_others none = []
  or_others (more c cs) = (key (codes "OR") ∷ member c) ++ or_others cs

-- a whole condition
abbrev pub condition : Cond → List Tok
condition (Test n a) = reference n ++ atom a
condition (Not c) = key (codes "NOT") ∷ unit c
condition (And cs) = conjunction cs
condition (Or cs) = disjunction cs

abbrev pub where_tokens : ℕ → Option Cond → List Tok
where_tokens place None = []
where_tokens place (Some c) = token Key (codes "WHERE") place ∷ condition c

abbrev pub kind_word : Kind → List ℕ
kind_word kinds.Num = codes "INT"
kind_word kinds.Str = codes "TEXT"

abbrev pub key_rule : Bool → List Tok
key_rule false = []
key_rule true = key (codes "PRIMARY") ∷ key (codes "KEY") ∷ []

abbrev pub null_rule : Bool → List Tok
null_rule false = []
null_rule true = key (codes "NULL") ∷ []

abbrev pub check : List ℕ → ℤ → ℤ → List Tok
check column low high = key (codes "CHECK") ∷ parens (name column 0 ∷ key (codes "BETWEEN") ∷ (number low 0 ++ key (codes "AND") ∷ number high 0))

-- CHECK stands where the domain is not the default
abbrev pub check_rule : Kind → List ℕ → ℤ → ℤ → List Tok
check_rule kinds.Num column low high = if int_le low low_default && int_le high_default high then [] else check column low high
check_rule kinds.Str column low high = []

abbrev pub column : Bool → Column → List Tok
column is_key c = name c.name 0 ∷ key (kind_word c.kind) ∷ (key_rule is_key ++ (null_rule c.nullable ++ check_rule c.kind c.name c.lo c.hi))

-- the columns behind the first, each behind a comma; c is the number of the first of these
abbrev pub columns_behind : ℕ → ℕ → List Column → List Tok
columns_behind k c [] = []
columns_behind k c (d ∷ others) = (mark (codes ",") ∷ column (k == c) d) ++ columns_behind k (c + 1) others

-- k is the number of the key
abbrev pub columns : ℕ → List Column → List Tok
columns k [] = []
columns k (d ∷ others) = column (k == 0) d ++ columns_behind k 1 others

abbrev pub create : Table → List Tok
create t = key (codes "CREATE") ∷ key (codes "TABLE") ∷ name t.name 0 ∷ parens (columns t.key t.columns)

abbrev pub listed : Bool → List Name → List Tok
listed true list = mark (codes "*") ∷ []
listed false list = commas reference list

abbrev pub join : JoinOn → List Tok
join j = key (codes "JOIN") ∷ name j.table j.table_place ∷ token Key (codes "ON") j.place ∷ (reference j.left ++ mark (codes "=") ∷ reference j.right)

abbrev pub select : Select → List Tok
select s = key (codes "SELECT")
    ∷ (listed s.all s.list ++ key (codes "FROM") ∷ name s.first s.first_place ∷ (flat_map join s.joins ++ where_tokens s.place s.filter))

abbrev pub column_names : List Name → List Tok
column_names [] = []
column_names (n ∷ names) = parens (commas reference (n ∷ names))

abbrev pub row : LiteralRow → List Tok
row r = token Mark (codes "(") r.place ∷ (commas literal r.literals ++ mark (codes ")") ∷ [])

abbrev pub insert : Insert → List Tok
insert s = key (codes "INSERT") ∷ key (codes "INTO") ∷ name s.table s.place ∷ (column_names s.columns ++ key (codes "VALUES") ∷ commas row s.rows)

abbrev pub set : Set → List Tok
set s = reference s.name ++ mark (codes "=") ∷ literal s.value

abbrev pub update : Update → List Tok
update s = key (codes "UPDATE") ∷ name s.table s.place ∷ key (codes "SET") ∷ (commas set s.sets ++ where_tokens 0 s.filter)

abbrev pub delete : Delete → List Tok
delete s = key (codes "DELETE") ∷ key (codes "FROM") ∷ name s.table s.place ∷ where_tokens 0 s.filter

abbrev pub printed_tokens : Statement → List Tok
printed_tokens (Create t) = create t
printed_tokens (Selects s) = select s
printed_tokens (Inserts s) = insert s
printed_tokens (Updates s) = update s
printed_tokens (Deletes s) = delete s
