-- The queries of one table that a join of two is cut into.
use Rattle.std.specs.Prelude.{ℕ, ◌+◌, ◌==◌, Bool, false, List, [], ◌∷◌, ◌++◌, filter, Option, Some, None, Result, Ok, Err, if◌then◌else◌}
use Rattle.sr_cell.specs.declared.fault.Fault.{Fault}
use Rattle.sr_cell.specs.declared.table.Column.{Column}
use Rattle.sr_cell.specs.declared.table.Table.{Table}
use Rattle.sr_cell.specs.Attrs.{has_column}
use Rattle.sr_grammar.specs.declared.statement.Name.{Name}
use Rattle.sr_grammar.specs.Spaced.{printed}
use Rattle.sr_grammar.specs.Trees.{Cond, Conds, Test, And, Or, Not, none, more, and_of, Select, Selects}
use Rattle.sr_model.specs.Queries.{Output}
use Rattle.sr_query.specs.Binding.{resolved}

-- a column by its name alone
abbrev pub bare_reference : List ℕ → Name
bare_reference column = record { table = None; column = column; place = 0 }

-- the names of these columns, in column order; c is the number of the first
abbrev pub names_of : ℕ → ℕ → List Column → List Name
names_of c attrs [] = []
names_of c attrs (column ∷ columns) =
    if has_column attrs c then bare_reference column.name ∷ names_of (c + 1) attrs columns else names_of (c + 1) attrs columns

-- the members of an AND, those of its members that are ANDs among them
abbrev mutual
  pub conjuncts : Cond → List Cond
  conjuncts (Test n a) = Test n a ∷ []
  conjuncts (And cs) = all_conjuncts cs
  conjuncts (Or cs) = Or cs ∷ []
  conjuncts (Not c) = Not c ∷ []

  pub all_conjuncts : Conds → List Cond
  all_conjuncts none = []
  all_conjuncts (more c cs) = conjuncts c ++ all_conjuncts cs

-- the columns that a condition names, from the left
abbrev mutual
  pub names_in : Cond → List Name
  names_in (Test n a) = n ∷ []
  names_in (And cs) = all_names cs
  names_in (Or cs) = all_names cs
  names_in (Not c) = names_in c

  pub all_names : Conds → List Name
  all_names none = []
  all_names (more c cs) = names_in c ++ all_names cs

abbrev pub is_of_part : ℕ → Result Output Fault → Bool
is_of_part part (Ok o) = o.part == part
is_of_part part (Err fault) = false

-- The first name means a column of this part. Of a query that is bound, all others of a conjunct do too.
abbrev pub names_part : List Table → List ℕ → ℕ → List Name → Bool
names_part schema tables part [] = false
names_part schema tables part (n ∷ names) = is_of_part part (resolved schema tables n)

abbrev pub is_about : List Table → List ℕ → ℕ → Cond → Bool
is_about schema tables part c = names_part schema tables part (names_in c)

-- the conjuncts of a WHERE that are about this part, as they stand there
abbrev pub conjuncts_on : List Table → List ℕ → ℕ → Option Cond → List Cond
conjuncts_on schema tables part None = []
conjuncts_on schema tables part (Some c) = filter (is_about schema tables part) (conjuncts c)

-- all of them; no condition where there is none
abbrev pub all_of : List Cond → Option Cond
all_of [] = None
all_of (c ∷ cs) = Some (and_of c cs)

-- the query of these columns of a table, for the rows of which the conjuncts hold
abbrev pub select_of : Table → ℕ → List Cond → Select
select_of t need conds =
    record { all = false; list = names_of 0 need t.columns; first = t.name; first_place = 0; joins = []; filter = all_of conds; place = 0 }

-- the text that asks it
abbrev pub text_of : Table → ℕ → List Cond → List ℕ
text_of t need conds = printed (Selects (select_of t need conds))
