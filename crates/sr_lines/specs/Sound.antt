-- What a bound query needs: of each table the key and the columns that it tests, and each output of its part.
use Rattle.std.specs.Prelude.{◌≡◌, ℕ, ◌&&◌, Bool, true, nat_le, nat_lt, List, length, Ok, IsTrue}
use Rattle.std.specs.List.{list_all}
use Rattle.sr_cell.specs.declared.table.Table.{Table}
use Rattle.sr_cell.specs.Columns.{table_at}
use Rattle.sr_cell.specs.Attrs.{has_column}
use Rattle.sr_grammar.specs.Trees as tree
use Rattle.sr_box.specs.Points.{constrains_only}
use Rattle.sr_model.specs.Conditions.{Cond, Conds, Tests, And, Or, Not, none, more}
use Rattle.sr_model.specs.Queries.{Part, Query}
use Rattle.sr_model.specs.Width.{width}
use Rattle.sr_query.specs.Binding.{bound_query}
use Rattle.sr_query.specs.Bound.{IsPart}
pub use Rattle.sr_query.specs.Joined.{needs_column, is_needed}
use Rattle.sr_query.specs.declared.query.Part as code
use Rattle.sr_lines.specs.Short.{has_short_texts}

-- each test is of one of these columns
abbrev mutual
  pub columns_in : ℕ → Cond → Bool
  columns_in attrs (Tests c t) = has_column attrs c
  columns_in attrs (And cs) = all_columns_in attrs cs
  columns_in attrs (Or cs) = all_columns_in attrs cs
  columns_in attrs (Not c) = columns_in attrs c

  pub all_columns_in : ℕ → Conds → Bool
  all_columns_in attrs none = true
  all_columns_in attrs (more c cs) = columns_in attrs c && all_columns_in attrs cs

-- a part of one of the tables, no wider than 64, which needs its key and all columns that it tests, and compares short texts alone
abbrev pub is_sound_part : List Table → Part → Bool
is_sound_part schema part =
    nat_lt part.table (length schema) && has_column part.need (table_at schema part.table).key && columns_in part.need part.condition
    && (nat_le (width true part.condition) 64 && has_short_texts part.condition)

abbrev pub is_sound : List Table → Query → Bool
is_sound schema q = list_all (is_sound_part schema) q.parts && list_all (is_needed q.parts) q.outputs

-- each query that a statement asks is sound
abbrev pub BoundAreSound : Type 0
BoundAreSound = (schema : List Table) (s : tree.Statement) (q : Query) → bound_query schema s ≡ Ok q → is_sound schema q ≡ true

-- the rects of a sound part constrain no columns but those that it needs
abbrev pub RectsConstrainNeeded : Type 0
RectsConstrainNeeded =
    (schema : List Table) (p : code.Part) (meaning : Part) → IsPart schema p meaning → IsTrue (is_sound_part schema meaning)
    → IsTrue (list_all (constrains_only p.need 0) p.rects)
