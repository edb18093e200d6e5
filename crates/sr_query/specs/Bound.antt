-- When a bound query stands for its meaning.
use Rattle.std.specs.Prelude.{◌≡◌, ℕ, ◌+◌, ◌≤◌, ◌&&◌, not, nat_le, nat_lt, Bool, true, List, [], ◌∷◌, map, length, slice_get, IsTrue}
use Rattle.std.specs.List.{list_all, AllZip, AllByRecursion}
use Rattle.sr_cell.specs.declared.cell.Cell.{Cell}
use Rattle.sr_cell.specs.declared.table.Column.{Column}
use Rattle.sr_cell.specs.declared.table.Table.{Table}
use Rattle.sr_cell.specs.Columns.{table_at}
use Rattle.sr_cell.specs.Names.{is_bad_domain}
use Rattle.sr_box.specs.Points.{Rect, in_any, rect_fits, AreSame}
use Rattle.sr_union.specs.Grid.{has_cut, is_among}
use Rattle.sr_model.specs.Conditions.{Cond, is_true}
use Rattle.sr_cell.specs.Cells.{cell_at}
use Rattle.sr_cell.specs.Faults.{may_be_null}
use Rattle.sr_model.specs.Width.{width}
use Rattle.sr_model.specs.Ends.{ends}
use Rattle.sr_model.specs.Queries as model
use Rattle.sr_query.specs.declared.query.Part.{Part}
use Rattle.sr_query.specs.declared.query.KeyJoin.{KeyJoin}
use Rattle.sr_query.specs.declared.condition.Output.{Output}
use Rattle.sr_query.specs.declared.query.Query.{Query}

-- a table that a schema takes: at most twelve columns, the key among them, whose domains are not empty and lie in the default; the key is
-- never Null
abbrev pub is_table : Table → Bool
is_table t =
    nat_le (length t.columns) 12 && nat_lt t.key (length t.columns) && list_all (λ c. not (is_bad_domain c)) t.columns
    && not (may_be_null (slice_get t.columns t.key))

-- the rect begins and ends only where a test of the condition does; c is the number of its first column
abbrev pub EndsWithTests : ℕ → List Column → Cond → Rect → Type 0
EndsWithTests c [] condition r = Unit {0}
EndsWithTests c (column ∷ columns) condition [] = Unit {0}
EndsWithTests c (column ∷ columns) condition (s ∷ r) =
    ((v : Cell) → has_cut column.kind column.lo column.hi column.nullable s v ≡ true → is_among (ends c condition) v ≡ true)
    × EndsWithTests (c + 1) columns condition r

-- Rects of a table with just the points for which the condition is true, no more of them than the condition is wide.
pub record AreRectsOf (columns : List Column) (condition : Cond) (rects : List Rect) : Type 0 where
  pub fits : IsTrue (list_all (rect_fits columns) rects)
  pub points : AreSame columns (in_any rects) (λ p. is_true (cell_at p) condition)
  pub few : length rects ≤ width true condition
  pub ends : AllByRecursion (EndsWithTests 0 columns condition) rects

pub record IsPart (schema : List Table) (p : Part) (meaning : model.Part) : Type 0 where
  pub table : p.table ≡ meaning.table
  pub key : p.key ≡ (table_at schema meaning.table).key
  pub need : p.need ≡ meaning.need
  pub width : p.width ≡ width true meaning.condition
  pub rects : AreRectsOf (table_at schema meaning.table).columns meaning.condition p.rects

-- the key of the right part is its table's
pub record IsJoin (j : KeyJoin) (meaning : model.Join) : Type 0 where
  pub left : j.left ≡ meaning.left
  pub column : j.column ≡ meaning.column
  pub right : j.right ≡ meaning.right

abbrev pub output_of : Output → model.Output
output_of o = record { part = o.part; column = o.column }

pub record IsQuery (schema : List Table) (q : Query) (meaning : model.Query) : Type 0 where
  pub parts : AllZip (IsPart schema) q.parts meaning.parts
  pub joins : AllZip IsJoin q.joins meaning.joins
  pub outputs : map output_of q.output ≡ meaning.outputs
