-- What changes do to the rows of a region.
use Rattle.std.specs.Prelude.{ℕ, ◌<◌, Bool, true, ◌||◌, ◌==◌, List, [], ◌∷◌, ◌≡◌, Option, Some, None, map, filter, length, IsTrue, ◌&&◌, not, if◌then◌else◌}
use Rattle.std.specs.List.{list_all}
use Rattle.sr_cell.specs.declared.cell.Cell.{Cell}
use Rattle.sr_cell.specs.declared.change.Change.{Change}
use Rattle.sr_cell.specs.declared.table.Column.{Column}
use Rattle.sr_cell.specs.declared.table.Table.{Table}
use Rattle.sr_cell.specs.Attrs.{project}
use Rattle.sr_cell.specs.Cells.{Row, cell_at}
use Rattle.sr_cell.specs.Columns.{is_point, table_at}
use Rattle.sr_model.specs.Changes.{changes}
use Rattle.sr_model.specs.Queries.{rows_at}
use Rattle.sr_model.specs.SortedRows.{ascend, with_row}
use Rattle.sr_model.specs.Statements.{Tables}
use Rattle.sr_box.specs.Points.{Rect, in_any}
use Rattle.sr_box.specs.Rows.{has_row}
use Rattle.sr_message.specs.Agree.{agree}
use Rattle.sr_rows.specs.Keys.{without_key}
use Rattle.sr_region.specs.declared.region.Region.{Region}
use Rattle.sr_region.specs.Regions.{rank, IsRegion}

-- the row, with the cells of these columns, among the others, if it lies in the rects
abbrev pub with_new : ℕ → ℕ → List Rect → Option Row → List Row → List Row
with_new key attrs rects None rows = rows
with_new key attrs rects (Some row) rows = if in_any rects row then with_row key rows (project attrs row) else rows

-- the region once the key has this row, or none
abbrev pub applied : Cell → Option Row → Region → Region
applied v after g =
    record g { rows = with_new (rank g.attrs g.key) g.attrs g.rects after (without_key (rank g.attrs g.key) v g.rows) }

-- a new row of the table, with that key
abbrev pub IsNew : Table → Cell → Option Row → Type 0
IsNew t v None = Unit {0}
IsNew t v (Some row) = IsTrue (is_point t.columns row) × (cell_at row t.key ≡ v)

-- the region once those of the changes are applied that are of its table
abbrev pub applied_all : List Change → Region → Region
applied_all [] g = g
applied_all (c ∷ changes) g = applied_all changes (if c.table == g.table then applied c.key c.after g else g)

-- the old or the new row of the change lies in the region, and the two differ in its columns or one is absent
abbrev pub concerns : Region → Change → Bool
concerns g c = c.table == g.table && ((has_row g.rects c.before || has_row g.rects c.after) && not (agree g.attrs c.before c.after))

abbrev pub is_point_if_there : List Column → Option Row → Bool
is_point_if_there columns None = true
is_point_if_there columns (Some row) = is_point columns row

-- the old and the new row of the change are points
abbrev pub has_points : List Column → Change → Bool
has_points columns c = is_point_if_there columns c.before && is_point_if_there columns c.after

-- its rows are just those of its table that lie in its rects, with the cells of its columns
abbrev pub HasItsRows : Tables → Region → Type 0
HasItsRows tables g = g.rows ≡ map (project g.attrs) (filter (in_any g.rects) (rows_at tables g.table))

-- the tables' rows are points, by key ascending
pub record AreTables (schema : List Table) (tables : Tables) : Type 0 where
  pub few : length tables ≡ length schema
  pub points : (t : ℕ) → list_all (is_point (table_at schema t).columns) (rows_at tables t) ≡ true
  pub ascending : (t : ℕ) → ascend (table_at schema t).key (rows_at tables t) ≡ true

-- A region with its rows in the old tables has its rows in the new ones, once all changes of points are applied that concern it.
abbrev pub ApplyKeepsRows : Type 0
ApplyKeepsRows =
    (schema : List Table) (old new : Tables) (test : Change → Bool) (g : Region)
    → AreTables schema old → AreTables schema new → g.table < length schema → IsRegion (table_at schema g.table) g
    → ((c : Change) → has_points (table_at schema g.table).columns c ≡ true → concerns g c ≡ true → test c ≡ true)
    → HasItsRows old g → HasItsRows new (applied_all (filter test (changes schema old new)) g)
