-- Whether regions have the right rows.
use Rattle.std.specs.Prelude.{ℕ, true, List, map, filter, ◌≡◌, IsTrue}
use Rattle.std.specs.List.{All}
use Rattle.sr_cell.specs.declared.table.Table.{Table}
use Rattle.sr_cell.specs.Columns.{table_at}
use Rattle.sr_cell.specs.Attrs.{has_column, project}
use Rattle.sr_cell.specs.Cells.{Row}
use Rattle.sr_model.specs.Queries.{rows_at}
use Rattle.sr_model.specs.SortedRows.{ascend}
use Rattle.sr_model.specs.Statements.{Tables}
use Rattle.sr_region.specs.declared.region.Region.{Region}
use Rattle.sr_region.specs.Regions.{rank, is_in, IsPart}

-- What there is to know: for each table and set of columns the rows, with the cells of these columns alone.
abbrev pub Told : Type 0
Told = ℕ → ℕ → List Row

-- the rows of the tables, with the cells of some columns alone
abbrev pub told_of : Tables → Told
told_of tables t attrs = map (project attrs) (rows_at tables t)

-- rows of such cells, by key
pub record IsTold (schema : List Table) (told : Told) : Type 0 where
  pub rows : (t a : ℕ) → All (IsPart (table_at schema t).columns a) (told t a)
  pub ascending : (t a : ℕ) → IsTrue (has_column a (table_at schema t).key) → ascend (rank a (table_at schema t).key) (told t a) ≡ true

-- the region's rows are just those in its rects
abbrev pub IsTrueOf : Told → Region → Type 0
IsTrueOf told g = g.rows ≡ filter (is_in g.attrs g.rects) (told g.table g.attrs)

abbrev pub AreTrueOf : Told → List Region → Type 0
AreTrueOf told regions = All (IsTrueOf told) regions
