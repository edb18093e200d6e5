-- Regions: what a client's cache holds of a set of points of one table.
use Rattle.std.specs.Prelude.{ℕ, zero, suc, ◌+◌, ◌≤◌, ◌<◌, Bool, true, List, [], ◌++◌, ◌≡◌, length, IsTrue, if◌then◌else◌}
use Rattle.std.specs.List.{list_all, list_any, All}
use Rattle.sr_cell.specs.declared.table.Column.{Column}
use Rattle.sr_cell.specs.declared.table.Table.{Table}
use Rattle.sr_cell.specs.Attrs.{has_column, project}
use Rattle.sr_cell.specs.Cells.{Row}
use Rattle.sr_cell.specs.Columns.{is_point}
use Rattle.sr_model.specs.SortedRows.{ascend, with_rows}
use Rattle.sr_box.specs.Points.{Rect, times, rect_fits, constrains_only}
use Rattle.sr_box.specs.Projected.{has_part}
use Rattle.sr_region.specs.declared.region.Region.{Region}

-- how many of the columns in front of that one are in attrs: the place of its cell in a row of the columns of attrs
abbrev pub rank : ℕ → ℕ → ℕ
rank attrs zero = 0
rank attrs (suc c) = (if has_column attrs c then 1 else 0) + rank attrs c

-- some rect has the rows with these cells in the columns of attrs
abbrev pub is_in : ℕ → List Rect → Row → Bool
is_in attrs rects cells = list_any (λ r. has_part attrs r cells) rects

-- some point of the table has these cells in the columns of attrs
abbrev pub IsPart : List Column → ℕ → Row → Type 0
IsPart columns attrs cells = (p : Row) × IsTrue (is_point columns p) × (project attrs p ≡ cells)

-- a row of the columns of attrs that lies in the rects
abbrev pub IsRowIn : List Column → ℕ → List Rect → Row → Type 0
IsRowIn columns attrs rects cells = IsPart columns attrs cells × IsTrue (is_in attrs rects cells)

-- each column of attrs is one of the table's
abbrev pub AreColumnsOf : Table → ℕ → Type 0
AreColumnsOf t attrs = (c : ℕ) → IsTrue (has_column attrs c) → c < length t.columns

-- Rects of a table, of which each point lies in at most one. The columns are the table's, and the key and each column that the rects
-- constrain are among them.
pub record IsArea (t : Table) (k attrs : ℕ) (rects : List Rect) : Type 0 where
  pub key : k ≡ t.key
  pub has_key : IsTrue (has_column attrs k)
  pub own : AreColumnsOf t attrs
  pub some : rects ≡ [] → ⊥
  pub fit : list_all (rect_fits t.columns) rects ≡ true
  pub only : list_all (constrains_only attrs 0) rects ≡ true
  pub once : (p : Row) → IsTrue (is_point t.columns p) → times rects p ≤ 1

-- rows of the columns of attrs in such rects, by key ascending
pub record IsRegion (t : Table) (r : Region) : Type 0 where
  pub area : IsArea t r.key r.attrs r.rects
  pub rows : All (IsRowIn t.columns r.attrs r.rects) r.rows
  pub ascending : ascend (rank r.attrs r.key) r.rows ≡ true

-- regions of one table, with the same columns and one stamp
pub record AreOfClass (r s : Region) : Type 0 where
  pub table : r.table ≡ s.table
  pub key : r.key ≡ s.key
  pub attrs : r.attrs ≡ s.attrs
  pub stamp : r.stamp ≡ s.stamp

-- the rects of both, and their rows by key
abbrev pub joined : Region → Region → Region
joined r s = record { table = r.table; key = r.key; attrs = r.attrs; stamp = r.stamp; rects = r.rects ++ s.rects; rows = with_rows (rank r.attrs r.key) r.rows s.rows }
