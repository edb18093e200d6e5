-- The answer of a query, from regions and from what arrives.
use Rattle.std.specs.Prelude.{◌≡◌, ℕ, Bool, true, ◌==◌, ◌&&◌, ◌||◌, List, map}
use Rattle.std.specs.List.{list_any, list_all, All}
use Rattle.sr_cell.specs.declared.table.Table.{Table}
use Rattle.sr_cell.specs.Attrs.{includes}
use Rattle.sr_cell.specs.Cells.{Row}
use Rattle.sr_cell.specs.Columns.{table_at, is_point}
use Rattle.sr_model.specs.Statements.{Tables}
use Rattle.sr_model.specs.Queries as model
use Rattle.sr_model.specs.Queries.{rows_at, points_of}
use Rattle.sr_box.specs.Points.{in_any, rect_fits, constrains_only}
use Rattle.sr_query.specs.declared.query.Part.{Part}
use Rattle.sr_region.specs.declared.region.Region.{Region}
use Rattle.sr_store.specs.declared.store.Arrival.{Arrival}
use Rattle.sr_store.specs.Told.{told_of, AreTrueOf}
use Rattle.sr_store.specs.Stores.{IsOfSchema, cover_of}
use Rattle.sr_store.specs.Answered.{HaveArrived}
use Rattle.sr_join.specs.declared.runs.Run.{Run}
use Rattle.sr_join.specs.Lent.{rows_for, AreLent}

-- a point of the part that a region which serves it has
abbrev pub is_kept : Part → List Region → Row → Bool
is_kept part regions p = in_any part.rects p && in_any (cover_of part regions) p

-- a point of the part that arrives
abbrev pub is_new : Part → List Arrival → Row → Bool
is_new part arrivals p = in_any part.rects p && list_any (λ r. r.table == part.table && in_any r.rects p) arrivals

-- a part over tables of points: its rects are of its table, and constrain only columns that it needs
pub record IsPartOver (schema : List Table) (tables : Tables) (part : Part) : Type 0 where
  pub fit : list_all (rect_fits (table_at schema part.table).columns) part.rects ≡ true
  pub only : list_all (constrains_only part.need 0) part.rects ≡ true
  pub points : list_all (is_point (table_at schema part.table).columns) (rows_at tables part.table) ≡ true

-- regions with the rows of these tables
pub record HaveRows (schema : List Table) (tables : Tables) (regions : List Region) : Type 0 where
  pub each : All (IsOfSchema schema) regions
  pub are_true : AreTrueOf (told_of tables) regions

-- rects of the arrival's table that constrain only columns which arrive; if that is the part's table, the part needs no others
pub record Suits (schema : List Table) (part : Part) (r : Arrival) : Type 0 where
  pub fit : list_all (rect_fits (table_at schema r.table).columns) r.rects ≡ true
  pub only : list_all (constrains_only r.attrs 0) r.rects ≡ true
  pub need : r.table ≡ part.table → includes r.attrs part.need ≡ true

-- arrivals that suit the part, with the rows of these tables
pub record BringRows (schema : List Table) (tables : Tables) (part : Part) (arrivals : List Arrival) : Type 0 where
  pub suit : All (Suits schema part) arrivals
  pub arrived : HaveArrived (told_of tables) arrivals

-- From the old runs to the new ones, more rows are lent of that part, of all these just those that pass the test, and none of other parts.
pub record LendsMore (number need : ℕ) (all : List Row) (more : Row → Bool) (old new : List Run) : Type 0 where
  pub own : (test : Row → Bool) → AreLent need all test (map (rows_for number) old) → AreLent need all (λ p. test p || more p) (map (rows_for number) new)
  pub others : (i also : ℕ) (rows : List Row) (test : Row → Bool) → (i ≡ number → ⊥) → AreLent also rows test (map (rows_for i) old) → AreLent also rows test (map (rows_for i) new)

-- of a part that means this, just the points are held or arrive that it asks
pub record IsThere (schema : List Table) (tables : Tables) (regions : List Region) (arrivals : List Arrival) (part : Part) (meant : model.Part) : Type 0 where
  pub over : IsPartOver schema tables part
  pub brings : BringRows schema tables part arrivals
  pub points : (p : Row) → is_point (table_at schema part.table).columns p ≡ true → (is_kept part regions p || is_new part arrivals p) ≡ points_of meant p
