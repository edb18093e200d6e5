-- What an answer makes of the regions.
use Rattle.std.specs.Prelude.{ℕ, Bool, true, false, not, ◌&&◌, ◌||◌, ◌==◌, ◌+◌, ◌*◌, ◌≤◌, ◌<◌, List, [], ◌∷◌, ◌++◌, length, map, filter, flat_map, ◌≡◌, ◌↔◌, IsTrue, if◌then◌else◌}
use Rattle.std.specs.List.{list_any, list_all, All}
use Rattle.sr_cell.specs.declared.cause.Cause.TheVariants.{Absorbed, Pieces}
use Rattle.sr_cell.specs.declared.cell.Cell.{Cell}
use Rattle.sr_cell.specs.declared.table.Table.{Table}
use Rattle.sr_cell.specs.Columns.{table_at, is_point}
use Rattle.sr_cell.specs.Attrs.{has_column}
use Rattle.sr_cell.specs.Cells.{Row, cell_at}
use Rattle.sr_model.specs.SortedRows.{ascend, has_key}
use Rattle.sr_box.specs.Points.{Rect, in_any, rect_fits, constrains_only}
use Rattle.sr_union.specs.Grid.{grid}
use Rattle.sr_query.specs.declared.query.Part.{Part}
use Rattle.sr_history.specs.declared.mark.Mark.{Mark}
use Rattle.sr_history.specs.declared.mark.Mark.TheVariants.{Held as HeldMark}
use Rattle.sr_history.specs.Load.{are_once}
use Rattle.sr_region.specs.declared.region.Region.{Region}
use Rattle.sr_region.specs.Regions.{rank, is_in, AreColumnsOf, IsRowIn}
use Rattle.sr_store.specs.declared.store.Arrival.{Arrival}
use Rattle.sr_store.specs.Classes.{Held, Stamps, occurs, ascends, Keeps, touches, restamped}
use Rattle.sr_store.specs.Told.{Told}
use Rattle.sr_store.specs.Stores.{IsOfSchema, drop_of, IsAbsorbedIn}

-- ---- what arrives

-- an arrival of that table with exactly these columns has the point
abbrev pub arrives : List Arrival → Held
arrives arrivals t a p = list_any (λ r. (r.table == t && r.attrs == a) && in_any r.rects p) arrivals

-- how many arrivals of that table with exactly these columns have the point
abbrev pub arrivals_at : List Arrival → ℕ → ℕ → Row → ℕ
arrivals_at [] t a p = 0
arrivals_at (r ∷ rs) t a p = (if (r.table == t && r.attrs == a) && in_any r.rects p then 1 else 0) + arrivals_at rs t a p

-- Rects of a table of the schema, which constrain only these columns, its own and the key among them, and rows in them. Each point is one
-- of a part that needs none but these columns.
pub record IsArrival (schema : List Table) (parts : List Part) (r : Arrival) : Type 0 where
  pub table : r.table < length schema
  pub key : r.key ≡ (table_at schema r.table).key
  pub has_key : IsTrue (has_column r.attrs r.key)
  pub own : AreColumnsOf (table_at schema r.table) r.attrs
  pub some : r.rects ≡ [] → ⊥
  pub fit : list_all (rect_fits (table_at schema r.table).columns) r.rects ≡ true
  pub only : list_all (constrains_only r.attrs 0) r.rects ≡ true
  pub touched : (p : Row) → IsTrue (is_point (table_at schema r.table).columns p) → in_any r.rects p ≡ true → touches parts r.table r.attrs p ≡ true
  pub rows : All (IsRowIn (table_at schema r.table).columns r.attrs r.rects) r.rows
  pub ascending : ascend (rank r.attrs r.key) r.rows ≡ true

-- no point arrives twice under the same columns, or is held under them already
abbrev pub AreApart : List Table → List Region → List Arrival → Type 0
AreApart schema regions arrivals =
    (t a : ℕ) (p : Row) → IsTrue (is_point (table_at schema t).columns p) → arrivals_at arrivals t a p + occurs regions t a p ≤ 1

-- how many arrivals of that table with exactly these columns have a row with the key
abbrev pub keys_at : List Arrival → ℕ → ℕ → Cell → ℕ
keys_at [] t a k = 0
keys_at (r ∷ rs) t a k = (if (r.table == t && r.attrs == a) && has_key (rank r.attrs r.key) k r.rows then 1 else 0) + keys_at rs t a k

-- no key arrives twice under the same columns
abbrev pub BringOwnKeys : List Arrival → Type 0
BringOwnKeys arrivals = (t a : ℕ) (k : Cell) → keys_at arrivals t a k ≤ 1

-- an arrival of the region's table with exactly its columns has a row with the key
abbrev pub brings : List Arrival → Region → Cell → Bool
brings arrivals g k = list_any (λ r. (r.table == g.table && r.attrs == g.attrs) && has_key (rank g.attrs g.key) k r.rows) arrivals

-- the region without the rows whose keys arrive
abbrev pub gives_way : List Arrival → Region → Region
gives_way arrivals g = record g { rows = filter (λ row. not (brings arrivals g (cell_at row (rank g.attrs g.key)))) g.rows }

abbrev pub giving_way : List Arrival → List Region → List Region
giving_way arrivals regions = map (gives_way arrivals) regions

-- the rows that arrive are just those in the rects
abbrev pub HaveArrived : Told → List Arrival → Type 0
HaveArrived told arrivals = All (λ r. r.rows ≡ filter (is_in r.attrs r.rects) (told r.table r.attrs)) arrivals

-- ---- absorption

-- each flag tells whether its region has the property
abbrev pub AreFlags : (Region → Type 0) → List Bool → List Region → Type 0
AreFlags P [] [] = Unit {0}
AreFlags P [] (g ∷ gs) = ⊥
AreFlags P (f ∷ fs) [] = ⊥
AreFlags P (f ∷ fs) (g ∷ gs) = (IsTrue f ↔ P g) × AreFlags P fs gs

abbrev pub same_flag : Bool → Bool → Bool
same_flag true b = b
same_flag false b = not b

-- the regions whose flag is this one
abbrev pub flagged : Bool → List Bool → List Region → List Region
flagged b [] gs = []
flagged b (f ∷ fs) [] = []
flagged b (f ∷ fs) (g ∷ gs) = if same_flag f b then g ∷ flagged b fs gs else flagged b fs gs

-- ---- the answer of a query of that number, of these parts

abbrev pub held_of : Arrival → Mark
held_of r = HeldMark r.table r.attrs r.rects

-- What arrived is held, the touched points have the new stamp, and then the absorbed regions are dropped.
pub record IsRenewed (schema : List Table) (number : ℕ) (parts : List Part) (arrivals : List Arrival) (old new : List Region) (marks : List Mark) : Type 0 where
  pub all : List Region
  pub each : All (IsOfSchema schema) all
  pub order : ascends all ≡ true
  pub keeps : (held : Held) (stamps : Stamps) → Keeps schema held stamps old
      → Keeps schema (λ t a p. held t a p || arrives arrivals t a p) (restamped number parts stamps) all
  pub flags : List Bool
  pub absorbed : AreFlags (IsAbsorbedIn schema all) flags all
  pub left : new ≡ flagged false flags all
  pub marks_are : marks ≡ map held_of arrivals ++ map (drop_of Absorbed) (flagged true flags all)

-- ---- too many pieces

-- a region or an arrival of the table has exactly these columns
abbrev pub is_used : List Region → List Arrival → ℕ → ℕ → Bool
is_used regions arrivals t a = list_any (λ g. g.table == t && g.attrs == a) regions || list_any (λ r. r.table == t && r.attrs == a) arrivals

-- all rects of the table: of regions, of parts, and of what arrives
abbrev pub rects_on : List Region → List Part → List Arrival → ℕ → List Rect
rects_on regions parts arrivals t =
    flat_map (λ g. g.rects) (filter (λ g. g.table == t) regions)
    ++ (flat_map (λ part. part.rects) (filter (λ part. part.table == t) parts) ++ flat_map (λ r. r.rects) (filter (λ r. r.table == t) arrivals))

-- the sum over the tables of the number of these sets of columns times the grid of the rects; t is the number of the first
abbrev pub weight_from : (ℕ → List ℕ) → (ℕ → List Rect) → ℕ → List Table → ℕ
weight_from sets rects t [] = 0
weight_from sets rects t (table ∷ schema) = length (sets t) * grid table.columns (rects t) + weight_from sets rects (t + 1) schema

-- with some different sets of columns that are used, the sum is above the limit
pub record IsHeavy (schema : List Table) (regions : List Region) (parts : List Part) (arrivals : List Arrival) : Type 0 where
  pub sets : ℕ → List ℕ
  pub once : (t : ℕ) → IsTrue (are_once (sets t))
  pub used : (t : ℕ) → IsTrue (list_all (is_used regions arrivals t) (sets t))
  pub heavy : 16384 < weight_from sets (rects_on regions parts arrivals) 0 schema

-- All is dropped, since this would be too many pieces.
pub record IsGivenUp (schema : List Table) (parts : List Part) (arrivals : List Arrival) (old new : List Region) (marks : List Mark) : Type 0 where
  pub heavy : IsHeavy schema old parts arrivals
  pub left : new ≡ []
  pub marks_are : marks ≡ map (drop_of Pieces) old
