-- How an answer makes the new regions: the old ones are cut along the query's parts, and put together again by class.
use Rattle.std.specs.Prelude.{ℕ, Bool, true, ◌&&◌, ◌||◌, ◌==◌, ◌+◌, ◌≤◌, List, [], ◌∷◌, ◌++◌, map, filter, flat_map, Option, option_to_list, ◌≡◌, IsTrue, if◌then◌else◌}
use Rattle.std.specs.List.{list_all, All, AllZip}
use Rattle.sr_cell.specs.declared.table.Table.{Table}
use Rattle.sr_cell.specs.Columns.{table_at, is_point}
use Rattle.sr_cell.specs.Attrs.{includes}
use Rattle.sr_cell.specs.Cells.{Row}
use Rattle.sr_box.specs.Points.{Rect}
use Rattle.sr_union.specs.Pieces.{IsOnce}
use Rattle.sr_union.specs.Grid.{AreCutFrom}
use Rattle.sr_query.specs.declared.query.Part.{Part}
use Rattle.sr_query.specs.Bound.{is_table}
use Rattle.sr_region.specs.declared.region.Region.{Region}
use Rattle.sr_region.specs.Regions.{joined}
use Rattle.sr_store.specs.declared.store.Arrival.{Arrival}
use Rattle.sr_store.specs.Classes.{Held, Stamps, occurs, IsStamped, is_before, is_same, ascends, Keeps, restamped}
use Rattle.sr_store.specs.Told.{Told, IsTold, AreTrueOf}
use Rattle.sr_store.specs.Stores.{IsOfSchema}
use Rattle.sr_store.specs.Answered.{arrives, arrivals_at, IsArrival, AreApart, HaveArrived}

-- the rects of the parts that touch a region of this table with these columns
abbrev pub touching : List Part → ℕ → ℕ → List Rect
touching parts t a = flat_map (λ part. part.rects) (filter (λ part. part.table == t && includes a part.need) parts)

-- the cuts of the region's rects are among those of the rects given for its table
abbrev pub IsCutFrom : List Table → (ℕ → List Rect) → Region → Type 0
IsCutFrom schema given g = AreCutFrom (table_at schema g.table).columns (given g.table) g.rects

abbrev pub IsPartCutFrom : List Table → (ℕ → List Rect) → Part → Type 0
IsPartCutFrom schema given part = AreCutFrom (table_at schema part.table).columns (given part.table) part.rects

abbrev pub with_stamp : ℕ → Region → Region
with_stamp number g = record g { stamp = number }

-- the halves of a region, the inner one with a new stamp
abbrev pub pieces_of : ℕ → Option Region → Option Region → List Region
pieces_of number outside inside = option_to_list outside ++ map (with_stamp number) (option_to_list inside)

-- what cutting and stamping anew makes of some regions: the same points and rows, under the new stamps
pub record IsRestamped (schema : List Table) (number : ℕ) (parts : List Part) (old pieces : List Region) : Type 0 where
  pub each : All (IsOfSchema schema) pieces
  pub points : (t a : ℕ) (p : Row) → IsTrue (is_point (table_at schema t).columns p) → occurs pieces t a p ≡ occurs old t a p
  pub stamped : (stamps : Stamps) → All (IsStamped schema stamps) old → All (IsStamped schema (restamped number parts stamps)) pieces
  pub are_true : (told : Told) → IsTold schema told → AreTrueOf told old → AreTrueOf told pieces
  pub cuts : (given : ℕ → List Rect) → All (IsCutFrom schema given) old → All (IsPartCutFrom schema given) parts → All (IsCutFrom schema given) pieces
  pub used : (used : ℕ → ℕ → Bool) → list_all (λ g. used g.table g.attrs) old ≡ true → list_all (λ g. used g.table g.attrs) pieces ≡ true
  pub classes : (is : ℕ → ℕ → ℕ → Bool) → ((t a : ℕ) → is t a number ≡ true) → list_all (λ g. is g.table g.attrs g.stamp) old ≡ true
      → list_all (λ g. is g.table g.attrs g.stamp) pieces ≡ true

-- one region more, joined with the one of its class
abbrev pub with_region : List Region → Region → List Region
with_region [] g = g ∷ []
with_region (h ∷ hs) g = if is_before g h then g ∷ h ∷ hs else (if is_same h g then joined h g ∷ hs else h ∷ with_region hs g)

abbrev pub with_regions : List Region → List Region → List Region
with_regions hs [] = hs
with_regions hs (g ∷ gs) = with_regions (with_region hs g) gs

-- the region of what arrived, in rects of which each point lies in one
pub record IsArrived (schema : List Table) (number : ℕ) (r : Arrival) (g : Region) : Type 0 where
  pub table : g.table ≡ r.table
  pub key : g.key ≡ r.key
  pub attrs : g.attrs ≡ r.attrs
  pub stamp : g.stamp ≡ number
  pub rows : g.rows ≡ r.rows
  pub once : IsOnce (table_at schema r.table).columns r.rects g.rects
  pub cuts : AreCutFrom (table_at schema r.table).columns r.rects g.rects

-- the regions of an answer, before any is dropped
abbrev pub renewed : List Region → List Region → List Region
renewed pieces arrived = with_regions (with_regions [] pieces) arrived

-- what there is before the pieces and the regions of what arrived are put together
pub record AreReady (schema : List Table) (number : ℕ) (parts : List Part) (arrivals : List Arrival) (old pieces arrived : List Region) : Type 0 where
  pub tables : list_all is_table schema ≡ true
  pub restamped : IsRestamped schema number parts old pieces
  pub are_arrivals : All (IsArrival schema parts) arrivals
  pub apart : AreApart schema old arrivals
  pub are_arrived : AllZip (IsArrived schema number) arrivals arrived
  pub told : Told
  pub is_told : IsTold schema told
  pub old_true : AreTrueOf told old
  pub rows : HaveArrived told arrivals

abbrev pub IsArrivalCutFrom : List Table → (ℕ → List Rect) → Arrival → Type 0
IsArrivalCutFrom schema given r = AreCutFrom (table_at schema r.table).columns (given r.table) r.rects

-- the regions of an answer: what arrived is held, and the touched points have the new stamp
pub record IsRenewal (schema : List Table) (number : ℕ) (parts : List Part) (arrivals : List Arrival) (old all : List Region) : Type 0 where
  pub each : All (IsOfSchema schema) all
  pub order : ascends all ≡ true
  pub points : (t a : ℕ) (p : Row) → IsTrue (is_point (table_at schema t).columns p) → occurs all t a p ≡ occurs old t a p + arrivals_at arrivals t a p
  pub once : (t a : ℕ) (p : Row) → IsTrue (is_point (table_at schema t).columns p) → occurs all t a p ≤ 1
  pub keeps : (held : Held) (stamps : Stamps) → Keeps schema held stamps old
      → Keeps schema (λ t a p. held t a p || arrives arrivals t a p) (restamped number parts stamps) all
  pub are_true : (told : Told) → IsTold schema told → AreTrueOf told old → HaveArrived told arrivals → AreTrueOf told all
  pub cuts : (given : ℕ → List Rect) → All (IsCutFrom schema given) old → All (IsPartCutFrom schema given) parts → All (IsArrivalCutFrom schema given) arrivals
      → All (IsCutFrom schema given) all
  pub used : (used : ℕ → ℕ → Bool) → list_all (λ g. used g.table g.attrs) old ≡ true → list_all (λ r. used r.table r.attrs) arrivals ≡ true
      → list_all (λ g. used g.table g.attrs) all ≡ true
  pub classes : (is : ℕ → ℕ → ℕ → Bool) → ((t a : ℕ) → is t a number ≡ true) → list_all (λ g. is g.table g.attrs g.stamp) old ≡ true
      → list_all (λ g. is g.table g.attrs g.stamp) all ≡ true
