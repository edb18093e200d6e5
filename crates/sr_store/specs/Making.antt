-- Steps on the way to the new regions.
use Rattle.std.specs.Prelude.{ℕ, Bool, true, false, not, ◌&&◌, ◌==◌, ◌+◌, ◌≤◌, map, filter, flat_map, IsTrue, List, [], ◌∷◌, ◌++◌, ◌≡◌, Option, length, ◌<◌}
use Rattle.std.specs.List.{list_all, list_any, All, prefix_len}
use Rattle.sr_cell.specs.declared.cause.Cause.TheVariants.{Pieces}
use Rattle.sr_cell.specs.declared.table.Column.{Column}
use Rattle.sr_cell.specs.declared.table.Table.{Table}
use Rattle.sr_cell.specs.Columns.{table_at, is_point}
use Rattle.sr_cell.specs.Attrs.{includes}
use Rattle.sr_cell.specs.Cells.{Row, cell_at}
use Rattle.sr_model.specs.SortedRows.{ascend, has_key}
use Rattle.sr_box.specs.Points.{Rect, in_any, rect_fits}
use Rattle.sr_union.specs.Pieces.{IsWithin}
use Rattle.sr_query.specs.declared.query.Part.{Part}
use Rattle.sr_region.specs.declared.region.Region.{Region}
use Rattle.sr_region.specs.Regions.{rank}
use Rattle.sr_region.specs.Halves.{IsInside, IsOutside}
use Rattle.sr_store.specs.declared.answer.Answer.{Answer}
use Rattle.sr_store.specs.declared.answer.News.{News}
use Rattle.sr_store.specs.declared.answer.Outcome.{Outcome}
use Rattle.sr_store.specs.declared.answer.Outcome.TheVariants.{Answered, GivenUp}
use Rattle.sr_store.specs.declared.store.Arrival.{Arrival}
use Rattle.sr_store.specs.Classes.{is_before, is_same, ascends}
use Rattle.sr_store.specs.Told.{Told, IsTold, AreTrueOf}
use Rattle.sr_store.specs.Stores.{IsOfSchema, IsStore, IsSettled, count_rects, drop_of, IsAbsorbedIn, wider}
use Rattle.sr_store.specs.Answered.{AreApart, HaveArrived, AreFlags, flagged, is_used, rects_on, IsRenewed, IsHeavy}
use Rattle.sr_store.specs.Renewing.{touching, pieces_of, IsRestamped, IsCutFrom, IsRenewal}

-- no point lies in rects of both lists
abbrev pub HaveNoCommon : List Column → List Rect → List Rect → Type 0
HaveNoCommon columns rects others = (p : Row) → IsTrue (is_point columns p) → (in_any rects p && in_any others p) ≡ false

-- the halves of a region along the rects at the end, the inner one with a new stamp
abbrev pub AddsHalves : Table → ℕ → Region → List Rect → List Region → List Region → Type 0
AddsHalves t number g rects old new =
    (inside outside : Option Region) × IsInside t g rects inside × IsOutside t g rects outside × (new ≡ old ++ pieces_of number outside inside)

-- the region at the end, cut and stamped anew
abbrev pub AddsRestamped : List Table → ℕ → List Part → Region → List Region → List Region → Type 0
AddsRestamped schema number parts g old new = (more : List Region) × (new ≡ old ++ more) × IsRestamped schema number parts (g ∷ []) more

-- how many regions from the front on stand before that one in class order
abbrev pub place_in : List Region → Region → ℕ
place_in regions g = prefix_len (λ h. is_before h g) regions

-- the first region is of that one's class
abbrev pub is_same_first : List Region → Region → Bool
is_same_first [] g = false
is_same_first (h ∷ hs) g = is_same h g

abbrev pub HasKey : (ℕ → ℕ) → Region → Type 0
HasKey key g = g.key ≡ key g.table

-- the key is that of its table, and the rows lie by it
abbrev pub IsKeyed : (ℕ → ℕ) → Region → Type 0
IsKeyed key g = HasKey key g × (ascend (rank g.attrs g.key) g.rows ≡ true)

-- regions of one table have one key, by which the rows of the second ones lie
pub record CanJoin (regions more : List Region) : Type 0 where
  pub key : ℕ → ℕ
  pub keys : All (HasKey key) regions
  pub keyed : All (IsKeyed key) more

-- the rows lie by the key
abbrev pub IsByKey : Region → Type 0
IsByKey g = ascend (rank g.attrs g.key) g.rows ≡ true

-- the rows whose keys the others do not have
abbrev pub without_keys : ℕ → List Row → List Row → List Row
without_keys key others rows = filter (λ row. not (has_key key (cell_at row key) others)) rows

-- a row has a key of the others
abbrev pub shares_key : ℕ → List Row → List Row → Bool
shares_key key others rows = list_any (λ row. has_key key (cell_at row key) others) rows

-- where the arrival is of the region's table, with exactly its columns, its rows lie by the region's key
abbrev pub LiesBy : Region → Arrival → Type 0
LiesBy g r = (r.table == g.table && r.attrs == g.attrs) ≡ true → ascend (rank g.attrs g.key) r.rows ≡ true

-- rects of a table of the schema
abbrev pub FitsSchema : List Table → Arrival → Type 0
FitsSchema schema r = (r.table < length schema) × (list_all (rect_fits (table_at schema r.table).columns) r.rects ≡ true)

-- the region's columns are used, and its rects are cut from those of its table
abbrev pub ComesFrom : List Table → List Region → List Part → List Arrival → Region → Type 0
ComesFrom schema old parts arrivals g = (is_used old arrivals g.table g.attrs ≡ true) × IsCutFrom schema (rects_on old parts arrivals) g

-- ---- regions that an answer leaves as they are

-- the stamp is another, and no part has a point of the region
abbrev pub IsStill : ℕ → List Part → Region → Type 0
IsStill number parts g = (g.stamp ≡ number → ⊥) × ((columns : List Column) → HaveNoCommon columns g.rects (touching parts g.table g.attrs))

-- a region without flag stays as it is
abbrev pub IsStillOr : ℕ → List Part → Bool → Region → Type 0
IsStillOr number parts f g = f ≡ false → IsStill number parts g

-- Regions of a store, with the rows of some telling, in class order, parted into those that an answer leaves as they are, of which
-- none is absorbed, and those that it changes.
pub record AreParted (schema : List Table) (number : ℕ) (parts : List Part) (arrivals : List Arrival) (old still changed : List Region) : Type 0 where
  pub each : All (IsOfSchema schema) old
  pub order : ascends old ≡ true
  pub settled : All (λ g. IsAbsorbedIn schema old g → ⊥) still
  pub apart : AreApart schema old arrivals
  pub told : Told
  pub is_told : IsTold schema told
  pub old_true : AreTrueOf told old
  pub rows : HaveArrived told arrivals
  pub flags : List Bool
  pub long : length flags ≡ length old
  pub still_are : still ≡ flagged false flags old
  pub changed_are : changed ≡ flagged true flags old
  pub are_still : All (IsStill number parts) still

abbrev pub without_rows : Region → Region
without_rows g = record g { rows = [] }

-- ---- absorption

-- the rects of the table's arrivals with strictly more columns
abbrev pub wider_arriving : List Arrival → ℕ → ℕ → List Rect
wider_arriving arrivals t a = flat_map (λ r. r.rects) (filter (λ r. r.table == t && (includes r.attrs a && not (r.attrs == a))) arrivals)

-- no arrival with more columns has a point of the region
abbrev pub IsUnmet : List Arrival → Region → Type 0
IsUnmet arrivals g = (columns : List Column) → HaveNoCommon columns g.rects (wider_arriving arrivals g.table g.attrs)

-- a region without flag is not met
abbrev pub IsUnmetOr : List Arrival → Bool → Region → Type 0
IsUnmetOr arrivals f g = f ≡ false → IsUnmet arrivals g

-- the rects of the regions of two lists that have strictly more columns
abbrev pub wider_both : List Region → List Region → Region → List Rect
wider_both still news g = wider still g.table g.attrs ++ wider news g.table g.attrs

-- all points of the region are in regions of two lists that have strictly more columns
abbrev pub IsAbsorbedBy : List Table → List Region → List Region → Region → Type 0
IsAbsorbedBy schema still news g = IsWithin (table_at schema g.table).columns g.rects (wider_both still news g)

-- a region without flag is not absorbed
abbrev pub IsKeptOr : List Table → List Region → List Region → Bool → Region → Type 0
IsKeptOr schema still news f g = f ≡ false → IsAbsorbedBy schema still news g → ⊥

-- The regions that an answer makes, and which of these and of those that stay are absorbed; few are left.
pub record AreNews (schema : List Table) (number : ℕ) (parts : List Part) (arrivals : List Arrival) (still changed : List Region) (news : News) : Type 0 where
  pub renewal : IsRenewal schema number parts arrivals changed news.regions
  pub still_absorbed : AreFlags (IsAbsorbedBy schema still news.regions) news.still_absorbed still
  pub absorbed : AreFlags (IsAbsorbedBy schema still news.regions) news.absorbed news.regions
  pub few : count_rects (flagged false news.still_absorbed still) + count_rects (flagged false news.absorbed news.regions) ≤ 16384

-- ---- the end of an answer

-- the regions of an answer, and its marks
pub record IsAnswerOf (schema : List Table) (number : ℕ) (parts : List Part) (arrivals : List Arrival) (old : List Region) (answer : Answer) : Type 0 where
  pub renewed : IsRenewed schema number parts arrivals old answer.regions answer.marks
  pub store : IsStore schema answer.regions
  pub settled : IsSettled schema answer.regions
  pub true_still : (told : Told) → IsTold schema told → AreTrueOf told old → HaveArrived told arrivals → AreTrueOf told answer.regions
  pub cuts : All (IsCutFrom schema (rects_on old parts arrivals)) answer.regions

-- that, or the drops of all regions, where there would be too many pieces
abbrev pub IsOutcome : List Table → ℕ → List Part → List Arrival → List Region → Outcome → Type 0
IsOutcome schema number parts arrivals old (Answered answer) = IsAnswerOf schema number parts arrivals old answer
IsOutcome schema number parts arrivals old (GivenUp marks) = IsHeavy schema old parts arrivals × (marks ≡ map (drop_of Pieces) old)
