-- An index that names, for keys, the regions that may have a row of them.
use Rattle.std.specs.Prelude.{ℕ, true, false, Bool, ◌==◌, List, Option, Some, None, slice_get, ◌≡◌}
use Rattle.std.specs.declared.cmp.Ordering.{Ordering}
use Rattle.std.specs.List.{list_all, list_any}
use Rattle.std.specs.BTreeMap.{get}
use Rattle.sr_cell.specs.declared.cell.Cell.{Cell}
use Rattle.sr_cell.specs.Cells.{cell_at}
use Rattle.sr_model.specs.SortedRows.{has_key}
use Rattle.sr_region.specs.declared.region.Region.{Region}
use Rattle.sr_cell.specs.declared.table.Table.{Table}
use Rattle.sr_message.specs.declared.message.Tell.{Tell}
use Rattle.sr_region.specs.Regions.{rank}
use Rattle.sr_regions.specs.Touched.{holds_key, IsOfSchema, IsTellOf}
use Rattle.sr_regions.specs.declared.index.Index.{Index}
use Rattle.sr_regions.specs.declared.regions.Candidates.{Candidates}
use Rattle.sr_regions.specs.declared.regions.Candidates.TheVariants.{All as AllOfThem, These}

abbrev pub has_number : Option (List ℕ) → ℕ → Bool
has_number None n = false
has_number (Some numbers) n = list_any (λ m. m == n) numbers

-- the index names the region of that number under the key; without an index each is named under each
abbrev pub is_named : (Cell → Cell → Ordering) → Option Index → Cell → ℕ → Bool
is_named cmp None k n = true
is_named cmp (Some index) k n = has_number (get cmp index.numbers k) n

-- the region of that number is named under the key of each of its rows
abbrev pub has_names : (Cell → Cell → Ordering) → Option Index → ℕ → Region → Bool
has_names cmp index n g = list_all (λ row. is_named cmp index (cell_at row (rank g.attrs g.key)) n) g.rows

abbrev pub AgreesWith : (Cell → Cell → Ordering) → Option Index → List Region → Type 0
AgreesWith cmp index regions = (n : ℕ) (g : Region) → slice_get regions n ≡ Some g → has_names cmp index n g ≡ true

-- what one index names, another does
abbrev pub NamesMore : (Cell → Cell → Ordering) → Option Index → Option Index → Type 0
NamesMore cmp less more = (k : Cell) (n : ℕ) → is_named cmp less k n ≡ true → is_named cmp more k n ≡ true

-- the region of that number is a candidate
abbrev pub may_have : Candidates → ℕ → Bool
may_have AllOfThem n = true
may_have (These numbers) n = list_any (λ m. m == n) numbers

-- each region that has a row of the key is a candidate
abbrev pub AreCandidates : Cell → List Region → Candidates → Type 0
AreCandidates k regions found = (n : ℕ) (g : Region) → slice_get regions n ≡ Some g → has_key (rank g.attrs g.key) k g.rows ≡ true → may_have found n ≡ true

-- A region that may be told: it is of the schema, as the tell is, and a candidate if it has a row of the key.
pub record IsReady (schema : List Table) (tell : Tell) (candidate : Bool) (g : Region) : Type 0 where
  pub region : IsOfSchema schema g
  pub tell_is : IsTellOf schema tell
  pub candidate_is : holds_key tell.table tell.key g ≡ true → candidate ≡ true
