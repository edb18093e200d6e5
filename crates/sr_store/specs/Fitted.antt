-- How a store meets its limits.
use Rattle.std.specs.Prelude.{ℕ, ℤ, ◌+◌, ◌<◌, ◌≤◌, List, [], ◌∷◌, ◌++◌, length, take, drop, slice_get, flat_map, sum_by, Option, Some, None, ◌≡◌}
use Rattle.std.specs.List.{AllZip}
use Rattle.sr_cell.specs.declared.cause.Cause.{Cause}
use Rattle.sr_cell.specs.declared.cause.Cause.TheVariants.{Rows, Regions}
use Rattle.sr_cell.specs.declared.table.Table.{Table}
use Rattle.sr_cell.specs.Columns.{table_at}
use Rattle.sr_union.specs.Centre.{centre_of}
use Rattle.sr_query.specs.declared.query.Part.{Part}
use Rattle.sr_policy.specs.declared.policy.Policy.{Policy}
use Rattle.sr_policy.specs.declared.policy.Limits.{Limits}
use Rattle.sr_policy.specs.declared.policy.ClassView.{ClassView}
use Rattle.sr_policy.specs.declared.policy.Last.{Last}
use Rattle.sr_policy.specs.Order.{IsVictim}
use Rattle.sr_history.specs.declared.mark.Mark.{Mark}
use Rattle.sr_region.specs.declared.region.Region.{Region}
use Rattle.sr_store.specs.declared.store.Arrival.{Arrival}
use Rattle.sr_store.specs.Told.{Told, IsTold, AreTrueOf}
use Rattle.sr_store.specs.Stores.{IsStore, IsSettled, drop_of}
use Rattle.sr_store.specs.Answered.{giving_way, HaveArrived, IsRenewed}

-- the rows of all regions
abbrev pub count_rows : List Region → ℕ
count_rows regions = sum_by (λ g. length g.rows) regions

-- the region as a policy sees it
pub record IsViewOf (schema : List Table) (g : Region) (view : ClassView) : Type 0 where
  pub table : view.table ≡ g.table
  pub attrs : view.attrs ≡ g.attrs
  pub stamp : view.stamp ≡ g.stamp
  pub centre : centre_of (table_at schema g.table).columns g.rects ≡ Some view.centre

-- the region of that number is there, and the policy drops it first
pub record IsFirstOut (schema : List Table) (policy : Policy) (last : List Last) (regions : List Region) (number : ℕ) (g : Region) : Type 0 where
  pub there : slice_get regions number ≡ Some g
  pub views : List ClassView
  pub seen : AllZip (IsViewOf schema) regions views
  pub victim : IsVictim policy last views number

abbrev pub without : ℕ → List Region → List Region
without number regions = take number regions ++ drop (number + 1) regions

-- One after another the first region is dropped, with that cause, while the size of those left is above the limit.
abbrev pub DropsWhile : List Table → Policy → List Last → Cause → (List Region → ℕ) → ℕ → List Region → List Region → List Mark → Type 0
DropsWhile schema policy last cause size limit old new [] = (size old ≤ limit) × (new ≡ old)
DropsWhile schema policy last cause size limit old new (d ∷ drops) =
    (limit < size old)
    × (number : ℕ) × (g : Region) × IsFirstOut schema policy last old number g × (d ≡ drop_of cause g)
    × DropsWhile schema policy last cause size limit (without number old) new drops

-- first the budget of rows is met, and then the limit of regions
pub record IsFitted (schema : List Table) (limits : Limits) (last : List Last) (old new : List Region) (marks : List Mark) : Type 0 where
  pub mid : List Region
  pub rows : List Mark
  pub regions : List Mark
  pub for_rows : DropsWhile schema limits.policy last Rows count_rows limits.rows old mid rows
  pub for_regions : DropsWhile schema limits.policy last Regions length limits.regions mid new regions
  pub all : marks ≡ rows ++ regions

-- ---- what the last answered query asked

abbrev pub last_of : ℕ → Option (List ℤ) → List Last
last_of table None = []
last_of table (Some centre) = record { table = table; centre = centre } ∷ []

-- an entry for each part that has rects
abbrev pub lasts_of : List Table → List Part → List Last
lasts_of schema parts = flat_map (λ part. last_of part.table (centre_of (table_at schema part.table).columns part.rects)) parts

-- ---- an answer

-- the regions of an answer, then within the limits
pub record IsAnswered (schema : List Table) (limits : Limits) (number : ℕ) (parts : List Part) (arrivals : List Arrival) (old new : List Region) (marks : List Mark) : Type 0 where
  pub mid : List Region
  pub front : List Mark
  pub drops : List Mark
  pub renewed : IsRenewed schema number parts arrivals old mid front
  pub store : IsStore schema mid
  pub settled : IsSettled schema mid
  pub true_still : (told : Told) → IsTold schema told → AreTrueOf told (giving_way arrivals old) → HaveArrived told arrivals → AreTrueOf told mid
  pub fitted : IsFitted schema limits (lasts_of schema parts) mid new drops
  pub all : marks ≡ front ++ drops
