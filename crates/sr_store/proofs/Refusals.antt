-- Why an answer is refused.
use Rattle.std.proofs.Common.{◌≡◌, ℕ, ◌<◌, true, false, Bool, List, ◌∷◌, ◌++◌, length, sym, subst}
use Rattle.std.specs.List.{list_all, All}
use Rattle.std.proofs.lemmas.List.Elements.{All-head, All-weaker}
use Rattle.std.proofs.lemmas.List.Sums.{AllPass-from_list_all}
use Rattle.sr_cell.specs.declared.table.Table.{Table}
use Rattle.sr_cell.specs.Columns.{table_at}
use Rattle.sr_box.specs.Points.{rect_fits}
use Rattle.sr_union.specs.Grid.{grid}
use Rattle.sr_query.specs.declared.query.Part.{Part}
use Rattle.sr_region.specs.declared.region.Region.{Region}
use Rattle.sr_store.specs.declared.store.Arrival.{Arrival}
use Rattle.sr_store.specs.Stores.{IsOfSchema}
use Rattle.sr_store.specs.Answered.{IsArrival, is_used, rects_on, IsHeavy, flagged}
use Rattle.sr_store.specs.Renewing.{touching, IsCutFrom, IsArrivalCutFrom, IsRenewal}
use Rattle.sr_store.specs.Making.{FitsSchema, ComesFrom}
use Rattle.sr_store.proofs.Keeping.{old_used, arrivals_used}
use Rattle.sr_store.proofs.Dropping.{flagged_all}
use Rattle.sr_store.proofs.Given.{FitsPart, regions_cut, parts_cut, arrivals_cut, fits_cut}
use Rattle.sr_store.proofs.Heavy.{heavy_one, heavy_touched}

-- an arrival of a table of the schema, of which the columns are used and the rects are among those of the table
abbrev pub IsCome : List Table → List Region → List Part → List Arrival → Arrival → Type 0
IsCome schema old parts arrivals r = (r.table < length schema) × (is_used old arrivals r.table r.attrs ≡ true) × IsArrivalCutFrom schema (rects_on old parts arrivals) r

pub all_come : (schema : List Table) (old : List Region) (parts : List Part) (arrivals : List Arrival) → All (FitsSchema schema) arrivals → All (IsCome schema old parts arrivals) arrivals
all_come schema old parts arrivals fit =
    let used = AllPass-from_list_all (λ (r : Arrival). is_used old arrivals r.table r.attrs) arrivals (arrivals_used old arrivals) in
    let cut = fits_cut schema old parts arrivals (All-weaker (FitsSchema schema) (λ r. list_all (rect_fits (table_at schema r.table).columns) r.rects ≡ true) (λ r h. h.1) arrivals fit) in
    λ k d l. ((fit k d l).0, used k d l, cut k d l)

-- the first of the arrivals that are left
pub heavy_come : (schema : List Table) (old : List Region) (parts : List Part) (arrivals : List Arrival) (r : Arrival) (left rest : List Arrival) → rest ≡ r ∷ left
    → All (IsCome schema old parts arrivals) rest → 16384 < grid (table_at schema r.table).columns r.rects → IsHeavy schema old parts arrivals
heavy_come schema old parts arrivals r left rest first all large =
    let come = All-head (IsCome schema old parts arrivals) r left (subst (All (IsCome schema old parts arrivals)) first all) in
    heavy_one schema old parts arrivals r.table r.attrs r.rects come.0 come.1 come.2 large

-- the old regions
pub old_come : (schema : List Table) (old : List Region) (parts : List Part) (arrivals : List Arrival) → All (IsOfSchema schema) old → All (ComesFrom schema old parts arrivals) old
old_come schema old parts arrivals each =
    let used = AllPass-from_list_all (λ (g : Region). is_used old arrivals g.table g.attrs) old (old_used old arrivals) in
    let cut = regions_cut schema old parts arrivals each in
    λ k d l. (used k d l, cut k d l)

-- the first of the old regions that are left
pub heavy_first : (schema : List Table) (old : List Region) (parts : List Part) (arrivals : List Arrival) (g : Region) (left rest : List Region) → rest ≡ g ∷ left
    → All (IsOfSchema schema) rest → All (ComesFrom schema old parts arrivals) rest → All (FitsPart schema) parts
    → 16384 < grid (table_at schema g.table).columns (g.rects ++ touching parts g.table g.attrs) → IsHeavy schema old parts arrivals
heavy_first schema old parts arrivals g left rest first each all fit large =
    let one = All-head (IsOfSchema schema) g left (subst (All (IsOfSchema schema)) first each) in
    let come = All-head (ComesFrom schema old parts arrivals) g left (subst (All (ComesFrom schema old parts arrivals)) first all) in
    heavy_touched schema old parts arrivals g one come.0 come.1 fit large

-- the regions of an answer
module _ (schema : List Table) (number : ℕ) (parts : List Part) (arrivals : List Arrival) (old all : List Region) (each : All (IsOfSchema schema) old) (fit : All (FitsPart schema) parts)
    (are : All (IsArrival schema parts) arrivals) (renewal : IsRenewal schema number parts arrivals old all) where
  all_cut : All (IsCutFrom schema (rects_on old parts arrivals)) all
  all_cut = renewal.cuts (rects_on old parts arrivals) (regions_cut schema old parts arrivals each) (parts_cut schema old parts arrivals fit) (arrivals_cut schema old parts arrivals are)

  pub left_cut : (left : List Region) (fs : List Bool) → left ≡ flagged false fs all → All (IsCutFrom schema (rects_on old parts arrivals)) left
  left_cut left fs is = subst (All (IsCutFrom schema (rects_on old parts arrivals))) (sym is) (flagged_all (IsCutFrom schema (rects_on old parts arrivals)) false fs all all_cut)
