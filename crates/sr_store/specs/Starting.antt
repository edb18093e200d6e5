-- A store that starts from kept parts.
use Rattle.std.specs.Prelude.{ℕ, Bool, true, false, ◌&&◌, ◌||◌, ◌==◌, nat_lt, ◌≤◌, List, [], ◌∷◌, ◌++◌, map, filter, ◌≡◌, IsTrue, if◌then◌else◌}
use Rattle.std.specs.List.{list_all, All}
use Rattle.sr_cell.specs.declared.table.Table.{Table}
use Rattle.sr_cell.specs.Columns.{table_at}
use Rattle.sr_query.specs.Bound.{is_table}
use Rattle.sr_policy.specs.declared.policy.Limits.{Limits}
use Rattle.sr_history.specs.declared.mark.Mark.{Mark}
use Rattle.sr_history.specs.declared.mark.Mark.TheVariants.{Held}
use Rattle.sr_history.specs.Marks.{is_held, with_marks}
use Rattle.sr_history.specs.Classes.{stamp}
use Rattle.sr_region.specs.declared.region.Region.{Region}
use Rattle.sr_region.specs.Regions.{is_in}
use Rattle.sr_store.specs.declared.start.Kept.{Kept}
use Rattle.sr_store.specs.declared.start.StoreStart.{StoreStart}
use Rattle.sr_store.specs.Classes.{Keeps}
use Rattle.sr_store.specs.Told.{Told, IsTold, AreTrueOf}
use Rattle.sr_store.specs.Stores.{IsOfSchema, count_rects}
use Rattle.sr_store.specs.Brought.{IsToldOf}
use Rattle.sr_store.specs.Fitted.{IsFitted}

-- the region of a part; its stamp is 0, since no query touched it
abbrev pub region_of : List Table → Kept → Region
region_of schema k = record { table = k.table; key = (table_at schema k.table).key; attrs = k.attrs; stamp = 0; rects = k.rects; rows = k.rows }

abbrev pub regions_of : List Table → List Kept → List Region
regions_of schema kept = map (region_of schema) kept

-- the mark that the part is held
abbrev pub mark_of : Kept → Mark
mark_of k = Held k.table k.attrs k.rects

-- the first stands before the second: by table, then by the columns as a number
abbrev pub stands_before : Kept → Kept → Bool
stands_before k h = nat_lt k.table h.table || (k.table == h.table && nat_lt k.attrs h.attrs)

abbrev pub ascending : List Kept → Bool
ascending [] = true
ascending (k ∷ []) = true
ascending (k ∷ h ∷ kept) = stands_before k h && ascending (h ∷ kept)

-- Parts in their order, no two of one table with the same columns, each with the points and rows of a region.
pub record AreLawful (schema : List Table) (kept : List Kept) : Type 0 where
  pub each : All (λ k. IsOfSchema schema (region_of schema k)) kept
  pub order : ascending kept ≡ true
  pub few : count_rects (regions_of schema kept) ≤ 16384

-- The store has a region for each part, but for those that are dropped until it is within the limits; the marks say so.
pub record IsStart (schema : List Table) (limits : Limits) (kept : List Kept) (start : StoreStart) : Type 0 where
  pub drops : List Mark
  pub fitted : IsFitted schema limits [] (regions_of schema kept) start.store.regions drops
  pub marks : start.marks ≡ map mark_of kept ++ drops
  pub store : start.store ≡ record { regions = start.store.regions; limits = limits; last = []; settled = false }

-- ---- laws

-- The regions of a start are the classes of its marks, where no query was answered.
abbrev pub StartsAreClasses : Type 0
StartsAreClasses = (schema : List Table) (limits : Limits) (kept : List Kept) (start : StoreStart)
    → IsTrue (list_all is_table schema) → AreLawful schema kept → IsStart schema limits kept start → Keeps schema (is_held (with_marks [] start.marks)) (stamp []) start.store.regions

-- each part has the rows of a telling that lie in its rects
abbrev pub AreTrueParts : Told → List Kept → Type 0
AreTrueParts told kept = All (λ k. k.rows ≡ filter (is_in k.attrs k.rects) (told k.table k.attrs)) kept

-- The regions of a start from such parts have the rows of that telling.
abbrev pub StartsAreTrue : Type 0
StartsAreTrue = (schema : List Table) (limits : Limits) (kept : List Kept) (start : StoreStart) (told : Told)
    → IsStart schema limits kept start → AreTrueParts told kept → AreTrueOf told start.store.regions

-- what the rows of the parts tell: those of the part of the table and columns
abbrev pub kept_rows : List Kept → Told
kept_rows [] t a = []
kept_rows (k ∷ kept) t a = if k.table == t && k.attrs == a then k.rows else kept_rows kept t a

-- Lawful parts tell rows by key, which are the rows of their regions.
abbrev pub PartsTell : Type 0
PartsTell = (schema : List Table) (kept : List Kept) → IsTrue (list_all is_table schema) → AreLawful schema kept → IsToldOf schema (kept_rows kept) (regions_of schema kept)
