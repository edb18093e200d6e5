-- What a client was told, step by step: the rows of each table and set of columns, as notices and arrivals bring them.
use Rattle.std.specs.Prelude.{ℕ, zero, suc, Bool, false, not, ◌&&◌, ◌==◌, ◌+◌, List, [], ◌∷◌, ◌≡◌, Option, Some, None, filter, map, length, sum_by, count_by, IsTrue, if◌then◌else◌}
use Rattle.std.specs.List.{list_all, All}
use Rattle.sr_cell.specs.declared.table.Column.{Column}
use Rattle.sr_cell.specs.declared.table.Table.{Table}
use Rattle.sr_cell.specs.Attrs.{has_column, project}
use Rattle.sr_cell.specs.Cells.{Row, cell_at}
use Rattle.sr_cell.specs.Columns.{table_at}
use Rattle.sr_box.specs.Corners.{first_value}
use Rattle.sr_message.specs.declared.message.Tell.{Tell}
use Rattle.sr_model.specs.SortedRows.{has_key, with_row, with_rows}
use Rattle.sr_query.specs.Bound.{is_table}
use Rattle.sr_query.specs.declared.query.Part.{Part}
use Rattle.sr_policy.specs.declared.policy.Limits.{Limits}
use Rattle.sr_policy.specs.declared.policy.Last.{Last}
use Rattle.sr_history.specs.declared.mark.Mark.{Mark}
use Rattle.sr_history.specs.Marks.{is_held}
use Rattle.sr_history.specs.Classes.{Numbered, stamp}
use Rattle.sr_history.specs.Kept.{sets_of}
use Rattle.sr_history.specs.Victims.{AreLast, last_parts}
use Rattle.sr_history.specs.Budgets.{MeetsBudgets}
use Rattle.sr_rows.specs.Keys.{without_key}
use Rattle.sr_region.specs.declared.region.Region.{Region}
use Rattle.sr_region.specs.Regions.{rank, is_in}
use Rattle.sr_store.specs.declared.store.Arrival.{Arrival}
use Rattle.sr_store.specs.Classes.{Keeps}
use Rattle.sr_store.specs.Told.{Told, IsTold, AreTrueOf}
use Rattle.sr_store.specs.Stores.{IsOfSchema, IsStore}
use Rattle.sr_store.specs.Answered.{IsArrival, AreApart, giving_way, HaveArrived}
use Rattle.sr_store.specs.Fitted.{IsFitted}
use Rattle.sr_store.specs.Noticed.{told_to, IsTellOf}

-- before anything came
abbrev pub nothing_told : Told
nothing_told t a = []

-- ---- notices

-- with the cells of these columns, if there is a row
abbrev pub with_cells : ℕ → ℕ → Option Row → List Row → List Row
with_cells key a None rows = rows
with_cells key a (Some row) rows = with_row key rows (project a row)

-- the key has this row then, or none
abbrev pub after_all : ℕ → ℕ → Tell → List Row → List Row
after_all key a tell rows = with_cells (rank a key) a tell.after (without_key (rank a key) tell.key rows)

-- the telling after one tell
abbrev pub tells : List Table → Tell → Told → Told
tells schema tell told t a = if tell.table == t then after_all (table_at schema t).key a tell (told t a) else told t a

-- and after all that is told
abbrev pub tells_all : List Table → List Tell → Told → Told
tells_all schema [] told = told
tells_all schema (tell ∷ more) told = tells_all schema more (tells schema tell told)

-- ---- what arrives

-- the row lies outside of the rects of what arrives, and has no key that arrives
abbrev pub stays_beside : Arrival → Row → Bool
stays_beside r row = not (is_in r.attrs r.rects row) && not (has_key (rank r.attrs r.key) (cell_at row (rank r.attrs r.key)) r.rows)

-- Rows that arrive take the place of all in their rects, and of those with their keys.
abbrev pub arrives_in : Arrival → Told → Told
arrives_in r told t a = if r.table == t && r.attrs == a then with_rows (rank r.attrs r.key) (filter (stays_beside r) (told t a)) r.rows else told t a

abbrev pub arrive_in : List Arrival → Told → Told
arrive_in [] told = told
arrive_in (r ∷ arrivals) told = arrive_in arrivals (arrives_in r told)

-- ---- how many rows are kept

-- a point with these cells in the columns of attrs, and the first value of each other column; c is the number of the first column
abbrev pub point_with : ℕ → ℕ → List Column → Row → Row
point_with attrs c [] cells = []
point_with attrs c (column ∷ columns) [] = first_value column.kind column.lo ∷ point_with attrs (c + 1) columns []
point_with attrs c (column ∷ columns) (v ∷ cells) =
    if has_column attrs c then v ∷ point_with attrs (c + 1) columns cells else first_value column.kind column.lo ∷ point_with attrs (c + 1) columns (v ∷ cells)

-- the rows of the table that were told and are held, counted under each set of columns
abbrev pub kept_in : List Table → Told → List Mark → ℕ → ℕ
kept_in schema told marks t = sum_by (λ a. count_by (λ cells. is_held marks t a (point_with a 0 (table_at schema t).columns cells)) (told t a)) (sets_of marks)

-- and of so many tables
abbrev pub kept_below : List Table → Told → List Mark → ℕ → ℕ
kept_below schema told marks zero = 0
kept_below schema told marks (suc t) = kept_in schema told marks t + kept_below schema told marks t

-- all that were told and are held
abbrev pub kept_told : List Table → Told → List Mark → ℕ
kept_told schema told marks = kept_below schema told marks (length schema)

-- ---- laws

-- Regions with the rows of a telling that are made to fit: the drops are those that the budgets demand of the marks behind them.
abbrev pub FittedMeetsToldBudgets : Type 0
FittedMeetsToldBudgets =
    (schema : List Table) (told : Told) (limits : Limits) (marks : List Mark) (queries : List Numbered) (last : List Last) (old new : List Region) (drops : List Mark)
    → IsTrue (list_all is_table schema) → IsTold schema told → IsStore schema old → Keeps schema (is_held marks) (stamp queries) old → AreTrueOf told old
    → AreLast schema (last_parts queries) last → IsFitted schema limits last old new drops → MeetsBudgets schema limits (kept_told schema told) queries marks drops

-- the telling is one of rows by key still, and the regions have its rows
abbrev pub IsToldOf : List Table → Told → List Region → Type 0
IsToldOf schema told regions = IsTold schema told × AreTrueOf told regions

-- Regions with the rows of a telling have those of the next one once they are told the same.
abbrev pub NoticesAreTold : Type 0
NoticesAreTold = (schema : List Table) (told : List Tell) (telling : Told) (regions : List Region)
    → All (IsTellOf schema) told → All (IsOfSchema schema) regions → IsToldOf schema telling regions → IsToldOf schema (tells_all schema told telling) (map (told_to told) regions)

-- each arrival is of another table
abbrev pub AreOfOwnTables : List Arrival → Type 0
AreOfOwnTables [] = Unit {0}
AreOfOwnTables (r ∷ arrivals) = All (λ s. (s.table == r.table) ≡ false) arrivals × AreOfOwnTables arrivals

-- So they have, and the arrivals have, once these give way to what arrives.
abbrev pub ArrivalsAreTold : Type 0
ArrivalsAreTold = (schema : List Table) (parts : List Part) (regions : List Region) (arrivals : List Arrival) (told : Told)
    → All (IsOfSchema schema) regions → All (IsArrival schema parts) arrivals → AreApart schema regions arrivals → AreOfOwnTables arrivals → IsToldOf schema told regions
    → IsToldOf schema (arrive_in arrivals told) (giving_way arrivals regions) × HaveArrived (arrive_in arrivals told) arrivals
