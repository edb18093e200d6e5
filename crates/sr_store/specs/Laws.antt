-- What holds of regions and of the marks and tables that they stand for.
use Rattle.std.specs.Prelude.{Bool, true, List, map, filter, length, ◌≤◌, ◌≡◌, IsTrue}
use Rattle.std.specs.List.{list_all, All, AllZip, Contains}
use Rattle.sr_cell.specs.declared.change.Change.{Change}
use Rattle.sr_cell.specs.declared.table.Table.{Table}
use Rattle.sr_cell.specs.Columns.{table_at}
use Rattle.sr_message.specs.declared.message.Tell.{Tell}
use Rattle.sr_message.specs.Tells.{tell_of}
use Rattle.sr_model.specs.Changes.{changes}
use Rattle.sr_model.specs.Queries as model
use Rattle.sr_model.specs.Statements.{Tables}
use Rattle.sr_query.specs.Bound.{is_table, IsPart}
use Rattle.sr_query.specs.declared.query.Part.{Part}
use Rattle.sr_policy.specs.declared.policy.Limits.{Limits}
use Rattle.sr_policy.specs.declared.policy.Last.{Last}
use Rattle.sr_history.specs.declared.mark.Mark.{Mark}
use Rattle.sr_history.specs.Marks.{is_held, with_marks}
use Rattle.sr_history.specs.Classes.{Numbered, stamp}
use Rattle.sr_history.specs.Kept.{kept}
use Rattle.sr_history.specs.Victims.{AreLast, last_parts}
use Rattle.sr_history.specs.Budgets.{MeetsBudgets}
use Rattle.sr_region.specs.declared.region.Region.{Region}
use Rattle.sr_region.specs.Applied.{AreTables, concerns, has_points}
use Rattle.sr_store.specs.Classes.{Held, Stamps, Keeps}
use Rattle.sr_store.specs.declared.store.Arrival.{Arrival}
use Rattle.sr_store.specs.Told.{Told, IsTold, told_of, AreTrueOf}
use Rattle.sr_store.specs.Stores.{IsOfSchema, IsStore, IsSettled}
use Rattle.sr_store.specs.Answered.{IsArrival, AreApart, BringOwnKeys, giving_way, HaveArrived}
use Rattle.sr_store.specs.Fitted.{IsFitted, lasts_of, count_rows}
use Rattle.sr_store.specs.Noticed.{told_to, IsTellOf}

-- Where regions are the classes of some marks, with the rows of some tables, and are made to fit, the drops are those that the
-- budgets demand of these marks, and the regions that are left are the classes of the marks with them.
abbrev pub FittedMeetsBudgets : Type 0
FittedMeetsBudgets =
    (schema : List Table) (tables : Tables) (limits : Limits) (marks : List Mark) (queries : List Numbered) (last : List Last) (old new : List Region) (drops : List Mark)
    → IsTrue (list_all is_table schema) → AreTables schema tables → IsStore schema old
    → Keeps schema (is_held marks) (stamp queries) old → AreTrueOf (told_of tables) old → AreLast schema (last_parts queries) last
    → IsFitted schema limits last old new drops
    → MeetsBudgets schema limits (kept tables) queries marks drops × Keeps schema (is_held (with_marks marks drops)) (stamp queries) new

-- the regions that are left are some of those before, still a store, and within the limits
pub record FitsStill (schema : List Table) (limits : Limits) (old new : List Region) : Type 0 where
  pub some : All (Contains old) new
  pub store : IsStore schema old → IsStore schema new
  pub settled : IsSettled schema old → IsSettled schema new
  pub rows : count_rows new ≤ limits.rows
  pub regions : length new ≤ limits.regions

abbrev pub FittedFitStill : Type 0
FittedFitStill = (schema : List Table) (limits : Limits) (last : List Last) (old new : List Region) (drops : List Mark)
    → IsFitted schema limits last old new drops → FitsStill schema limits old new

-- the centres of the rects of some parts are those of what the parts mean
abbrev pub LastsAreLast : Type 0
LastsAreLast = (schema : List Table) (parts : List Part) (meant : List model.Part)
    → IsTrue (list_all is_table schema) → AllZip (IsPart schema) parts meant → AreLast schema meant (lasts_of schema parts)

-- Regions with the rows of some tables have those of the next ones, once all changes are told that concern them.
abbrev pub NoticesKeepTrue : Type 0
NoticesKeepTrue =
    (schema : List Table) (old new : Tables) (test : Change → Bool) (regions : List Region)
    → AreTables schema old → AreTables schema new → IsStore schema regions
    → All (λ g. (c : Change) → has_points (table_at schema g.table).columns c ≡ true → concerns g c ≡ true → test c ≡ true) regions
    → AreTrueOf (told_of old) regions → AreTrueOf (told_of new) (map (told_to (map tell_of (filter test (changes schema old new)))) regions)

-- what is told of changes are rows of the new tables
abbrev pub ChangesAreTells : Type 0
ChangesAreTells = (schema : List Table) (old new : Tables) (test : Change → Bool)
    → AreTables schema old → AreTables schema new → All (IsTellOf schema) (map tell_of (filter test (changes schema old new)))

-- notices leave points and stamps as they are
abbrev pub NoticesKeepClasses : Type 0
NoticesKeepClasses = (schema : List Table) (held : Held) (stamps : Stamps) (told : List Tell) (regions : List Region)
    → Keeps schema held stamps regions → Keeps schema held stamps (map (told_to told) regions)

-- Whatever arrives, there is a telling of which it is true, and the regions that have given way to it too.
abbrev pub SomeTellingFits : Type 0
SomeTellingFits = (schema : List Table) (parts : List Part) (regions : List Region) (arrivals : List Arrival)
    → IsStore schema regions → All (IsArrival schema parts) arrivals → AreApart schema regions arrivals → BringOwnKeys arrivals
    → (told : Told) × IsTold schema told × AreTrueOf told (giving_way arrivals regions) × HaveArrived told arrivals

-- Where regions and what arrives are true of one telling, nothing gives way.
abbrev pub NothingGivesWay : Type 0
NothingGivesWay = (schema : List Table) (parts : List Part) (regions : List Region) (arrivals : List Arrival) (told : Told)
    → All (IsOfSchema schema) regions → All (IsArrival schema parts) arrivals → AreApart schema regions arrivals
    → IsTold schema told → AreTrueOf told regions → HaveArrived told arrivals → giving_way arrivals regions ≡ regions
