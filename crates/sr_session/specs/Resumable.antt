-- A client whose regions keep what is held can say so in a Resume.
use Rattle.std.specs.Prelude.{true, List, map, ◌≡◌, IsTrue}
use Rattle.std.specs.List.{list_all}
use Rattle.sr_cell.specs.declared.table.Table.{Table}
use Rattle.sr_message.specs.declared.message.Holding.{Holding}
use Rattle.sr_query.specs.Bound.{is_table}
use Rattle.sr_history.specs.declared.mark.Mark.{Mark}
use Rattle.sr_history.specs.Marks.{is_held}
use Rattle.sr_history.specs.Classes.{Numbered, stamp}
use Rattle.sr_region.specs.declared.region.Region.{Region}
use Rattle.sr_store.specs.Classes.{Keeps}
use Rattle.sr_store.specs.Stores.{IsStore}
use Rattle.sr_session.specs.Places.{held}
use Rattle.sr_session.specs.Clients.{AreHoldings}
use Rattle.sr_session.specs.Refusals.{holding_suits}
use Rattle.sr_session.specs.Regions.{LieIn}

-- what a Resume says of a region
abbrev pub region_holding : Region → Holding
region_holding g = record { table = g.table; attrs = g.attrs; rects = g.rects }

-- A Resume of these regions has one holding for each class that is held, in class order, and suits the schema over wire 2; and the
-- regions have none but held points.
pub record CanResume (schema : List Table) (marks : List Mark) (queries : List Numbered) (regions : List Region) : Type 0 where
  pub holdings : AreHoldings schema marks queries (map region_holding regions)
  pub suits : list_all (holding_suits schema 2) (map region_holding regions) ≡ true
  pub lie : LieIn schema (held marks) regions

-- Regions that keep what is held can be named in a Resume.
abbrev pub RegionsCanResume : Type 0
RegionsCanResume =
    (schema : List Table) (marks : List Mark) (queries : List Numbered) (regions : List Region)
    → IsTrue (list_all is_table schema) → IsStore schema regions → Keeps schema (is_held marks) (stamp queries) regions
    → CanResume schema marks queries regions
