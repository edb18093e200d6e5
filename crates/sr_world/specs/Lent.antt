-- What the client that a world lends shows.
use Rattle.std.specs.Prelude.{ℕ, ◌≡◌, ◌≤◌, List, map, length, Some}
use Rattle.std.specs.List.{All}
use Rattle.sr_cell.specs.declared.table.Table.{Table}
use Rattle.sr_cell.specs.Columns.{table_at}
use Rattle.sr_box.specs.Points.{in_any, AreSame}
use Rattle.sr_history.specs.Classes.{AreClasses, in_class}
use Rattle.sr_region.specs.declared.region.Region.{Region}
use Rattle.sr_region.specs.Applied.{HasItsRows}
use Rattle.sr_store.specs.Fitted.{count_rows}
use Rattle.sr_store.specs.Past.{class_of}
use Rattle.sr_session.specs.Sessions.{tables_of}
use Rattle.sr_session.specs.Clients as session
use Rattle.sr_session.specs.Clients.{Pair}
use Rattle.sr_session.specs.Scenes.{Scene, pair_at}
use Rattle.sr_client.specs.declared.client.Client.{Client}

-- the region has just the points of its class
abbrev pub HasItsPoints : List Table → session.Client → Region → Type 0
HasItsPoints schema past g = AreSame (table_at schema g.table).columns (in_any g.rects) (in_class past.marks past.queries (class_of g))

-- It is client n of the scene: at its version, with just the regions that are its classes, in class order, each with its rows; and it
-- keeps no more rows and regions than it may.
pub record IsLent (s : Scene) (n : ℕ) (c : Client) : Type 0 where
  pub pair : Pair
  pub there : pair_at s n ≡ Some pair
  pub number : c.id ≡ n
  pub version : c.version ≡ pair.client.version
  pub classes : AreClasses s.database.schema pair.client.marks pair.client.queries (map class_of c.store.regions)
  pub points : All (HasItsPoints s.database.schema pair.client) c.store.regions
  pub rows : All (HasItsRows (tables_of s.database pair.client.version)) c.store.regions
  pub within : count_rows c.store.regions ≤ s.limits.rows
  pub few : length c.store.regions ≤ s.limits.regions
