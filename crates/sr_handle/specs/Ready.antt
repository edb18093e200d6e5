-- What is true of a client on which calls are made.
use Rattle.std.specs.Prelude.{ℕ, ◌≡◌, ◌≤◌, ◌*◌, ◌^◌, List}
use Rattle.sr_cell.specs.declared.table.Table.{Table}
use Rattle.sr_client.specs.Sends.{IsOfFormat}
use Rattle.sr_client.specs.Stands.{Stands, drawn}
use Rattle.sr_client.specs.declared.client.Client.{Client}

-- It stands, the format has its number and its limits, these are its tables, and so many steps have drawn its numbers.
pub record IsSeat (c : Client) (tables : List Table) (steps : ℕ) : Type 0 where
  pub stands : Stands c
  pub format : IsOfFormat c
  pub schema : tables ≡ c.schema
  pub drawn : drawn c ≤ 2 * steps
  pub cuts : c.cuts ≤ steps
  pub few : steps ≤ 2 ^ 60
