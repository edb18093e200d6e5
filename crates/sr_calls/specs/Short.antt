-- A client that holds short texts alone, so that what it holds can be spelled.
use Rattle.std.specs.Prelude.{ℕ, Bool, true, ◌≡◌}
use Rattle.std.specs.List.{list_all}
use Rattle.sr_cell.specs.Cells.{Row}
use Rattle.sr_bytes.specs.Writing.{may_write_cell}
use Rattle.sr_store.specs.Brought.{IsToldOf}
use Rattle.sr_store.specs.Told.{Told}
use Rattle.sr_client.specs.declared.client.Client.{Client}

-- each text in it has at most 120 bytes
abbrev pub is_short : Row → Bool
is_short row = list_all may_write_cell row

-- a telling of such rows alone
abbrev pub TellsShort : Told → Type 0
TellsShort told = (t a : ℕ) → list_all is_short (told t a) ≡ true

-- The client has the rows of a telling of short rows alone.
pub record HoldsShort (c : Client) : Type 0 where
  pub told : Told
  pub is : IsToldOf c.schema told c.store.regions
  pub short : TellsShort told
