use Rattle.std.proofs.Common.{take}
use Rattle.sr_cell.specs.Columns.{table_at}
use Rattle.sr_union.specs.Pieces.{IsWithin}
use Rattle.sr_store.specs.Making.{wider_both}
use Rattle.sr_store.proofs.absorb.is_absorbed.Given as goal

abbrev pub invariant-loop-rect : goal.invariant-loop-rect
invariant-loop-rect l = IsWithin (table_at l.schema l.region.table).columns (take l.rect-index l.rect-items) (wider_both l.still l.news l.region)
