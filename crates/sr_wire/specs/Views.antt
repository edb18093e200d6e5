-- What views show.
use Rattle.std.specs.Prelude.{Option, Some, None}
use Rattle.sr_cell.specs.Cells.{Row}
use Rattle.sr_message.specs.declared.message.Holding.{Holding}
use Rattle.sr_message.specs.declared.message.AskPart.{AskPart}
use Rattle.sr_message.specs.declared.message.Tell.{Tell}
use Rattle.sr_bytes.specs.Views.{cell_of}
use Rattle.sr_bytes.specs.declared.views.RowView.{RowView}
use Rattle.sr_wire.specs.declared.views.HoldingView.{HoldingView}
use Rattle.sr_wire.specs.declared.views.AskPartView.{AskPartView}
use Rattle.sr_wire.specs.declared.views.TellView.{TellView}

abbrev pub holding_of : HoldingView → Holding
holding_of v = record { table = v.table; attrs = v.attrs; rects = v.rects }

abbrev pub part_of : AskPartView → AskPart
part_of v = record { table = v.table; attrs = v.attrs; rects = v.rects }

abbrev pub after_of : Option RowView → Option Row
after_of None = None
after_of (Some row) = Some row

abbrev pub tell_of : TellView → Tell
tell_of v = record { table = v.table; key = cell_of v.key; after = after_of v.after }
