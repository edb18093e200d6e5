-- Cells whose texts are bytes.
use Rattle.std.specs.Prelude.{Bool, true, None, Some}
use Rattle.std.specs.List.{list_all}
use Rattle.sr_cell.specs.Columns.{are_values}
use Rattle.sr_message.specs.declared.message.Message.{Message}
use Rattle.sr_message.specs.declared.message.Message.TheVariants.{Notice, Rows}
use Rattle.sr_message.specs.declared.message.Tell.{Tell}

abbrev pub tells_values : Tell → Bool
tells_values tell = elim tell.after as (λ after. Bool) [ None ↦ true | Some row ↦ are_values row ]

-- the rows that the message brings, or tells
abbrev pub has_values : Message → Bool
has_values (Notice version told) = list_all tells_values told
has_values (Rows number part rows) = list_all are_values rows
has_values other = true
