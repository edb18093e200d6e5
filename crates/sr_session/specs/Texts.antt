-- How long the text of a write may be.
use Rattle.std.specs.Prelude.{ℕ}
use Rattle.sr_cell.specs.declared.fault.Fault.{Fault}
use Rattle.sr_cell.specs.declared.fault.Why.TheVariants.{LongText}

-- a text of more bytes is no write that a client sends
abbrev pub most_text : ℕ
most_text = 65536

-- why it is refused
abbrev pub long_text : Fault
long_text = record { why = LongText; at = most_text }
