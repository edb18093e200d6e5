-- What is told of a change.
use Rattle.sr_cell.specs.declared.change.Change.{Change}
use Rattle.sr_message.specs.declared.message.Tell.{Tell}

-- the key, and the row that it has from now on
abbrev pub tell_of : Change → Tell
tell_of c = record { table = c.table; key = c.key; after = c.after }
