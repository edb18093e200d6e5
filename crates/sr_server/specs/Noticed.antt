-- What a server makes of its log's entries.
use Rattle.std.specs.Prelude.{◌-◌, List, [], length, slice_index_or}
use Rattle.sr_cell.specs.declared.change.Change.{Change}
use Rattle.sr_log.specs.declared.entry.Entry.{Entry}

-- the changes of the last entry
abbrev pub last_changes : List Entry → List Change
last_changes entries = (slice_index_or entries (length entries - 1) (record { version = 0; changes = [] })).changes
