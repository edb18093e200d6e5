-- What messages are made of items, on tables and a log.
use Rattle.std.specs.Prelude.{ℕ, nat_lt, List, [], ◌∷◌, ◌++◌, map, slice_get, option_to_list, if◌then◌else◌}
use Rattle.sr_cell.specs.declared.change.Change.{Change}
use Rattle.sr_cell.specs.Attrs.{project}
use Rattle.sr_cell.specs.Columns.{table_at}
use Rattle.sr_message.specs.declared.message.Message.{Message}
use Rattle.sr_message.specs.declared.message.Message.TheVariants as message
use Rattle.sr_message.specs.Tells.{tell_of}
use Rattle.sr_model.specs.Queries.{rows_at}
use Rattle.sr_log.specs.Held.{Held, entries_above}
use Rattle.sr_log.specs.declared.entry.Entry.{Entry}
use Rattle.sr_tables.specs.ByKey.{rows_with}
use Rattle.sr_tables.specs.Stored.{Stored}
use Rattle.sr_outbox.specs.declared.item.Item.{Item}
use Rattle.sr_outbox.specs.declared.item.Item.TheVariants.{Lapse, Notice, Rows, Reply, Written, Welcome, Refused}

-- ---- notices

-- the changes in these places
abbrev pub picked : List ℕ → List Change → List Change
picked [] changes = []
picked (place ∷ places) changes = option_to_list (slice_get changes place) ++ picked places changes

abbrev pub first_changes : List Entry → List Change
first_changes [] = []
first_changes (entry ∷ entries) = entry.changes

-- the entries above that version, where the log reaches back so far
abbrev pub entries_from : ℕ → Held → List Entry
entries_from version log = if nat_lt version log.floor then [] else entries_above version log

-- what the first version above that one changes
abbrev pub changes_after : ℕ → Held → List Change
changes_after version log = first_changes (entries_from version log)

-- ---- messages

abbrev pub message_of : Stored → Held → Item → Message
message_of tables log (Lapse version) = message.Lapse version
message_of tables log (Notice version above places) = message.Notice version (map tell_of (picked places (changes_after above log)))
message_of tables log (Rows asked keys) =
    message.Rows asked.number asked.part (map (project asked.attrs) (rows_with (table_at tables.schema asked.table).key keys (rows_at tables.rows asked.table)))
message_of tables log (Reply number version) = message.Reply number version
message_of tables log (Written number version) = message.Written number version
message_of tables log (Welcome number version kept) = message.Welcome number version kept
message_of tables log (Refused number fault) = message.Refused number fault

-- the messages of items, in their order
abbrev pub messages : Stored → Held → List Item → List Message
messages tables log items = map (message_of tables log) items
