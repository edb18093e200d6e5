-- Which items are made of a log's entries and of an ask.
use Rattle.std.specs.Prelude.{ℕ, zero, suc, ◌+◌, List, [], ◌∷◌, ◌++◌, map, filter, take, drop, length, if◌then◌else◌}
use Rattle.sr_cell.specs.declared.cell.Cell.{Cell}
use Rattle.sr_cell.specs.declared.change.Change.{Change}
use Rattle.sr_cell.specs.Columns.{table_at}
use Rattle.sr_box.specs.Points.{in_any}
use Rattle.sr_message.specs.declared.message.AskPart.{AskPart}
use Rattle.sr_message.specs.declared.message.Holding.{Holding}
use Rattle.sr_subs.specs.Subscription.{touches}
use Rattle.sr_log.specs.declared.entry.Entry.{Entry}
use Rattle.sr_model.specs.Queries.{rows_at}
use Rattle.sr_tables.specs.ByKey.{keys_of}
use Rattle.sr_tables.specs.Stored.{Stored}
use Rattle.sr_outbox.specs.declared.item.Asked.{Asked}
use Rattle.sr_outbox.specs.declared.item.Item.{Item}
use Rattle.sr_outbox.specs.declared.item.Item.TheVariants.{Notice, Rows}

-- ---- notices

-- the places of the changes that touch the subscription, where the first is at place n
abbrev pub touched_from : ℕ → List Holding → List Change → List ℕ
touched_from n subs [] = []
touched_from n subs (c ∷ cs) = if touches subs c then n ∷ touched_from (n + 1) subs cs else touched_from (n + 1) subs cs

-- Where nothing is told there is no notice.
abbrev pub notice_item : ℕ → ℕ → List ℕ → List Item
notice_item version above [] = []
notice_item version above (place ∷ places) = Notice version above (place ∷ places) ∷ []

-- a notice of each entry of which something touches the subscription, where the first stands right above that version
abbrev pub notice_items : List Holding → ℕ → List Entry → List Item
notice_items subs above [] = []
notice_items subs above (entry ∷ entries) = notice_item entry.version above (touched_from 0 subs entry.changes) ++ notice_items subs entry.version entries

-- ---- rows

-- in pieces of 256 keys, the last possibly shorter; at most n pieces
abbrev pub key_pieces : ℕ → List Cell → List (List Cell)
key_pieces n [] = []
key_pieces zero (key ∷ keys) = []
key_pieces (suc n) (key ∷ keys) = (key ∷ take 255 keys) ∷ key_pieces n (drop 255 keys)

abbrev pub asked_of : ℕ → ℕ → AskPart → Asked
asked_of number i ask = record { number = number; part = i; table = ask.table; attrs = ask.attrs }

-- the keys of the rows that are asked
abbrev pub keys_asked : Stored → AskPart → List Cell
keys_asked tables ask = keys_of (table_at tables.schema ask.table).key (filter (in_any ask.rects) (rows_at tables.rows ask.table))

abbrev pub part_items : Stored → Asked → AskPart → List Item
part_items tables asked ask = map (Rows asked) (key_pieces (length (keys_asked tables ask)) (keys_asked tables ask))

-- the rows of the parts, part by part, the first of them being number i
abbrev pub row_items : Stored → ℕ → ℕ → List AskPart → List Item
row_items tables number i [] = []
row_items tables number i (ask ∷ asks) = part_items tables (asked_of number i ask) ask ++ row_items tables number (i + 1) asks
