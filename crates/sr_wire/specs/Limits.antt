-- What a message must keep to be sent, beyond what its type gives.
use Rattle.std.specs.Prelude.{ℕ, ◌≤◌, Bool, true, ◌&&◌, nat_le, List, length, sum_by, Option, Some, None, IsTrue}
use Rattle.std.specs.List.{list_all}
use Rattle.sr_cell.specs.Cells.{Row}
use Rattle.sr_message.specs.declared.message.Message.{Message}
use Rattle.sr_message.specs.declared.message.Message.TheVariants.{Hello, Resume, Ask, Write, Welcome, Notice, Rows, Reply, Written, Refused, Lapse}
use Rattle.sr_message.specs.declared.message.Holding.{Holding}
use Rattle.sr_message.specs.declared.message.AskPart.{AskPart}
use Rattle.sr_message.specs.declared.message.Tell.{Tell}
use Rattle.sr_message.specs.Sizes.{most_rects, count_asked}
use Rattle.sr_bytes.specs.Spelling.{is_from_to}
use Rattle.sr_bytes.specs.Writing.{may_write_key, may_write_row, may_write_rows, may_write_rects}
use Rattle.sr_wire.specs.Spelling.{is_client, is_wire, has_held_attrs, body_of, most_bytes}

-- over wire 1 a holding has all columns
abbrev pub may_write_holding : ℕ → Holding → Bool
may_write_holding wire h = is_from_to 0 15 h.table && (has_held_attrs wire h.attrs && may_write_rects h.rects)

abbrev pub may_write_part : AskPart → Bool
may_write_part p = is_from_to 0 4095 p.attrs && may_write_rects p.rects

abbrev pub may_write_after : Option Row → Bool
may_write_after None = true
may_write_after (Some row) = may_write_row row

abbrev pub may_write_tell : Tell → Bool
may_write_tell t = may_write_key t.key && may_write_after t.after

abbrev pub may_write : Message → Bool
may_write (Hello wire client number) = is_wire wire && is_client client
may_write (Resume wire client number version holdings) =
    is_wire wire && (is_client client && (is_from_to 1 1024 (length holdings) && list_all (may_write_holding wire) holdings))
may_write (Ask number fresh parts) = is_from_to 1 4 (length parts) && list_all may_write_part parts
may_write (Write number sql) = is_from_to 0 65536 (length sql)
may_write (Welcome number version kept) = true
may_write (Notice version told) = is_from_to 0 10000 (length told) && list_all may_write_tell told
may_write (Rows number part rows) = is_from_to 0 3 part && may_write_rows rows
may_write (Reply number version) = true
may_write (Written number version) = true
may_write (Refused number fault) = true
may_write (Lapse version) = true

-- the rects of all holdings
abbrev pub count_held : List Holding → ℕ
count_held holdings = sum_by (λ h. length h.rects) holdings

-- a message holds or asks no more rects than a client may
abbrev pub has_few_rects : Message → Bool
has_few_rects (Resume wire client number version holdings) = nat_le (count_held holdings) most_rects
has_few_rects (Ask number fresh parts) = nat_le (count_asked parts) most_rects
has_few_rects other = true

-- each count and length is in its range, and so is the whole
pub record IsSendable (message : Message) : Type 0 where
  pub limits : IsTrue (may_write message)
  pub size : length (body_of message) ≤ most_bytes

-- of so few rects the whole is never too long
abbrev pub FewAreSendable : Type 0
FewAreSendable = (m : Message) → IsTrue (may_write m) → IsTrue (has_few_rects m) → IsSendable m
