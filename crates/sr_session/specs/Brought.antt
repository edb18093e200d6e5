-- What the frames brought to a client, on any link: the rows that its classes are counted by.
use Rattle.std.specs.Prelude.{Bool, true, false, List, [], ◌∷◌, Option, Some, None, if◌then◌else◌}
use Rattle.sr_cell.specs.declared.table.Table.{Table}
use Rattle.sr_message.specs.declared.message.AskPart.{AskPart}
use Rattle.sr_message.specs.declared.message.Message.{Message}
use Rattle.sr_message.specs.declared.message.Message.TheVariants.{Notice, Lapse, Reply, Written, Refused, Welcome}
use Rattle.sr_policy.specs.declared.policy.Limits.{Limits}
use Rattle.sr_store.specs.Brought.{nothing_told, tells_all, arrive_in, kept_told}
use Rattle.sr_store.specs.Told.{Told}
use Rattle.sr_session.specs.Arrivals.{arrivals_of}
use Rattle.sr_session.specs.Clients.{Client}
use Rattle.sr_session.specs.Rules.{Basis, is_given_up}
use Rattle.sr_session.specs.Walks.{Request, AskOut}

-- a notice brings the rows that it tells, and behind a Lapse there are none
abbrev pub told_by : List Table → Message → Told → Told
told_by schema (Notice version told) rows = tells_all schema told rows
told_by schema (Lapse version) rows = nothing_told
told_by schema m rows = rows

-- one message after another
abbrev pub told_by_all : List Table → List Message → Told → Told
told_by_all schema [] rows = rows
told_by_all schema (m ∷ ms) rows = told_by_all schema ms (told_by schema m rows)

-- A reply brings what was laid by, and then the rows that came of each part; where they are given up, all is dropped.
abbrev pub told_by_reply : Bool → List Table → List AskPart → List Message → Told → Told
told_by_reply true schema parts laid rows = nothing_told
told_by_reply false schema parts laid rows = arrive_in (arrivals_of schema parts laid) (told_by_all schema laid rows)

-- A message that ends a request brings what was laid by; while nothing is out it brings its own rows; and else it is laid by itself.
abbrev pub told_where : List Table → Option Request → List Message → Message → Told → Told
told_where schema None laid m rows = told_by schema m rows
told_where schema (Some (AskOut number query meaning fresh parts)) laid (Reply k version) rows = told_by_reply (is_given_up fresh laid) schema parts laid rows
told_where schema (Some request) laid (Written k version) rows = told_by_all schema laid rows
told_where schema (Some request) laid (Refused k fault) rows = told_by_all schema laid rows
told_where schema (Some request) laid (Welcome k version kept) rows = if kept then told_by_all schema laid rows else nothing_told
told_where schema (Some request) laid m rows = rows

-- what was told once the client takes the message
abbrev pub told_after : List Table → Client → Message → Told → Told
told_after schema c m rows = told_where schema c.out c.laid m rows

-- What the rules go by on any link: kept rows are those that were told and are held, and of a query's rows nothing is known.
abbrev pub told_basis : List Table → Limits → Told → Basis
told_basis schema limits rows = record { schema = schema; limits = limits; count = λ version marks. kept_told schema rows marks; rows = None }
