-- Which pasts a client's end stands for, and what it did.
use Rattle.std.specs.Prelude.{ℕ, Bool, ◌-◌, ◌^◌, ◌≡◌, min, List, [], Option, None, Result, option_to_list}
use Rattle.sr_cell.specs.declared.fault.Fault.{Fault}
use Rattle.sr_cell.specs.declared.table.Table.{Table}
use Rattle.sr_message.specs.declared.message.Message.{Message}
use Rattle.sr_model.specs.Queries as model
use Rattle.sr_model.specs.Statements.{Tables}
use Rattle.sr_script.specs.declared.line.TraceLine.{TraceLine}
use Rattle.sr_store.specs.Brought.{IsToldOf}
use Rattle.sr_store.specs.Told.{Told}
use Rattle.sr_session.specs.Clients as session
use Rattle.sr_client.specs.Sends.{IsOfFormat}
use Rattle.sr_client.specs.Stands as client
use Rattle.sr_client.specs.Stands.{IsClient, StandsFor, drawn}
use Rattle.sr_client.specs.declared.client.Client.{Client}
use Rattle.sr_links.specs.Steps.{Deed}
use Rattle.sr_dial.specs.Known.{Makes, Setting, TakesAs, Tells}
use Rattle.sr_dial.specs.declared.parts.Answer.{Answer}
use Rattle.sr_world.specs.declared.lines.Told as lines
use Rattle.sr_calls.specs.Short.{HoldsShort}
use Rattle.sr_calls.specs.declared.calls.Done.{Done}
use Rattle.sr_calls.specs.declared.calls.Taken.{Taken}

-- A client, whether the rows of answers are kept, so as to be lent, and whether its run writes lines; and the answer that is lent.
pub record End : Type 0 where
  pub client : Client
  pub keeps : Bool
  pub says : Bool
  pub answer : Option Answer

abbrev pub end_with : Bool → Bool → Client → Option Answer → End
end_with keeps says client answer = record { client = client; keeps = keeps; says = says; answer = answer }

-- It stands for some past, the format has its number and its limits, and it holds short texts alone.
abbrev pub IsReady : Client → Type 0
IsReady c = client.Stands c × IsOfFormat c × HoldsShort c

-- on any link
abbrev pub Stands : End → session.Client → Type 0
Stands e past = StandsFor past e.client

-- with the rows of these tables of this schema
abbrev pub IsEnd : List Table → End → session.Client → Tables → Type 0
IsEnd schema e past tables = (schema ≡ e.client.schema) × IsClient e.client past tables

-- on any link, with rows that were told of tables of this schema
abbrev pub HasTold : List Table → End → session.Client → Told → Type 0
HasTold schema e past told = Stands e past × IsToldOf schema told e.client.store.regions

-- what no step changes
abbrev pub setting_of : End → Setting
setting_of e = record { number = e.client.id; schema = e.client.schema; limits = e.client.store.limits; keeps = e.keeps; says = e.says }

abbrev pub lent_by : End → Option Answer
lent_by e = e.answer

-- how many numbers a client can draw still, of queries and requests or of cuts
abbrev pub room_of : Client → ℕ
room_of c = min (2 ^ 63 - 1 - drawn c) (2 ^ 63 - 1 - c.cuts)

-- ---- what a step comes to

-- lines with nothing that is sent, and no answer
abbrev pub silent : List TraceLine → Done
silent lines = record { told = record { lines = lines; sent = [] }; answer = None }

-- lines with what is sent, and an answer
abbrev pub done_of : lines.Told → Option Answer → Done
done_of told answer = record { told = record { lines = told.lines; sent = option_to_list told.sent }; answer = answer }

-- ---- what a client did, whatever its end lent, and whether or not its run writes lines

-- from this past, with these lines, what was sent, and the answer that its end lends then
abbrev pub Did : Bool → Client → Client → session.Client → Deed → Done → Type 0
Did keeps old new past deed done = (says : Bool) (lent : Option Answer)
    → Makes Stands lent_by IsEnd HasTold (setting_of (end_with keeps says old lent)) (end_with keeps says old lent)
    (end_with keeps says new done.answer) past deed done.told.lines done.told.sent

-- the same of a message that it took, or refused
abbrev pub DidTake : Bool → Client → Client → session.Client → Message → Taken → Type 0
DidTake keeps old new past message taken = (says : Bool) (lent : Option Answer)
    → TakesAs taken.came Stands lent_by IsEnd HasTold (setting_of (end_with keeps says old lent)) (end_with keeps says old lent)
    (end_with keeps says new taken.answer) past message

-- the lines that it explains a query of this text by
abbrev pub DidExplain : Client → session.Client → Result model.Query Fault → List TraceLine → Type 0
DidExplain c past text lines =
    (keeps says : Bool) (lent : Option Answer) → Tells IsEnd (setting_of (end_with keeps says c lent)) (end_with keeps says c lent) past text lines
