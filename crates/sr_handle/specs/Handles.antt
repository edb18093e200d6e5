-- What the calls of a handle do: what the calls of its client do, and what is kept of that.
use Rattle.std.specs.Prelude.{ℕ, ◌≡◌, ◌≤◌, List, [], length, drop, Option, Some, None, Result}
use Rattle.sr_cell.specs.declared.fault.Fault.{Fault}
use Rattle.sr_cell.specs.declared.table.Table.{Table}
use Rattle.sr_message.specs.declared.message.Message.{Message}
use Rattle.sr_policy.specs.declared.policy.Limits.{Limits}
use Rattle.sr_wire.specs.declared.wire_fault.WireFault.TheVariants.{Short}
use Rattle.sr_wire.specs.Reading.{Whole, Faulty, decoded}
use Rattle.sr_wire.specs.Spelling.{spelling}
use Rattle.sr_explain.specs.declared.explanation.Explanation.{Explanation}
use Rattle.sr_client.specs.declared.steps.CutStep.{CutStep}
use Rattle.sr_client.specs.declared.steps.EvictStep.{EvictStep}
use Rattle.sr_client.specs.declared.steps.QueryStep.{QueryStep}
use Rattle.sr_client.specs.declared.steps.ResumeStep.{ResumeStep}
use Rattle.sr_client.specs.declared.steps.Took.{Took as TookStep}
use Rattle.sr_client.specs.declared.steps.WriteStep.{WriteStep}
use Rattle.sr_client.specs.Stands.{new_client}
use Rattle.sr_client.specs.Steps.{Cuts, Evicts, Resumes, Takes}
use Rattle.sr_handle.specs.declared.handle.Front.{Front}
use Rattle.sr_handle.specs.declared.handle.Front.TheVariants as front
use Rattle.sr_handle.specs.declared.handle.Handle.{Handle}
use Rattle.sr_handle.specs.declared.left.Left.{Left}
use Rattle.sr_handle.specs.declared.said.Said.{Said}
use Rattle.sr_handle.specs.declared.said.Said.TheVariants as said
use Rattle.sr_handle.specs.Leaving.{quiet, left_of_asked, left_of_evict, left_of_resume, left_of_took, left_of_write, said_of_cut}
use Rattle.sr_handle.specs.Seats.{AsksAs, ExplainsAs, WritesAs}
use Rattle.sr_handle.specs.Telling.{explained_text, said_of_explained}

abbrev pub new_handle : ℕ → List Table → Limits → Handle
new_handle id schema limits = record { seat = new_client id schema limits; feed = []; sent = []; rows = []; text = [] }

-- the frame of a message, if there is one
abbrev pub bytes_of : Option Message → List ℕ
bytes_of None = []
bytes_of (Some message) = spelling message

-- what a step left is kept, and this is said of it
pub record Keeps (left : Left) (new : Handle) (what : Said) : Type 0 where
  pub said : what ≡ left.said
  pub sent : new.sent ≡ bytes_of left.sent
  pub rows : new.rows ≡ left.rows

-- what is kept touches nothing else
pub record KeepsRest (old new : Handle) : Type 0 where
  pub seat : new.seat ≡ old.seat
  pub feed : new.feed ≡ old.feed
  pub text : new.text ≡ old.text

-- The text of a query is refused, or asks: its answer, or the ask of what is missing, is kept.
pub record Asked (old : Handle) (sql : List ℕ) (new : Handle) (what : Said) : Type 0 where
  pub step : Result QueryStep Fault
  pub asks : AsksAs old.seat sql new.seat step
  pub keeps : Keeps (left_of_asked step) new what
  pub feed : new.feed ≡ old.feed

pub record Wrote (old : Handle) (sql : List ℕ) (new : Handle) (what : Said) : Type 0 where
  pub step : WriteStep
  pub writes : WritesAs old.seat sql new.seat step
  pub keeps : Keeps (left_of_write step) new what
  pub feed : new.feed ≡ old.feed

pub record Dropped (old : Handle) (number : ℕ) (new : Handle) (what : Said) : Type 0 where
  pub step : EvictStep
  pub evicts : Evicts old.seat number new.seat step
  pub keeps : Keeps (left_of_evict step) new what
  pub feed : new.feed ≡ old.feed

pub record IsCut (old new : Handle) (what : Said) : Type 0 where
  pub step : CutStep
  pub cuts : Cuts old.seat new.seat step
  pub keeps : Keeps (quiet (said_of_cut step)) new what
  pub feed : new.feed ≡ []

pub record Began (old new : Handle) (what : Said) : Type 0 where
  pub step : ResumeStep
  pub resumes : Resumes old.seat new.seat step
  pub keeps : Keeps (left_of_resume step) new what
  pub feed : new.feed ≡ old.feed

-- What stands in front of what came: a message, no whole frame yet, or no frame.
abbrev pub IsFront : List ℕ → Front → Type 0
IsFront bytes (front.Whole message size) = (decoded bytes ≡ Whole message size) × (size ≤ length bytes)
IsFront bytes front.Wanting = decoded bytes ≡ Faulty Short
IsFront bytes (front.Spoiled fault) = decoded bytes ≡ Faulty fault

-- The message of that many bytes was taken or refused.
pub record TookFront (old : Handle) (message : Message) (size : ℕ) (new : Handle) (what : Said) : Type 0 where
  pub step : TookStep
  pub takes : Takes old.seat message new.seat step
  pub keeps : Keeps (left_of_took step) new what
  pub feed : new.feed ≡ drop size old.feed

abbrev pub TookOf : Handle → Front → Handle → Said → Type 0
TookOf old (front.Whole message size) new what = TookFront old message size new what
TookOf old front.Wanting new what = (what ≡ said.Wanting) × (new ≡ old)
TookOf old (front.Spoiled fault) new what = (what ≡ said.Spoiled fault) × (new ≡ old)

-- The message in front was taken or refused; or nothing changes, since none stands there.
abbrev pub Took : Handle → Handle → Said → Type 0
Took old new what = (front : Front) × IsFront old.feed front × TookOf old front new what

-- The text of a query is refused or explained, and the lines of that are kept.
pub record KeepsLines (old : Handle) (explained : Result Explanation Fault) (new : Handle) (what : Said) : Type 0 where
  pub said : what ≡ said_of_explained explained
  pub lines : new ≡ record old { text = explained_text old.seat.schema old.seat.id explained }

abbrev pub Explained : Handle → List ℕ → Handle → Said → Type 0
Explained old sql new what = (explained : Result Explanation Fault) × ExplainsAs old.seat sql explained × KeepsLines old explained new what
