-- What was said over one connection, as a server sees it, step by step.
use Rattle.std.specs.Prelude.{◌≡◌, ◌⊎◌, ℕ, ◌<◌, ◌≤◌, List, ◌++◌, length, take, Result}
use Rattle.sr_cell.specs.declared.fault.Fault.{Fault as TheFault}
use Rattle.sr_io.specs.Causes.{Rose}
use Rattle.sr_io.specs.Pieces.{SendsPart}
use Rattle.sr_io.specs.Told.{Linking, OnlyFaults, Brings, IsOver, sent_on, taken_from}
use Rattle.sr_message.specs.declared.message.Message.{Message}
use Rattle.sr_model.specs.Statements.{Tables}
use Rattle.sr_session.specs.Sessions.{Database}
use Rattle.sr_links.specs.Honest.{Server, Frame, answer, cut_off}
use Rattle.sr_talk.specs.Moves.{SendsInPart}
use Rattle.sr_talk.specs.Serving.{Answers, EndsAs, IsAccepted, IsRefused, frames_read, spelled}
use Rattle.sr_talk.specs.declared.serve.How.{How}
use Rattle.sr_talk.specs.declared.serve.How.TheVariants.{End, Torn, Fault, Refused as ByRefusal, Limit}
use Rattle.sr_talk.specs.declared.serve.Turn.{Turn}
use Rattle.sr_talk.specs.declared.serve.Turn.TheVariants.{Whole, Refused, Broken}

-- After a fault some of the bytes may be missing, and are where the limit is reached; else all were sent.
pub record SendsSome (frames : ℕ) (bytes : List ℕ) (before new : Linking) : Type 0 where
  pub count : ℕ
  pub within : count ≤ length bytes
  pub fewer : frames ≡ 1000000 → count < length bytes
  pub only : OnlyFaults (sent_on (take count bytes) before) new

abbrev pub SentOn : How → ℕ → List ℕ → Linking → Linking → Type 0
SentOn Fault frames bytes before new = SendsSome frames bytes before new
SentOn how frames bytes before new = new ≡ sent_on bytes before

-- The peer said no more, or a fault was counted.
abbrev pub ClosesAs : How → Linking → Linking → Type 0
ClosesAs End old new = IsOver new.present
ClosesAs Torn old new = IsOver new.present
ClosesAs Fault old new = Rose old.faults new.faults
ClosesAs how old new = Unit {0}

-- after how many whole frames it may end so
abbrev pub EndsAt : How → ℕ → Type 0
EndsAt Limit frames = frames ≡ 1000000
EndsAt Fault frames = frames ≤ 1000000
EndsAt ByRefusal frames = frames ≤ 1000000
EndsAt how frames = frames < 1000000

-- Where the link failed before all was sent, the session is closed.
abbrev pub LeftBy : Turn → (Server → Type 0) → Server → Type 0
LeftBy Broken IsNew = λ s. IsNew (cut_off s)
LeftBy turn IsNew = IsNew

-- after a fault the session may be closed
abbrev pub LeftAs : How → (Server → Type 0) → Server → Type 0
LeftAs Fault IsNew = λ s. IsNew s ⊎ IsNew (cut_off s)
LeftAs how IsNew = IsNew

module _ (Gives : Database → Message → Result Tables TheFault → Type 0) where
  -- The message is accepted, all that the rules give is to be sent, and the server stands so then.
  pub record Takes (s : Server) (m : Message) (sent : List Message) (IsNew : Server → Type 0) : Type 0 where
    pub result : Result Tables TheFault
    pub accepted : IsAccepted s m
    pub gives : Gives s.database m result
    pub sends : sent ≡ (answer s (Frame m result)).sent
    pub stands : IsNew (answer s (Frame m result)).server

  -- All that the rules give was sent; or the message was refused; or a part was sent.
  pub record Sends (s : Server) (m : Message) (old new : Linking) (IsNew : Server → Type 0) : Type 0 where
    pub sent : List Message
    pub takes : Takes s m sent IsNew
    pub is : new ≡ sent_on (spelled sent) old

  pub record Breaks (s : Server) (m : Message) (old new : Linking) (IsNew : Server → Type 0) : Type 0 where
    pub sent : List Message
    pub takes : Takes s m sent IsNew
    pub part : SendsPart old new (spelled sent)
    pub rose : Rose old.faults new.faults

  abbrev pub Turns : Turn → Server → Message → Linking → Linking → (Server → Type 0) → Type 0
  Turns Whole s m old new IsNew = Sends s m old new IsNew
  Turns Refused s m old new IsNew = IsRefused s m × (new ≡ old) × IsNew s
  Turns Broken s m old new IsNew = Breaks s m old new IsNew

  -- Out of memory: nothing was sent, or a part of all that the rules give.
  pub record SendsShort (s : Server) (m : Message) (old new : Linking) (IsNew : Server → Type 0) : Type 0 where
    pub sent : List Message
    pub takes : Takes s m sent IsNew
    pub part : SendsInPart old new (spelled sent)

  abbrev pub TurnsInPart : Server → Message → Linking → Linking → (Server → Type 0) → Type 0
  TurnsInPart s m old new IsNew = (new ≡ old) ⊎ SendsShort s m old new IsNew

  -- From this state of the server to that one: the frames that were read and answered, and what was left behind them. The count is of those
  -- that were read.
  pub record Talks (s : Server) (old new : Linking) (how : How) (count : ℕ) (IsNew : Server → Type 0) : Type 0 where
    pub frames : List Message
    pub sent : List Message
    pub left : List ℕ
    pub after : Server
    pub brings : Brings old.present (spelled frames ++ left)
    pub answers : Answers Gives s frames sent after
    pub is : SentOn how count (spelled sent) (taken_from (spelled frames ++ left) old) new
    pub ends : EndsAs how after left
    pub closes : ClosesAs how old new
    pub count_is : count ≡ frames_read how (length frames)
    pub counts : EndsAt how count
    pub stands : IsNew after

  -- Out of memory: the frames that were answered, what was taken behind them, and that what was sent begins the answers.
  pub record TalksInPart (s : Server) (old new : Linking) : Type 0 where
    pub frames : List Message
    pub sent : List Message
    pub left : List ℕ
    pub after : Server
    pub brings : Brings old.present (spelled frames ++ left)
    pub answers : Answers Gives s frames sent after
    pub some : SendsSome (length frames) (spelled sent) (taken_from (spelled frames ++ left) old) new
    pub faults_stay : new.faults ≡ old.faults
    pub few : length frames ≤ 1000000
