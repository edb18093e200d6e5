-- What a run of `serve` did.
use Rattle.std.specs.Prelude.{ℕ, Bool, true, false, ◌==◌, if◌then◌else◌, ◌+◌, ◌-◌, ◌^◌, min, ◌<◌, ◌≤◌, List, [], ◌∷◌, ◌++◌, length, flat_map, decimal, codes, ◌≡◌, ◌≢◌, Option, None, Result, Ok, Err, IfSome, IsTrue, option_to_list}
use Rattle.std.specs.List.{All}
use Rattle.sr_cell.specs.declared.fault.Fault.{Fault as TheFault}
use Rattle.sr_io.specs.Told.{Linking, Connection, AreAt, connections}
use Rattle.sr_message.specs.declared.message.Message.{Message}
use Rattle.sr_message.specs.declared.message.Message.TheVariants.{Hello, Resume, Write}
use Rattle.sr_model.specs.Statements.{Tables}
use Rattle.sr_wire.specs.declared.wire_fault.WireFault.{WireFault}
use Rattle.sr_wire.specs.declared.wire_fault.WireFault.TheVariants.{Short}
use Rattle.sr_wire.specs.Reading.{decoded, Faulty}
use Rattle.sr_wire.specs.Spelling.{has_spelling, spelling}
use Rattle.sr_script.specs.TraceText.{fault_words, ended}
use Rattle.sr_session.specs.Sessions.{Database, newest, with_version}
use Rattle.sr_session.specs.Refusals.{server_misfit}
use Rattle.sr_links.specs.Honest.{Server, Frame, answer, IsPrefix}
use Rattle.sr_talk.specs.declared.serve.How.{How}
use Rattle.sr_talk.specs.declared.serve.How.TheVariants.{End, Torn, Fault, Bad, Refused, Limit}

-- ---- bytes

-- the first bytes of a frame, and not all
abbrev pub IsShort : List ℕ → Type 0
IsShort bytes = decoded bytes ≡ Faulty Short

-- no frame begins so
abbrev pub IsFaulty : List ℕ → Type 0
IsFaulty bytes = (fault : WireFault) × (decoded bytes ≡ Faulty fault) × (fault ≢ Short)

-- the frames of messages, one behind the other
abbrev pub spelled : List Message → List ℕ
spelled messages = flat_map spelling messages

-- ---- one connection

-- The number of the client that a message names. Where it names none, any number will do: of other messages only that is asked whether
-- a session is open.
abbrev pub named : Message → ℕ
named (Hello wire client number) = client
named (Resume wire client number version holdings) = client
named other = 1

-- A message must be refused on a connection with this session. The first message that is not refused names the client; a second
-- greeting is refused whichever client it names.
abbrev pub IsRefused : Server → Message → Type 0
IsRefused s m = server_misfit s.database.schema s.session (named m) m ≢ None

abbrev pub IsAccepted : Server → Message → Type 0
IsAccepted s m = server_misfit s.database.schema s.session (named m) m ≡ None

-- what stands behind the frames that were answered, where the connection ended so
abbrev pub EndsAs : How → Server → List ℕ → Type 0
EndsAs End s left = left ≡ []
EndsAs Torn s left = (left ≢ []) × IsShort left
EndsAs Fault s left = Unit {0}
EndsAs Bad s left = IsFaulty left
EndsAs Refused s left = (m : Message) × (rest : List ℕ) × (left ≡ spelling m ++ rest) × IsTrue (has_spelling m) × IsRefused s m
EndsAs Limit s left = Unit {0}

-- It ended by the limit just where so many frames were answered in full.
abbrev pub CountsAs : How → ℕ → Type 0
CountsAs Limit frames = frames ≡ 1000000
CountsAs Fault frames = frames ≤ 1000000
CountsAs how frames = frames < 1000000

-- after a fault behind so many frames fewer bytes than all were sent
abbrev pub FewerAs : How → ℕ → ℕ → ℕ → Type 0
FewerAs Fault frames sent all = frames ≡ 1000000 → sent < all
FewerAs how frames sent all = Unit {0}

-- after a fault the bytes sent are a beginning of all
abbrev pub SentAs : How → List ℕ → List ℕ → Type 0
SentAs Fault sent all = IsPrefix sent all
SentAs how sent all = sent ≡ all

-- to the end, where the peer said no more
abbrev pub IsWholeAs : How → List ℕ → Type 0
IsWholeAs End coming = coming ≡ []
IsWholeAs Torn coming = coming ≡ []
IsWholeAs how coming = Unit {0}

-- One connection: the frames that were answered, how it ended, and the connection, where the link tells it. A frame that was refused is
-- not among them.
pub record Conversation : Type 0 where
  pub frames : List Message
  pub how : How
  pub told : Option Connection

-- all connections that the link tells
abbrev pub all_told : List Conversation → List Connection
all_told [] = []
all_told (c ∷ cs) = option_to_list c.told ++ all_told cs

-- A link that tells the address at which its peers connect, and the peers, tells each of these connections: none is made up.
abbrev pub AreTold : Linking → List Conversation → Type 0
AreTold l conversations = IfSome l.docked (λ address. IfSome l.peers (λ peers. All (λ (c : Conversation). c.told ≢ None) conversations))

abbrev pub by_fault : How → Bool
by_fault Fault = true
by_fault how = false

abbrev pub is_fault : How → ℕ
is_fault Fault = 1
is_fault how = 0

-- No fault of the link is counted, unless the connection ended by one.
abbrev pub QuietAs : How → ℕ → ℕ → Type 0
QuietAs Fault before now = Unit {0}
QuietAs how before now = now ≡ before

abbrev pub count_faults : List Conversation → ℕ
count_faults [] = 0
count_faults (c ∷ cs) = is_fault c.how + count_faults cs

-- ---- its output

abbrev pub how_text : How → List ℕ
how_text End = codes "end"
how_text Torn = codes "torn"
how_text Fault = codes "fault"
how_text Bad = codes "bad"
how_text Refused = codes "bad"
how_text Limit = codes "limit"

-- how many whole frames were read: those that were answered, and the one that was refused
abbrev pub frames_read : How → ℕ → ℕ
frames_read Refused answered = answered + 1
frames_read how answered = answered

-- a line for each connection, which are counted from 1
abbrev pub connection_line : ℕ → How → ℕ → List ℕ
connection_line i how frames = ended (codes "connection" ∷ decimal i ∷ how_text how ∷ decimal frames ∷ [])

abbrev pub connection_lines : ℕ → List Conversation → List (List ℕ)
connection_lines i [] = []
connection_lines i (c ∷ cs) = connection_line i c.how (frames_read c.how (length c.frames)) ∷ connection_lines (i + 1) cs

-- a line for each statement of the exec file, with the versions before it
abbrev pub exec_line : Database → Result Tables TheFault → List ℕ
exec_line db (Ok tables) = ended (codes "exec" ∷ codes "version" ∷ decimal (newest db + 1) ∷ [])
exec_line db (Err fault) = ended (codes "exec" ∷ codes "refused" ∷ fault_words fault)

abbrev pub grown : Database → Result Tables TheFault → Database
grown db (Ok tables) = with_version db tables
grown db (Err fault) = db

abbrev pub listening : List ℕ
listening = ended (codes "listening" ∷ [])

-- A beginning of the lines is written; with status 0 all of them, and with 5 whole ones.
pub record Writes (status : ℕ) (lines : List (List ℕ)) (written : List ℕ) : Type 0 where
  pub some : List (List ℕ)
  pub more : List (List ℕ)
  pub are : lines ≡ some ++ more
  pub beginning : IsPrefix written (flat_map (λ line. line) lines)
  pub all : status ≡ 0 → (more ≡ []) × (written ≡ flat_map (λ line. line) some)
  pub whole : status ≡ 5 → written ≡ flat_map (λ line. line) some

-- a count rose by so many at least, or stands at its type's end
abbrev pub RoseBy : ℕ → ℕ → ℕ → Type 0
RoseBy before count now = min (before + count) (2 ^ 64 - 1) ≤ now

-- what went wrong outside of the connections: a dock or an accept that failed
abbrev pub missing : ℕ → ℕ → ℕ → ℕ
missing status conversations count = if status == 5 then min 1 (count - conversations) else 0

-- ---- a run

-- The parameter: what the text of a message gives on the newest tables, if it is a write.
module _ (Gives : Database → Message → Result Tables TheFault → Type 0) where
  -- Each frame is one of the format, is accepted, and is answered by all that the rules give.
  abbrev pub Answers : Server → List Message → List Message → Server → Type 0
  Answers s [] sent last = (sent ≡ []) × (last ≡ s)
  Answers s (m ∷ frames) sent last =
      (result : Result Tables TheFault) × (more : List Message) × IsTrue (has_spelling m) × IsAccepted s m × Gives s.database m result
      × (sent ≡ (answer s (Frame m result)).sent ++ more) × Answers (answer s (Frame m result)).server frames more last

  -- With the versions before it, and the server after it. The bytes that were taken are the frames and those left behind them; the
  -- bytes that were sent are all answers.
  pub record IsServed (db : Database) (c : Conversation) (last : Server) : Type 0 where
    pub sent : List Message
    pub left : List ℕ
    pub answers : Answers (record { database = db; session = None }) c.frames sent last
    pub ends : EndsAs c.how last left
    pub taken : IfSome c.told (λ t. t.taken ≡ spelled c.frames ++ left)
    pub bytes : IfSome c.told (λ t. SentAs c.how t.sent (spelled sent))
    pub whole : IfSome c.told (λ t. IsWholeAs c.how t.coming)
    pub counts : CountsAs c.how (length c.frames)
    pub fewer : IfSome c.told (λ t. FewerAs c.how (length c.frames) (length t.sent) (length (spelled sent)))

  -- A connection that was cut short, out of memory, is one that failed: what was sent begins the answers.
  pub record IsCutShort (db : Database) (c : Conversation) : Type 0 where
    pub failed : c.how ≡ Fault
    pub after : Server
    pub is : IsServed db c after

  -- One connection after another; the session is cut after each.
  abbrev pub AreServed : Database → List Conversation → Database → Type 0
  AreServed db [] last = last ≡ db
  AreServed db (c ∷ cs) last = (s : Server) × IsServed db c s × AreServed s.database cs last

  -- The statements of the exec file, one behind the other, with the versions that they make and a line for each.
  abbrev pub AreExecuted : Database → List (List ℕ) → List (List ℕ) → Database → Type 0
  AreExecuted db [] lines last = (lines ≡ []) × (last ≡ db)
  AreExecuted db (text ∷ texts) lines last =
      (result : Result Tables TheFault) × (more : List (List ℕ)) × Gives db (Write 0 text) result × (lines ≡ exec_line db result ∷ more) × AreExecuted (grown db result) texts more last

  -- A run: from the loaded tables, over the texts of the exec file, for so many connections, which came at this address, and each of
  -- which the link tells, where it tells its peers. It ended with this status, wrote these bytes, and left the link so: down, where any
  -- connection came.
  pub record Served (db : Database) (texts : List (List ℕ)) (address : List ℕ) (count status : ℕ) (old new : Linking) (written : List ℕ) : Type 0 where
    pub exec_lines : List (List ℕ)
    pub first : Database
    pub conversations : List Conversation
    pub last : Database
    pub executed : AreExecuted db texts exec_lines first
    pub served : AreServed first conversations last
    pub made : connections new ≡ connections old ++ all_told conversations
    pub came_at : AreAt address (all_told conversations)
    pub each_told : AreTold old conversations
    pub hung_up : conversations ≢ [] → new.is_up ≡ false
    pub writes : Writes status (listening ∷ exec_lines ++ connection_lines 1 conversations) written
    pub few : length conversations ≤ count
    pub all : status ≡ 0 → (length conversations ≡ count) × (count_faults conversations ≡ 0)
    pub counted : RoseBy old.faults (count_faults conversations + missing status (length conversations) count) new.faults
    pub quiet : status ≡ 0 → new.faults ≡ old.faults

  -- A run that was out of memory: the connections that were over, and the one that was cut short, if there was one. A beginning of the
  -- lines was written, and all of them before a connection was cut short.
  pub record ServedInPart (db : Database) (texts : List (List ℕ)) (address : List ℕ) (count : ℕ) (old new : Linking) (written : List ℕ) : Type 0 where
    pub exec_lines : List (List ℕ)
    pub first : Database
    pub conversations : List Conversation
    pub last : Database
    pub cut_short : Option Conversation
    pub executed : AreExecuted db texts exec_lines first
    pub served : AreServed first conversations last
    pub is_cut_short : IfSome cut_short (IsCutShort last)
    pub made : connections new ≡ connections old ++ all_told (conversations ++ option_to_list cut_short)
    pub came_at : AreAt address (all_told (conversations ++ option_to_list cut_short))
    pub each_told : AreTold old (conversations ++ option_to_list cut_short)
    pub writes : Writes 9 (listening ∷ exec_lines ++ connection_lines 1 conversations) written
    pub all_before : cut_short ≢ None → written ≡ flat_map (λ line. line) (listening ∷ exec_lines ++ connection_lines 1 conversations)
    pub few : length (conversations ++ option_to_list cut_short) ≤ count
    pub counted : RoseBy old.faults (count_faults conversations) new.faults
    pub quiet : count_faults conversations ≡ 0 → new.faults ≡ old.faults
