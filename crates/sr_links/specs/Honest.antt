-- Lists of inputs of a server that explain what a client was sent.
use Rattle.std.specs.Prelude.{Bool, true, false, ◌||◌, ◌≤◌, List, [], ◌∷◌, ◌++◌, ◌⊎◌, ◌≡◌, Option, None, Result}
use Rattle.sr_cell.specs.declared.fault.Fault.{Fault}
use Rattle.sr_message.specs.declared.message.Message.{Message}
use Rattle.sr_model.specs.Statements.{Tables}
use Rattle.sr_policy.specs.declared.policy.Limits.{Limits}
use Rattle.sr_session.specs.Sessions.{Database, Session, newest, tables_of, with_version}
use Rattle.sr_session.specs.Clients.{Client}
use Rattle.sr_session.specs.Scenes.{Taken, taken}
use Rattle.sr_links.specs.Steps.{Step, Standing, Resumed, AreFair, AreAwaited, OnOne, given_of, requests_of, past_after, code_after}

-- A server as far as it matters to one client: all versions, and the client's session.
pub record Server : Type 0 where
  pub database : Database
  pub session : Option Session

-- A statement, or a write of another client, makes a version; to this client they are the same. Of a write of its own an input has
-- what its text gives on the newest tables. The session may be closed at any moment.
pub data Input : Type 0 where
  Version : (tables : Tables) → Input
  Frame : (message : Message) → (result : Result Tables Fault) → Input
  CutOff : Input

-- what an input makes of a server, and what is sent to this client
pub record Answer : Type 0 where
  pub server : Server
  pub sent : List Message

abbrev pub silent : Server → Answer
silent s = record { server = s; sent = [] }

abbrev pub cut_off : Server → Server
cut_off s = record s { session = None }

abbrev pub answered_by : Taken → Answer
answered_by t = record { server = record { database = t.database; session = t.served.session }; sent = t.served.sent }

abbrev pub answer : Server → Input → Answer
answer s (Version tables) = silent (record s { database = with_version s.database tables })
answer s (Frame m result) = answered_by (taken s.database s.session m result)
answer s CutOff = silent (cut_off s)

abbrev pub server_after : Server → List Input → Server
server_after s [] = s
server_after s (input ∷ inputs) = server_after (answer s input).server inputs

-- all that is sent to this client
abbrev pub sent_for : Server → List Input → List Message
sent_for s [] = []
sent_for s (input ∷ inputs) = (answer s input).sent ++ sent_for (answer s input).server inputs

abbrev pub frame_of : Input → List Message
frame_of (Version tables) = []
frame_of (Frame m result) = m ∷ []
frame_of CutOff = []

abbrev pub frames_of : List Input → List Message
frames_of [] = []
frames_of (input ∷ inputs) = frame_of input ++ frames_of inputs

pub record IsPrefix {X : Type 0} (few many : List X) : Type 0 where
  pub rest : List X
  pub all : many ≡ few ++ rest

-- The inputs explain what came on one connection: their frames are the requests that were sent, in order, of which the last ones may
-- be missing; and what came is the beginning of what is sent for them.
pub record Explains {C : Type 0} (s : Server) (inputs : List Input) (steps : List (Step C)) : Type 0 where
  pub frames : IsPrefix (frames_of inputs) (requests_of steps)
  pub given : IsPrefix (given_of steps) (sent_for s inputs)

-- ---- connections, one after another

-- what was done over one connection, from its resume to the next
pub record Talk (C : Type 0) : Type 0 where
  pub first : Step C
  pub others : List (Step C)

abbrev pub steps_in : {C : Type 0} → Talk C → List (Step C)
steps_in {C} talk = talk.first ∷ talk.others

abbrev pub steps_of : {C : Type 0} → List (Talk C) → List (Step C)
steps_of {C} [] = []
steps_of {C} (talk ∷ talks) = steps_in talk ++ steps_of talks

-- The list has a piece for each connection, which explains it.
abbrev pub IsHonest : {C : Type 0} → Server → List (List Input) → List (Talk C) → Type 0
IsHonest {C} s [] [] = Unit {0}
IsHonest {C} s (piece ∷ pieces) (talk ∷ talks) = Explains s piece (steps_in talk) × IsHonest (server_after s piece) pieces talks
IsHonest {C} s pieces talks = ⊥

abbrev pub server_at_last : Server → List (List Input) → Server
server_at_last s [] = s
server_at_last s (piece ∷ pieces) = server_at_last (server_after s piece) pieces

-- ---- clients over them

-- The link is cut, nothing is out, and the code has the rows of the client's version.
pub record Rests {C : Type 0} (IsOf : Standing C) (db : Database) (code : C) (c : Client) : Type 0 where
  pub cut : c.cut ≡ true
  pub out : c.out ≡ None
  pub laid : c.laid ≡ []
  pub version : c.version ≤ newest db
  pub is : IsOf db.schema code c (tables_of db c.version)

-- A client resumes, and goes on over this connection.
pub record IsTalk {C : Type 0} (IsOf : Standing C) (limits : Limits) (code : C) (c : Client) (talk : Talk C) : Type 0 where
  pub begins : talk.first.deed ≡ Resumed
  pub on_one : OnOne talk.first.past talk.others
  pub fair : AreFair IsOf limits code c (steps_in talk)
  pub awaited : AreAwaited c (steps_in talk)

-- A talk for each connection; behind each but the last the link is cut.
abbrev pub AreTalks : {C : Type 0} → Standing C → Limits → C → Client → List (Talk C) → Type 0
AreTalks {C} IsOf limits code c [] = Unit {0}
AreTalks {C} IsOf limits code c (talk ∷ talks) =
    IsTalk IsOf limits code c talk × ((past_after c (steps_in talk)).cut ≡ true ⊎ (talks ≡ []))
    × AreTalks IsOf limits (code_after code (steps_in talk)) (past_after c (steps_in talk)) talks

-- the session is closed somewhere among them
abbrev pub is_cut_off : Input → Bool
is_cut_off CutOff = true
is_cut_off other = false

abbrev pub has_cut : List Input → Bool
has_cut [] = false
has_cut (input ∷ inputs) = is_cut_off input || has_cut inputs

-- The session is closed behind each connection, and nowhere else.
abbrev pub IsClosedBehind : List Input → Type 0
IsClosedBehind piece = (inputs : List Input) × (piece ≡ inputs ++ CutOff ∷ []) × (has_cut inputs ≡ false)

abbrev pub AreClosedBehind : List (List Input) → Type 0
AreClosedBehind [] = Unit {0}
AreClosedBehind (piece ∷ pieces) = IsClosedBehind piece × AreClosedBehind pieces
