-- What events and deliveries do to a seat and the server.
use Rattle.std.specs.Prelude.{ℕ, Bool, true, false, ◌+◌, ◌≡◌, ◌++◌, List, [], ◌∷◌, length, if◌then◌else◌, Some}
use Rattle.sr_message.specs.declared.message.Message.{Message}
use Rattle.sr_script.specs.declared.line.TraceLine.{TraceLine}
use Rattle.sr_session.specs.Clients as session
use Rattle.sr_session.specs.Clients.{Pair}
use Rattle.sr_session.specs.Scenes.{Scene, SceneStands, pair_at}
use Rattle.sr_client.specs.declared.client.Client.{Client}
use Rattle.sr_client.specs.Stands.{StandsOver}
use Rattle.sr_server.specs.declared.server.Server.{Server}
use Rattle.sr_server.specs.Servers.{IsClientNumber, IsServer, session_at}
use Rattle.sr_runs.specs.Runs.{Settles}
use Rattle.sr_world.specs.declared.seat.Seat.{Seat}
use Rattle.sr_world.specs.Worlds.{IsSeat}

-- The seat is that of client n of the scene, and the server has its session.
pub record SeatStands (s : Scene) (n : ℕ) (own : Seat) (other : Server) : Type 0 where
  pub number : IsClientNumber n
  pub pair : Pair
  pub there : pair_at s n ≡ Some pair
  pub seat : IsSeat s.database s.limits n own pair
  pub server : IsServer other s.database
  pub session : session_at other.sessions n ≡ pair.connection.session
  pub stands : SceneStands s

-- What is not client n's stays: the other pairs and their sessions, and each client that stood over the database does so over the next.
pub record LeavesOthers (s next : Scene) (n : ℕ) (old new : Server) : Type 0 where
  pub limits : next.limits ≡ s.limits
  pub count : length next.pairs ≡ length s.pairs
  pub schema : next.database.schema ≡ s.database.schema
  pub pairs : (k : ℕ) → (k ≡ n → ⊥) → pair_at next k ≡ pair_at s k
  pub sessions : (k : ℕ) → IsClientNumber k → (k ≡ n → ⊥) → session_at new.sessions k ≡ session_at old.sessions k
  pub clients : (past : session.Client) (c : Client) → StandsOver s.database past c → StandsOver next.database past c

-- The lines lead by the relation to a scene of which the seat is client n's still, and in which nothing else has changed.
pub record SeatLeads (Leads : Scene → List TraceLine → Scene → Type 0) (s : Scene) (n : ℕ) (old : Server) (seat : Seat) (new : Server)
    (lines : List TraceLine) : Type 0 where
  pub next : Scene
  pub leads : Leads s lines next
  pub stands : SeatStands next n seat new
  pub others : LeavesOthers s next n old new

-- for each client of each scene that the seat and the server stood for
abbrev pub SeatGoes : (ℕ → Scene → List TraceLine → Scene → Type 0) → Seat → Server → Seat → Server → List TraceLine → Type 0
SeatGoes Leads old server new after lines = (s : Scene) (n : ℕ) → SeatStands s n old server → SeatLeads (Leads n) s n server new after lines

-- they stand for some client of some scene
abbrev pub IsSomeSeat : Seat → Server → Type 0
IsSomeSeat seat server = (s : Scene) × (n : ℕ) × SeatStands s n seat server

-- So many deliveries of client n: what settles from the last scene settles from the first one with them.
abbrev pub Delivers : ℕ → ℕ → Scene → List TraceLine → Scene → Type 0
Delivers frames n s lines next =
    (more : ℕ) (rest : List TraceLine) (last : Scene) → Settles n next more rest last → Settles n s (frames + more) (lines ++ rest) last

-- ---- mail

-- some message is on its way
abbrev pub has_mail : List Message → List Message → Bool
has_mail [] [] = false
has_mail [] (m ∷ to_client) = true
has_mail (m ∷ to_server) to_client = true

abbrev pub mail : List Message → List Message → ℕ
mail to_server to_client = if has_mail to_server to_client then 1 else 0
