-- Which scenes a world stands for.
use Rattle.std.specs.Prelude.{ℕ, zero, suc, true, false, ◌+◌, ◌≤◌, ◌≡◌, ◌⊎◌, List, length, slice_get, sum_by, if◌then◌else◌, Option, Some, None}
use Rattle.std.specs.List.{list_all}
use Rattle.sr_cell.specs.Clients.{most_clients}
use Rattle.sr_log.specs.Held.{newest as newest_of}
use Rattle.sr_policy.specs.declared.policy.Limits.{Limits}
use Rattle.sr_script.specs.declared.line.TraceLine.{TraceLine}
use Rattle.sr_session.specs.Sessions.{Database}
use Rattle.sr_session.specs.Clients.{Pair}
use Rattle.sr_session.specs.Refusals.{is_request_of}
use Rattle.sr_session.specs.Scenes.{Scene, SceneStands, pair_at}
use Rattle.sr_client.specs.declared.client.Request as code
use Rattle.sr_client.specs.declared.client.Request.TheVariants.{Ask, Write, Resume}
use Rattle.sr_client.specs.Stands.{StandsOver}
use Rattle.sr_client.specs.Stands as client
use Rattle.sr_server.specs.Servers.{IsServer, session_at}
use Rattle.sr_world.specs.declared.seat.Seat.{Seat}
use Rattle.sr_world.specs.declared.world.World.{World}

-- Clients are numbered from 1.
abbrev pub seat_at : World → ℕ → Option Seat
seat_at w zero = None
seat_at w (suc n) = slice_get w.seats.items n

-- the number is that of a client of the world
abbrev pub IsNumber : World → ℕ → Type 0
IsNumber w n = (1 ≤ n) × (n ≤ length w.seats.items)

-- The client of that number stands for its past over the database, and may keep what each may, no more regions than the format has room
-- for; each queue has its messages; and what is on its way to the server are requests of this client.
pub record IsSeat (db : Database) (most : Limits) (n : ℕ) (seat : Seat) (pair : Pair) : Type 0 where
  pub number : seat.client.id ≡ n
  pub limits : seat.client.store.limits ≡ most
  pub regions : most.regions ≤ 1024
  pub client : StandsOver db pair.client seat.client
  pub to_server : seat.to_server ≡ pair.connection.to_server
  pub to_client : seat.to_client ≡ pair.connection.to_client
  pub requests : list_all (is_request_of db.schema n) seat.to_server ≡ true

-- The server is at the newest version and has the session of each client, there is a seat for each, and each stands.
pub record Represents (w : World) (s : Scene) : Type 0 where
  pub ready : w.spent ≡ false
  pub server : IsServer w.server s.database
  pub sessions : (n : ℕ) (pair : Pair) → pair_at s n ≡ Some pair → session_at w.server.sessions n ≡ pair.connection.session
  pub count : length w.seats.items ≡ length s.pairs
  pub few : length s.pairs ≤ most_clients
  pub seats : (n : ℕ) (seat : Seat) (pair : Pair) → seat_at w n ≡ Some seat → pair_at s n ≡ Some pair → IsSeat s.database s.limits n seat pair
  pub stands : SceneStands s

-- it stands for some scene
abbrev pub StandsForSome : World → Type 0
StandsForSome w = (s : Scene) × Represents w s

-- it stands for some scene, or memory was refused
abbrev pub IsWorld : World → Type 0
IsWorld w = (w.spent ≡ true) ⊎ StandsForSome w

-- From each scene that the world stood for the lines lead by this relation to one that it stands for now.
abbrev pub Goes : (Scene → List TraceLine → Scene → Type 0) → World → World → List TraceLine → Type 0
Goes Leads old new lines = (s : Scene) → Represents old s → (next : Scene) × Leads s lines next × Represents new next

-- what no step changes
pub record SameSetting (old new : World) : Type 0 where
  pub eager : new.eager ≡ old.eager
  pub count : length new.seats.items ≡ length old.seats.items
  pub schema : new.server.tables.schema ≡ old.server.tables.schema

-- ---- numbers

-- the numbers that were drawn for a client: of its queries, its requests and its cuts
abbrev pub drawn_by : Seat → ℕ
drawn_by seat = client.drawn seat.client + seat.client.cuts

-- the numbers that were drawn: the newest version, and those of each client
abbrev pub drawn : World → ℕ
drawn w = newest_of w.server.log + sum_by drawn_by w.seats.items

-- a step draws at most so many numbers, however many deliveries it makes
abbrev pub most_drawn : ℕ
most_drawn = 256

-- A client that has an ask out which is not fresh may ask a second time, by itself: that is one request, and one message.
abbrev pub rank : Option code.Request → ℕ
rank None = 0
rank (Some (Ask o)) = if o.fresh then 0 else 2
rank (Some (Write number)) = 0
rank (Some (Resume number)) = 0

-- the numbers that were drawn, and those that deliveries to this client and of its messages may still draw
abbrev pub weight : Seat → ℕ
weight seat = drawn_by seat + (length seat.to_server + rank seat.client.out)

-- No delivery makes this more.
abbrev pub potential : World → ℕ
potential w = newest_of w.server.log + sum_by weight w.seats.items
