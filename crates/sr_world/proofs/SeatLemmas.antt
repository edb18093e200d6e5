-- What happens to one seat is an event of the scene.
use Rattle.std.proofs.Common.{◌≡◌, ℕ, zero, suc, true, List, [], ◌∷◌, ◌++◌, refl, sym, ◌∙◌, ap, subst, arith, Some}
use Rattle.std.specs.Prelude.{slice_get, slice_set}
use Rattle.std.specs.List.{list_all}
use Rattle.std.proofs.lemmas.List.{length-set}
use Rattle.std.proofs.lemmas.List.Folds.{list_all-append}
use Rattle.sr_script.specs.declared.line.TraceLine.{TraceLine}
use Rattle.sr_lines.specs.Events.{ScriptEvent}
use Rattle.sr_session.specs.Sessions.{Database}
use Rattle.sr_session.specs.Clients.{Client, Connection, Pair, Stands, is_down, is_open, is_resuming}
use Rattle.sr_session.specs.Refusals.{is_request_of}
use Rattle.sr_session.specs.Rules.{Outcome, sent_of}
use Rattle.sr_session.specs.Scenes.{Did, Event, Happens, Report, Scene, SceneStands, acted, pair_at, with_pair}
use Rattle.sr_session.proofs.EventLemmas.{at, events-keep, other-stays, same-pairs}
use Rattle.sr_session.proofs.ReachLemmas.{get-set-same}
use Rattle.sr_client.specs.Stands.{PromisesAreTrue, Stays, StandsOver}
use Rattle.sr_server.specs.declared.server.Server.{Server}
use Rattle.sr_server.specs.Servers.{IsClientNumber, IsServer, session_at, with_session}
use Rattle.sr_runs.specs.Lines.{lines_of}
use Rattle.sr_runs.specs.Runs.{Acts, acts}
use Rattle.sr_runs.specs.Scripts.{Is}
use Rattle.sr_world.specs.declared.seat.Seat.{Seat}
use Rattle.sr_world.specs.Worlds.{IsSeat}
use Rattle.sr_world.specs.Seats.{SeatLeads, SeatStands}
use Rattle.sr_world.proofs.Over.{Grows, grows-none}
use Rattle.sr_world.proofs.Sessions.{same-session, session-other, session-there}

-- ---- lists

pub set-same : {X : Type 0} (xs : List X) (i : ℕ) (x : X) → slice_get xs i ≡ Some x → slice_set xs i x ≡ xs
set-same {X} [] i x is = refl
set-same {X} (y ∷ xs) zero x is = let same : x ≡ y = cc in ap (λ z. z ∷ xs) same
set-same {X} (y ∷ xs) (suc i) x is = ap (λ zs. y ∷ zs) (set-same xs i x is)

pub put-same : (s : Scene) (n : ℕ) (pair : Pair) → pair_at s n ≡ Some pair → with_pair s n pair ≡ s
put-same s zero pair is = refl
put-same s (suc n) pair is = ap (λ (pairs : List Pair). record s { pairs = pairs }) (set-same s.pairs n pair is)

-- ---- one client of many

-- What comes first to a client that stands is truly promised.
pub promises-are-true : PromisesAreTrue
promises-are-true db pair m rest (is_open session stands) first = record { connection = pair.connection; session = session; is_open = stands; rest = rest; first = first }
promises-are-true db pair m rest (is_down down) first = absurd (let wrong : m ∷ rest ≡ [] = sym first ∙ down.to_client in cc)
promises-are-true db pair m rest (is_resuming resuming) first = absurd (let wrong : m ∷ rest ≡ [] = sym first ∙ resuming.to_client in cc)

pub pair-stands : (s : Scene) (n : ℕ) (seat : Seat) (server : Server) (h : SeatStands s n seat server) → Stands s.database h.pair
pair-stands s n seat server h = at s n h.pair h.stands h.there

-- ---- an event

-- by what it leaves of client n and of the database
pub seat-leads : (s : Scene) (n : ℕ) (old new : Server) (seat : Seat) (what : ScriptEvent) (event : Event) (report : Report) (db : Database) (pair next : Pair) (lines : List TraceLine)
    → IsClientNumber n → pair_at s n ≡ Some pair → SceneStands s → IsServer old s.database → Is s what event
    → Happens s event report (with_pair (record s { database = db }) n next) → lines ≡ lines_of event report → Grows s.database db
    → IsServer new db → new.sessions ≡ with_session old.sessions n next.connection.session → IsSeat db s.limits n seat next
    → SeatLeads (λ s. Acts s what) s n old seat new lines
seat-leads s zero old new seat what event report db pair next lines number there stands was is happens told grows server sessions own = absurd (omega (arith, number.0))
seat-leads s (suc m) old new seat what event report db pair next lines number there stands was is happens told grows server sessions own =
    let after : Scene = with_pair (record s { database = db }) (suc m) next in
    record {
      next = after;
      leads = subst (λ ls. Acts s what ls after) (sym told) (acts what event report after is happens);
      stands = record {
        number = number;
        pair = next;
        there = get-set-same s.pairs m pair next there;
        seat = own;
        server = server;
        session = ap (λ ss. session_at ss (suc m)) sessions ∙ session-there old.sessions (suc m) next.connection.session number was.count;
        stands = events-keep s after event report stands happens;
      };
      others = record {
        limits = refl;
        count = length-set s.pairs m next;
        schema = grows.schema;
        pairs = λ k differ. other-stays (record s { database = db }) (suc m) next k differ ∙ same-pairs s (record s { database = db }) k refl;
        sessions = λ k other differ. ap (λ ss. session_at ss k) sessions ∙ session-other old.sessions (suc m) k next.connection.session number other differ;
        clients = grows.clients;
      };
    }

-- nothing changes
pub seat-stays : (s : Scene) (n : ℕ) (old new : Server) (seat : Seat) (what : ScriptEvent) (lines : List TraceLine) → SeatStands s n seat old → new ≡ old → Acts s what lines s
    → SeatLeads (λ s. Acts s what) s n old seat new lines
seat-stays s n old new seat what lines h same act = subst (λ (server : Server). SeatLeads (λ s. Acts s what) s n old seat server lines) (sym same) (record {
  next = s;
  leads = act;
  stands = h;
  others = record {
    limits = refl;
    count = refl;
    schema = refl;
    pairs = λ k differ. refl;
    sessions = λ k other differ. refl;
    clients = λ past c stands. stands;
  };
})

-- ---- what a client does

-- A client comes to a next past, and what it sends stands last in the queue.
pub client-leads : (s : Scene) (n : ℕ) (old new : Seat) (server : Server) (what : ScriptEvent) (event : Event) (l : Connection) (o : Outcome) (next : Client) (lines : List TraceLine)
    (h : SeatStands s n old server) → l.session ≡ h.pair.connection.session → l.to_server ≡ h.pair.connection.to_server
    → Stays old.client new.client → StandsOver s.database next new.client
    → new.to_server ≡ old.to_server ++ sent_of o → new.to_client ≡ l.to_client → list_all (is_request_of s.database.schema n) (sent_of o) ≡ true
    → Is s what event → Happens s event (Did o) (with_pair s n (acted next l o)) → lines ≡ lines_of event (Did o)
    → SeatLeads (λ s. Acts s what) s n server new server lines
client-leads s n old new server what event l o next lines h session queue stays stands sent queued requests is happens told =
    seat-leads s n server server new what event (Did o) s.database h.pair (acted next l o) lines h.number h.there h.stands h.server is happens told (grows-none s.database) h.server
    (sym (ap (λ x. with_session server.sessions n x) session ∙ same-session server.sessions n h.pair.connection.session h.session))
    (record {
      number = stays.id ∙ h.seat.number;
      limits = stays.limits ∙ h.seat.limits;
      regions = h.seat.regions;
      client = stands;
      to_server = sent ∙ ap (λ ms. ms ++ sent_of o) (h.seat.to_server ∙ sym queue);
      to_client = queued;
      requests = ap (list_all (is_request_of s.database.schema n)) sent
          ∙ (list_all-append (is_request_of s.database.schema n) old.to_server (sent_of o) ∙ rw (h.seat.requests, requests) refl);
    })
