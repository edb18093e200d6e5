-- What the server does for a client is an event of the scene.
use Rattle.std.proofs.Common.{◌≡◌, ℕ, true, false, List, [], ◌∷◌, ◌++◌, length, refl, sym, ◌∙◌, ap, subst, Option, Some, None, Result, Ok, Err}
use Rattle.std.specs.Prelude.{◌↔◌, OnOk, IsNone}
use Rattle.std.specs.Option.{is_some}
use Rattle.std.specs.List.{list_all}
use Rattle.std.specs.Cmp.{first_so, second_so}
use Rattle.sr_cell.specs.declared.fault.Fault.{Fault}
use Rattle.sr_message.specs.declared.message.Message.{Message}
use Rattle.sr_script.specs.declared.line.TraceLine.TheVariants as line
use Rattle.sr_lines.specs.Events.{DoPush, DoToServer}
use Rattle.sr_model.specs.Statements.{Tables}
use Rattle.sr_session.specs.Sessions.{Database, Session, newest, serve_push, tables_of}
use Rattle.sr_session.specs.Clients.{Pair}
use Rattle.sr_session.specs.Refusals.{is_request_of, server_misfit}
use Rattle.sr_session.specs.Scenes.{PushClosed, PushTo, Pushed, Scene, ServerIdle, ServerTook, Taken, ToServer, given, push_closed, pushed, server_idle, server_took, taken}
use Rattle.sr_server.specs.declared.server.Server.{Server}
use Rattle.sr_server.specs.Servers.{IsServer, Takes, session_at, with_session}
use Rattle.sr_runs.specs.Lines.{served_line}
use Rattle.sr_runs.specs.Runs.{Acts, acts}
use Rattle.sr_runs.specs.Scripts.{gives_nothing, is_push, is_to_server}
use Rattle.sr_world.specs.declared.seat.Seat.{Seat}
use Rattle.sr_world.specs.Worlds.{IsSeat}
use Rattle.sr_wire.specs.declared.bad_frame.BadFrame.{BadFrame}
use Rattle.sr_world.specs.Seats.{SeatGoes, SeatStands}
use Rattle.sr_world.proofs.Over.{Grows, grows-none, grows-taken}
use Rattle.sr_world.proofs.Requests.{no-misfit}
use Rattle.sr_world.proofs.SeatLemmas.{pair-stands, seat-leads, seat-stays}
use Rattle.sr_world.proofs.Sound.{sound-of}
use Rattle.sr_world.proofs.Texts.{is-given}

-- ---- a push

pub push-is-closed : (old : Seat) (server : Server) → session_at server.sessions old.client.id ≡ None → SeatGoes (λ n s. Acts s (DoPush n)) old server old server (line.PushClosed old.client.id ∷ [])
push-is-closed old server none = λ s n h.
    let closed : h.pair.connection.session ≡ None = sym h.session ∙ subst (λ k. session_at server.sessions k ≡ None) h.seat.number none in
    seat-stays s n server server old (DoPush n) _ h refl
    (subst (λ k. Acts s (DoPush n) (line.PushClosed k ∷ []) s) (sym h.seat.number)
    (acts (DoPush n) (PushTo n) PushClosed s (is_push n) (push_closed n h.pair h.there closed)))

pub push-goes : (old new : Seat) (server after : Server) (session : Session) (sent : List Message)
    → session_at server.sessions old.client.id ≡ Some session
    → ((db : Database) → IsServer server db → sent ≡ (serve_push db session).sent)
    → ((db : Database) → IsServer server db → after ≡ record server { sessions = with_session server.sessions old.client.id (serve_push db session).session })
    → ((db : Database) → IsServer server db → IsServer after db)
    → new ≡ record old { to_client = old.to_client ++ sent }
    → SeatGoes (λ n s. Acts s (DoPush n)) old server new after (line.PushSent old.client.id (length sent) ∷ [])
push-goes old new server after session sent is sends makes stands made = λ s n h.
    let opened : h.pair.connection.session ≡ Some session = sym h.session ∙ subst (λ k. session_at server.sessions k ≡ Some session) h.seat.number is in
    let all : sent ≡ (serve_push s.database session).sent = sends s.database h.server in
    let next : Pair = given h.pair h.pair.connection.to_server (serve_push s.database session) in
    seat-leads s n server after new (DoPush n) (PushTo n) (Pushed (serve_push s.database session).sent) s.database h.pair next (line.PushSent old.client.id (length sent) ∷ [])
    h.number h.there h.stands h.server (is_push n) (pushed n h.pair session h.there opened)
    (rw (h.seat.number, all) refl) (grows-none s.database) (stands s.database h.server)
    (ap (λ (x : Server). x.sessions) (makes s.database h.server) ∙ ap (λ k. with_session server.sessions k (serve_push s.database session).session) h.seat.number)
    (subst (λ (seat : Seat). IsSeat s.database s.limits n seat next) (sym made) (record {
      number = h.seat.number;
      limits = h.seat.limits;
      regions = h.seat.regions;
      client = h.seat.client;
      to_server = h.seat.to_server;
      to_client = ap (λ ms. ms ++ sent) h.seat.to_client ∙ ap (λ ms. h.pair.connection.to_client ++ ms) all;
      requests = h.seat.requests;
    }))

-- ---- a delivery to the server

pub serve-idles : (old : Seat) (server : Server) → old.to_server ≡ [] → SeatGoes (λ n s. Acts s (DoToServer n)) old server old server (line.ServerEmpty old.client.id ∷ [])
serve-idles old server none = λ s n h.
    let empty : h.pair.connection.to_server ≡ [] = sym h.seat.to_server ∙ none in
    let nothing : Result Tables Fault = Ok (tables_of s.database (newest s.database)) in
    seat-stays s n server server old (DoToServer n) _ h refl
    (subst (λ k. Acts s (DoToServer n) (line.ServerEmpty k ∷ []) s) (sym h.seat.number)
    (acts (DoToServer n) (ToServer n nothing) ServerIdle s
    (is_to_server n h.pair nothing h.there (gives_nothing h.pair.connection.to_server (rw empty refl)))
    (server_idle n nothing h.pair h.there empty)))

-- the oldest message is a request that suits
record IsOldest (s : Scene) (n : ℕ) (old : Seat) (server : Server) (m : Message) (queue : List Message) (h : SeatStands s n old server) : Type 0 where
  first : h.pair.connection.to_server ≡ m ∷ queue
  is : is_request_of s.database.schema n m ≡ true
  others : list_all (is_request_of s.database.schema n) queue ≡ true

is-oldest : (s : Scene) (n : ℕ) (old : Seat) (server : Server) (m : Message) (queue : List Message) (h : SeatStands s n old server) → old.to_server ≡ m ∷ queue → IsOldest s n old server m queue h
is-oldest s n old server m queue h first =
    let all : list_all (is_request_of s.database.schema n) (m ∷ queue) ≡ true = subst (λ ms. list_all (is_request_of s.database.schema n) ms ≡ true) first h.seat.requests in
    record {
      first = sym h.seat.to_server ∙ first;
      is = first_so (is_request_of s.database.schema n m) (list_all (is_request_of s.database.schema n) queue) all;
      others = second_so (is_request_of s.database.schema n m) (list_all (is_request_of s.database.schema n) queue) all;
    }

-- and nothing stands against it
pub oldest-fits : (old : Seat) (server : Server) (m : Message) (queue : List Message) (s : Scene) (n : ℕ) → SeatStands s n old server → old.to_server ≡ m ∷ queue
    → server_misfit server.tables.schema (session_at server.sessions old.client.id) old.client.id m ≡ None
oldest-fits old server m queue s n h first =
    let o = is-oldest s n old server m queue h first in
    let none = no-misfit s.database n h.pair m queue (pair-stands s n old server h) o.first o.is in
    rw (h.server.knows.schema, h.seat.number, h.session) none

pub serve-goes : (old new : Seat) (server after : Server) (m : Message) (queue sent : List Message) → old.to_server ≡ m ∷ queue
    → ((db : Database) → IsServer server db → Takes db server old.client.id m sent after)
    → new ≡ record old { to_server = queue; to_client = old.to_client ++ sent }
    → SeatGoes (λ n s. Acts s (DoToServer n)) old server new after (served_line old.client.id (length sent) m)
serve-goes old new server after m queue sent first takes made = λ s n h.
    let db = s.database in
    let o = is-oldest s n old server m queue h first in
    let t : Takes db server old.client.id m sent after = takes db h.server in
    let session = h.pair.connection.session in
    let there : session_at server.sessions old.client.id ≡ session = ap (λ k. session_at server.sessions k) h.seat.number ∙ h.session in
    let g = is-given db session m queue t.result t.gives in
    let same : taken db (session_at server.sessions old.client.id) m t.result ≡ taken db session m g.given = ap (λ x. taken db x m t.result) there ∙ sym g.same in
    let d : Taken = taken db session m g.given in
    let all : sent ≡ d.served.sent = t.sends ∙ ap (λ (x : Taken). x.served.sent) same in
    let stands : IsServer after d.database = subst (λ (x : Taken). IsServer after x.database) same t.stands in
    let grows : Grows db d.database = grows-taken db session m g.given (sound-of d.database stands.sound) in
    let next : Pair = given h.pair queue d.served in
    seat-leads s n server after new (DoToServer n) (ToServer n g.given) (ServerTook m d.served.sent) d.database h.pair next (served_line old.client.id (length sent) m)
    h.number h.there h.stands h.server
    (is_to_server n h.pair g.given h.there (rw o.first g.gives))
    (server_took n g.given h.pair m queue h.there o.first)
    (rw (h.seat.number, all) refl) grows stands
    (t.sessions ∙ (ap (λ (x : Taken). with_session server.sessions old.client.id x.served.session) same ∙ ap (λ k. with_session server.sessions k d.served.session) h.seat.number))
    (subst (λ (seat : Seat). IsSeat d.database s.limits n seat next) (sym made) (record {
      number = h.seat.number;
      limits = h.seat.limits;
      regions = h.seat.regions;
      client = grows.clients h.pair.client old.client h.seat.client;
      to_server = refl;
      to_client = ap (λ ms. ms ++ sent) h.seat.to_client ∙ ap (λ ms. h.pair.connection.to_client ++ ms) all;
      requests = rw grows.schema o.others;
    }))

-- ---- what was answered

pub always-ok : {T E : Type 0} (P : Type 0) (r : Result T E) → P → OnOk r P
always-ok P (Ok x) p = p
always-ok P (Err e) p = tt

-- a server that answers messages has a session of the client
pub push-some : (old new : Seat) (server after : Server) (sent : List Message) (found : Option (List Message)) → found ≡ Some sent
    → IsNone found ↔ (session_at server.sessions old.client.id ≡ None)
    → ((db : Database) (session : Session) → IsServer server db → session_at server.sessions old.client.id ≡ Some session → found ≡ Some (serve_push db session).sent)
    → ((db : Database) (session : Session) → IsServer server db → session_at server.sessions old.client.id ≡ Some session
    → after ≡ record server { sessions = with_session server.sessions old.client.id (serve_push db session).session })
    → ((db : Database) → IsServer server db → IsServer after db)
    → new ≡ record old { to_client = old.to_client ++ sent }
    → SeatGoes (λ n s. Acts s (DoPush n)) old server new after (line.PushSent old.client.id (length sent) ∷ [])
push-some old new server after sent found is none sends makes stands made = by (session_at server.sessions old.client.id) refl
  where
    by : (session : Option Session) → session_at server.sessions old.client.id ≡ session → SeatGoes (λ n s. Acts s (DoPush n)) old server new after (line.PushSent old.client.id (length sent) ∷ [])
    by None at = absurd (let wrong : true ≡ false = ap (λ (o : Option (List Message)). is_some o) (sym is) ∙ none.1 at in cc)
    by (Some session) at =
        push-goes old new server after session sent at (λ db here. let e : Some sent ≡ Some (serve_push db session).sent = sym is ∙ sends db session here at in cc)
        (λ db here. makes db session here at) stands made

-- a message that fits is not refused
pub not-refused : (misfit : Option BadFrame) (why : BadFrame) → misfit ≡ None → misfit ≡ Some why → ⊥
not-refused misfit why fits bad = absurd (let wrong : None ≡ Some why = sym fits ∙ bad in cc)
