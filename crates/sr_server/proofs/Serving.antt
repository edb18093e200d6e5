-- What requests make of a session is what the rules say.
use Rattle.std.proofs.Common.{◌≡◌, ℕ, ◌-◌, ◌<◌, ◌≤◌, Bool, true, false, List, [], ◌∷◌, ◌++◌, map, refl, ◌∙◌, ap, subst, arith, Option, Some}
use Rattle.std.specs.Prelude.{nat_le, if◌then◌else◌}
use Rattle.std.proofs.lemmas.Bool.Decides.{nat_tests}
use Rattle.std.proofs.lemmas.Bool.{le-leb}
use Rattle.sr_message.specs.declared.message.AskPart.{AskPart}
use Rattle.sr_message.specs.declared.message.Holding.{Holding}
use Rattle.sr_message.specs.declared.message.Message.{Message}
use Rattle.sr_message.specs.declared.message.Message.TheVariants.{Welcome, Reply, Written}
use Rattle.sr_log.specs.declared.entry.Entry.{Entry}
use Rattle.sr_log.specs.Held.{Held, entries_above}
use Rattle.sr_log.specs.Held as log
use Rattle.sr_model.specs.Statements.{Tables}
use Rattle.sr_session.specs.Sessions.{Database, Served, Session, due, floor_of, holding_of, newest, notices, opened, reply_messages, row_messages, serve_ask, serve_resume, tables_of}
use Rattle.sr_tables.specs.Stored.{Stored}
use Rattle.sr_outbox.specs.Noticed.{noticed}
use Rattle.sr_server.specs.Servers.{Knows, Logs, gone_on}
use Rattle.sr_server.proofs.Entries.{entries-noticed, made-of, newest-is, not-below, session-of}

abbrev pub served-of : Option Session → List Message → Served
served-of session sent = record { session = session; sent = sent }

served-same : (one other : Session) (sent more : List Message) → one ≡ other → sent ≡ more → served-of (Some one) sent ≡ served-of (Some other) more
served-same one other sent more session messages = ap (λ s. served-of (Some s) sent) session ∙ ap (λ ms. served-of (Some other) ms) messages

-- ---- an ask

asked : (db : Database) (session : Session) (number : ℕ) (fresh : Bool) (parts : List AskPart)
    → served-of (Some (session-of session.wire ((if fresh then [] else (due db session).subscription) ++ map (holding_of session.wire) parts) (newest db))) ((if fresh then [] else (due db session).sent) ++ reply_messages db number parts)
    ≡ serve_ask db session number fresh parts
asked db session number true parts = refl
asked db session number false parts = refl

reply-is : (db : Database) (stored : Stored) (held : Held) (number v : ℕ) (parts : List AskPart) (rest : List Message) → Knows stored held db → rest ≡ row_messages stored.rows number 0 parts ++ Reply number v ∷ [] → v ≡ log.newest held
    → rest ≡ reply_messages db number parts
reply-is db stored held number v parts rest knows is at =
    is ∙ (ap (λ (rows : Tables). row_messages rows number 0 parts ++ Reply number v ∷ []) knows.rows
    ∙ ap (λ w. row_messages (tables_of db (newest db)) number 0 parts ++ Reply number w ∷ []) (at ∙ newest-is db held knows.log))

pub ask-served : (db : Database) (stored : Stored) (held : Held) (session mid inside : Session) (number v : ℕ) (fresh : Bool) (parts : List AskPart) (subs : List Holding) (sent rest all : List Message)
    → Knows stored held db → sent ≡ (if fresh then [] else (due db session).sent)
    → mid ≡ session-of session.wire (if fresh then [] else (due db session).subscription) (newest db) → inside ≡ mid → subs ≡ inside.subscription ++ map (holding_of inside.wire) parts
    → rest ≡ row_messages stored.rows number 0 parts ++ Reply number v ∷ [] → v ≡ log.newest held → all ≡ sent ++ rest
    → served-of (Some (session-of inside.wire subs inside.upto)) all ≡ serve_ask db session number fresh parts
ask-served db stored held session mid inside number v fresh parts subs sent rest all knows first before same added reply at made =
    let there = same ∙ before in
    served-same (session-of inside.wire subs inside.upto) (session-of session.wire ((if fresh then [] else (due db session).subscription) ++ map (holding_of session.wire) parts) (newest db)) all ((if fresh then [] else (due db session).sent) ++ reply_messages db number parts)
    (made-of inside.wire session.wire subs ((if fresh then [] else (due db session).subscription) ++ map (holding_of session.wire) parts) inside.upto (newest db) (ap (λ (s : Session). s.wire) there)
    (added ∙ ap (λ (s : Session). s.subscription ++ map (holding_of s.wire) parts) there) (ap (λ (s : Session). s.upto) there))
    (made ∙ (ap (λ ms. ms ++ rest) first ∙ ap (λ ms. (if fresh then [] else (due db session).sent) ++ ms) (reply-is db stored held number v parts rest knows reply at)))
    ∙ asked db session number fresh parts

-- ---- a session begins

pub anew-served : (db : Database) (held : Held) (wire number v : ℕ) (subs : List Holding) (before sent : List Message) → Logs db held → subs ≡ [] → v ≡ log.newest held → before ≡ [] → sent ≡ before ++ Welcome number v false ∷ []
    → served-of (Some (session-of wire subs v)) sent ≡ served-of (opened db wire []) (Welcome number (newest db) false ∷ [])
anew-served db held wire number v subs before sent keeps none at empty made =
    served-same (session-of wire subs v) (session-of wire [] (newest db)) sent (Welcome number (newest db) false ∷ [])
    (made-of wire wire subs [] v (newest db) refl none (at ∙ newest-is db held keeps))
    (made ∙ (ap (λ ms. ms ++ Welcome number v false ∷ []) empty ∙ ap (λ w. Welcome number w false ∷ []) (at ∙ newest-is db held keeps)))

not-yet : (v n : ℕ) → n < v → nat_le v n ≡ false
not-yet v n later = grind (arith, nat_tests, later)

-- at a version that is not there yet
pub later-resume : (db : Database) (held : Held) (wire number version v : ℕ) (holdings : List Holding) → Logs db held → v ≡ log.newest held → v < version
    → served-of (opened db wire []) (Welcome number (newest db) false ∷ []) ≡ serve_resume db wire number version holdings
later-resume db held wire number version v holdings keeps at later =
    let above : newest db < version = omega (arith, later, at, newest-is db held keeps) in
    rw (not-yet version (newest db) above) refl

-- at a version that the log has dropped
pub dropped-resume : (db : Database) (held : Held) (wire number version : ℕ) (holdings : List Holding) → Logs db held → version < held.floor
    → served-of (opened db wire []) (Welcome number (newest db) false ∷ []) ≡ serve_resume db wire number version holdings
dropped-resume db held wire number version holdings keeps below = by (nat_le version (newest db)) refl
  where
    dropped : nat_le (floor_of db) version ≡ false
    dropped = not-yet (floor_of db) version (subst (λ f. version < f) keeps.2 below)

    by : (b : Bool) → nat_le version (newest db) ≡ b → served-of (opened db wire []) (Welcome number (newest db) false ∷ []) ≡ serve_resume db wire number version holdings
    by true is = rw (is, dropped) refl
    by false is = rw is refl

-- at a version from which the log reaches on
pub kept-resume : (db : Database) (held : Held) (wire number version v : ℕ) (holdings : List Holding) (entries : List Entry) → Logs db held → v ≡ log.newest held → version ≤ v → (version < held.floor → ⊥)
    → entries ≡ entries_above version held
    → served-of (Some (session-of wire holdings (log.newest held))) (noticed holdings entries ++ Welcome number (log.newest held) true ∷ []) ≡ serve_resume db wire number version holdings
kept-resume db held wire number version v holdings entries keeps at within there are =
    let up : version ≤ newest db = omega (arith, within, at, newest-is db held keeps) in
    let le : held.floor ≤ version = not-below version held.floor there in
    let floor : floor_of db ≤ version = subst (λ f. f ≤ version) keeps.2 le in
    served-same (session-of wire holdings (log.newest held)) (session-of wire holdings (newest db)) (noticed holdings entries ++ Welcome number (log.newest held) true ∷ [])
    (notices db holdings version (newest db - version) ++ Welcome number (newest db) true ∷ [])
    (made-of wire wire holdings holdings (log.newest held) (newest db) refl refl (newest-is db held keeps))
    (ap (λ es. noticed holdings es ++ Welcome number (log.newest held) true ∷ []) are
    ∙ (ap (λ ms. ms ++ Welcome number (log.newest held) true ∷ []) (entries-noticed db held holdings version keeps le up)
    ∙ ap (λ w. notices db holdings version (newest db - version) ++ Welcome number w true ∷ []) (newest-is db held keeps)))
    ∙ rw (le-leb version (newest db) up, le-leb (floor_of db) version floor) refl

-- behind what its client is told
pub back-served : (held : Held) (wire number v : ℕ) (subs : List Holding) (entries : List Entry) (told sent : List Message) → told ≡ noticed subs entries
    → sent ≡ told ++ Welcome number v true ∷ [] → v ≡ log.newest held → served-of (Some (session-of wire subs v)) sent ≡ gone_on held wire number subs entries
back-served held wire number v subs entries told sent is made at =
    served-same (session-of wire subs v) (session-of wire subs (log.newest held)) sent (noticed subs entries ++ Welcome number (log.newest held) true ∷ [])
    (ap (session-of wire subs) at)
    (made ∙ (ap (λ ms. ms ++ Welcome number v true ∷ []) is ∙ ap (λ w. noticed subs entries ++ Welcome number w true ∷ []) at))

-- ---- a write

pub written-sent : (db : Database) (held : Held) (session : Session) (number v : ℕ) (before sent : List Message) → Logs db held → before ≡ (due db session).sent → sent ≡ before ++ Written number v ∷ [] → v ≡ log.newest held
    → sent ≡ (due db session).sent ++ Written number (newest db) ∷ []
written-sent db held session number v before sent keeps first made at =
    made ∙ (ap (λ ms. ms ++ Written number v ∷ []) first ∙ ap (λ w. (due db session).sent ++ Written number w ∷ []) (at ∙ newest-is db held keeps))
