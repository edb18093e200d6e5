-- What a server makes of a message, by what it makes of its parts.
use Rattle.std.proofs.Common.{◌≡◌, ℕ, ◌-◌, ◌<◌, ◌≤◌, ◌^◌, true, List, [], ◌∷◌, length, refl, sym, ◌∙◌, ap, subst, arith, inl, inr, Option, Some, None, Result, Ok, Err}
use Rattle.std.specs.Prelude.{◌⊎◌, ◌+◌, ◌↔◌, IfOk, OnErr, nat_lt}
use Rattle.std.specs.Result.{IsErrAnd}
use Rattle.std.specs.List.{All}
use Rattle.std.proofs.lemmas.Bool.Decides.{nat_tests}
use Rattle.std.proofs.lemmas.List.{get_or-set_same, length-append, length-set}
use Rattle.sr_cell.specs.declared.fault.Fault.{Fault}
use Rattle.sr_cell.specs.declared.table.Table.{Table}
use Rattle.sr_grammar.specs.Says.{Says}
use Rattle.sr_grammar.specs.Trees.{Statement, Create, Selects, Inserts, Updates, Deletes}
use Rattle.sr_message.specs.declared.message.Message.{Message}
use Rattle.sr_message.specs.declared.message.Message.TheVariants.{Hello, Resume, Ask, Write, Welcome, Notice, Rows, Reply, Written, Refused, Lapse}
use Rattle.sr_model.specs.Statements.{Tables}
use Rattle.sr_grammar_laws.proofs.RowCounts.{fewer_rows}
use Rattle.sr_session.specs.Scenes.{Taken, taken}
use Rattle.sr_session.specs.Sessions.{Database, Served, Session, newest, serve, serve_write, tables_of, with_version}
use Rattle.sr_tables.specs.Stored.{Stored, statement_is_short}
use Rattle.sr_server.specs.declared.outbox.Outbox.{Outbox}
use Rattle.sr_server.specs.declared.server.Server.{Server}
use Rattle.sr_server.specs.Outboxes.{Begins, left_on, served_by}
use Rattle.sr_session.specs.Refusals.{suits_schema}
use Rattle.sr_server.specs.Servers.{Executes, Gives, GivesUp, IsCarriedOut, IsClientNumber, IsServer, IsSession, IsSessionIf, IsWritten, StandsForSome, Takes, put, session_at, with_session}
use Rattle.sr_server.proofs.Fitting.{serve-fits, write-fits}
use Rattle.sr_log.specs.Held.{newest as newest_of}
use Rattle.sr_server.proofs.Entries.{newest-is}
use Rattle.sr_server.proofs.Slots.{last-session, place-within, session-is, sessions-are}
use Rattle.sr_server.proofs.Standing.{newest-more, session-stays, stands-more, stands-still}

pub two-ok : {A E : Type 0} (r : Result A E) (P Q R : A → Type 0) → ((a : A) → P a → Q a → R a) → IfOk r P → IfOk r Q → IfOk r R
two-ok (Ok a) P Q R more p q = more a p q
two-ok (Err e) P Q R more p q = tt

pub three-ok : {A E : Type 0} (r : Result A E) (P Q R S : A → Type 0) → ((a : A) → P a → Q a → R a → S a) → IfOk r P → IfOk r Q → IfOk r R → IfOk r S
three-ok (Ok a) P Q R S more p q rest = more a p q rest
three-ok (Err e) P Q R S more p q rest = tt

pub on-err : {A E : Type 0} {P : Type 0} (r : Result A E) → P → OnErr r P
on-err (Ok a) p = tt
on-err (Err e) p = p

-- an error that is handed on is refused as it was
pub handed-on : {A B E : Type 0} (r : Result A E) (first : Result B E) (e why : E) (M : Type 0) → first ≡ Err e → IsErrAnd r (λ x. x ≡ e) → (first ≡ Err why) ↔ M → (r ≡ Err why) ↔ M
handed-on {A} {B} {E} (Ok a) first e why M was handed both = absurd handed
handed-on {A} {B} {E} (Err x) first e why M was handed both = (
  (λ is. both.0 (was ∙ ap Err (let same : x ≡ why = cc in sym handed ∙ same))),
  (λ m. let back = sym was ∙ both.1 m in let same : e ≡ why = cc in ap Err (handed ∙ same)),
)

-- ---- texts

-- a text is too short to say so many rows
pub statement-short : (sql : List ℕ) (s : Statement) → Says sql (Ok s) → statement_is_short s ≡ true
statement-short sql (Create t) says = refl
statement-short sql (Selects s) says = refl
statement-short sql (Inserts s) says = let few = fewer_rows sql s says in short (length s.rows) few
  where
    short : (n : ℕ) → n < 65536 → nat_lt n (2 ^ 32) ≡ true
    short n few = grind (arith, nat_tests, few)
statement-short sql (Updates s) says = refl
statement-short sql (Deletes s) says = refl

-- ---- sessions

-- the session of a client is another one
pub with-session-stands : (old new : Server) (db : Database) (client : ℕ) (session : Option Session) → IsServer old db → IsSessionIf db session
    → new ≡ record old { sessions = with_session old.sessions client session } → IsServer new db
with-session-stands old new db client session is one made = subst (λ (s : Server). IsServer s db) (sym made) (record {
  sound = is.sound;
  knows = is.knows;
  count = length-set old.sessions (client - 1) session ∙ is.count;
  sessions = sessions-are db old.sessions client session one is.sessions;
})

pub old-session : (old : Server) (db : Database) (client : ℕ) → IsClientNumber client → IsServer old db → IsSessionIf db (session_at old.sessions client)
old-session old db client number is = session-is db old.sessions client number is.count is.sessions

-- ---- requests that are no writes

abbrev pub IsNoWrite : Message → Type 0
IsNoWrite m = (number : ℕ) (sql : List ℕ) → m ≡ Write number sql → ⊥

other-taken : (db : Database) (session : Option Session) (m : Message) (result : Result Tables Fault) → IsNoWrite m → taken db session m result ≡ record { database = db; served = serve db session m }
other-taken db None m result other = refl
other-taken db (Some session) (Hello wire client number) result other = refl
other-taken db (Some session) (Resume wire client number version holdings) result other = refl
other-taken db (Some session) (Ask number fresh parts) result other = refl
other-taken db (Some session) (Write number sql) result other = absurd (other number sql refl)
other-taken db (Some session) (Welcome number version kept) result other = refl
other-taken db (Some session) (Notice version told) result other = refl
other-taken db (Some session) (Rows number part rows) result other = refl
other-taken db (Some session) (Reply number version) result other = refl
other-taken db (Some session) (Written number version) result other = refl
other-taken db (Some session) (Refused number fault) result other = refl
other-taken db (Some session) (Lapse version) result other = refl

other-gives : (db : Database) (m : Message) (result : Result Tables Fault) → IsNoWrite m → Gives db m result
other-gives db (Hello wire client number) result other = tt
other-gives db (Resume wire client number version holdings) result other = tt
other-gives db (Ask number fresh parts) result other = tt
other-gives db (Write number sql) result other = absurd (other number sql refl)
other-gives db (Welcome number version kept) result other = tt
other-gives db (Notice version told) result other = tt
other-gives db (Rows number part rows) result other = tt
other-gives db (Reply number version) result other = tt
other-gives db (Written number version) result other = tt
other-gives db (Refused number fault) result other = tt
other-gives db (Lapse version) result other = tt

-- a session fits each database that the server stands for, where it fits one
each-fits : (server : Server) (db later : Database) (session : Option Session) → IsServer server db → IsServer server later → IsSessionIf db session → IsSessionIf later session
each-fits server db later None is is_later fits = tt
each-fits server db later (Some session) is is_later fits = record {
  upto = (let here = fits.upto in omega (arith, here, newest-is db server.log is.knows.log, newest-is later server.log is_later.knows.log));
  points = fits.points;
}

pub begins-request : (db : Database) (old new : Server) (client : ℕ) (m : Message) (outbox : Outbox) → IsClientNumber client → IsServer old db → suits_schema old.tables.schema m ≡ true → IsNoWrite m
    → outbox.client ≡ client → served_by outbox new ≡ serve db (session_at old.sessions client) m → new ≡ record old { sessions = with_session old.sessions client None }
    → Begins db old client m outbox new
begins-request db old new client m outbox number is suits other is_for serves closed =
    let none : Result Tables Fault = Ok (tables_of db (newest db)) in
    let same : taken db (session_at old.sessions client) m none ≡ record { database = db; served = serve db (session_at old.sessions client) m } = other-taken db (session_at old.sessions client) m none other in
    let session : outbox.session ≡ (serve db (session_at old.sessions client) m).session = ap (λ (s : Served). s.session) serves in
    let fits = serve-fits db (session_at old.sessions client) m (subst (λ s. suits_schema s m ≡ true) is.knows.schema suits) (old-session old db client number is) in
    let stands = with-session-stands old new db client None is tt closed in
    record {
      result = none;
      gives = other-gives db m none other;
      is_for = is_for;
      sends = ap (λ (s : Served). s.sent) serves ∙ sym (ap (λ (t : Taken). t.served.sent) same);
      session = session ∙ sym (ap (λ (t : Taken). t.served.session) same);
      fits = λ later is_later. each-fits new db later outbox.session stands is_later (subst (IsSessionIf db) (sym session) fits);
      stands = subst (λ (t : Taken). IsServer new t.database) (sym same) stands;
      sessions = ap (λ (s : Server). s.sessions) closed;
    }

pub gives-up : (db : Database) (old new : Server) (client : ℕ) (m : Message) → IsServer old db → new ≡ record old { sessions = with_session old.sessions client None } → GivesUp db old client m new
gives-up db old new client m is made = record {
  stands = inl (with-session-stands old new db client None is tt made);
  sessions = ap (λ (s : Server). s.sessions) made;
}

-- ---- writes: the session is taken out, the text carried out, and the session put back

executes-there : (db : Database) (old mid : Server) (client : ℕ) (sql : List ℕ) (result : Result Tables Fault) → IsServer old db → mid ≡ record old { sessions = with_session old.sessions client None }
    → Executes mid.tables.schema sql mid.tables.rows result → Executes db.schema sql (tables_of db (newest db)) result
executes-there db old mid client sql result is closed executes =
    let tables : mid.tables ≡ old.tables = ap (λ (s : Server). s.tables) closed in
    subst (λ (s : List Table). Executes s sql (tables_of db (newest db)) result) (ap (λ (t : Stored). t.schema) tables ∙ is.knows.schema)
    (subst (λ (rows : Tables). Executes mid.tables.schema sql rows result) (ap (λ (t : Stored). t.rows) tables ∙ is.knows.rows) executes)

open-is : (old : Server) (db : Database) (client : ℕ) (session : Session) → IsClientNumber client → IsServer old db → session_at old.sessions client ≡ Some session → IsSession db session
open-is old db client session number is at = subst (IsSessionIf db) at (old-session old db client number is)

-- what the server is once the text is carried out
pub carried-out : (db : Database) (old mid after : Server) (client : ℕ) → IsServer old db → mid ≡ record old { sessions = with_session old.sessions client None } → IsCarriedOut mid after
    → IsServer after (with_version db after.tables.rows)
carried-out db old mid after client is closed did = stands-more mid after db (with-session-stands old mid db client None is tt closed) did

pub session-after : (db : Database) (old after : Server) (client : ℕ) (session : Session) → IsClientNumber client → IsServer old db → session_at old.sessions client ≡ Some session
    → session.upto ≤ newest (with_version db after.tables.rows)
session-after db old after client session number is at = (session-stays db after.tables.rows (Some session) (open-is old db client session number is at)).upto

pub begins-write : (db : Database) (old mid after : Server) (client number : ℕ) (sql : List ℕ) (session : Session) (outbox : Outbox) → IsClientNumber client → IsServer old db
    → session_at old.sessions client ≡ Some session → mid ≡ record old { sessions = with_session old.sessions client None } → IsCarriedOut mid after
    → Executes mid.tables.schema sql mid.tables.rows (Ok after.tables.rows)
    → outbox.client ≡ client → served_by outbox after ≡ serve_write (with_version db after.tables.rows) session number None
    → Begins db old client (Write number sql) outbox after
begins-write db old mid after client number sql session outbox within is at closed did executes is_for serves =
    let there : Option Session → Taken = λ s. taken db s (Write number sql) (Ok after.tables.rows) in
    let later = with_version db after.tables.rows in
    let stands = carried-out db old mid after client is closed did in
    let own : outbox.session ≡ (serve_write later session number None).session = ap (λ (s : Served). s.session) serves in
    let fits = write-fits later session number None (session-stays db after.tables.rows (Some session) (open-is old db client session within is at)) in
    record {
      result = Ok after.tables.rows;
      gives = executes-there db old mid client sql (Ok after.tables.rows) is closed executes;
      is_for = is_for;
      sends = ap (λ (s : Served). s.sent) serves ∙ sym (ap (λ s. (there s).served.sent) at);
      session = own ∙ sym (ap (λ s. (there s).served.session) at);
      fits = λ other is_other. each-fits after later other outbox.session stands is_other (subst (IsSessionIf later) (sym own) fits);
      stands = subst (λ s. IsServer after (there s).database) (sym at) stands;
      sessions = did.sessions ∙ ap (λ (s : Server). s.sessions) closed;
    }

-- memory was refused behind the write
pub gives-up-written : (db : Database) (old mid after : Server) (client number : ℕ) (sql : List ℕ) → IsServer old db
    → mid ≡ record old { sessions = with_session old.sessions client None } → IsCarriedOut mid after → Executes mid.tables.schema sql mid.tables.rows (Ok after.tables.rows)
    → GivesUp db old client (Write number sql) after
gives-up-written db old mid after client number sql is closed did executes = record {
  stands = inr (after.tables.rows, executes-there db old mid client sql (Ok after.tables.rows) is closed executes, carried-out db old mid after client is closed did);
  sessions = did.sessions ∙ ap (λ (s : Server). s.sessions) closed;
}

-- ---- writes that are refused; the log may have more room

roomy-stands : (db : Database) (old mid after : Server) (client : ℕ) → IsServer old db → mid ≡ record old { sessions = with_session old.sessions client None }
    → after ≡ record mid { log = record mid.log { room = after.log.room } } → IsServer after db
roomy-stands db old mid after client is closed roomy =
    let is_mid = with-session-stands old mid db client None is tt closed in
    let same : after.sessions ≡ mid.sessions = ap (λ (s : Server). s.sessions) roomy in
    stands-still mid after db is_mid (ap (λ (s : Server). s.tables) roomy) (ap (λ (s : Server). s.log) roomy) (subst (All (IsSessionIf db)) (sym same) is_mid.sessions) (ap length same ∙ is_mid.count)

pub begins-refused : (db : Database) (old mid after : Server) (client number : ℕ) (sql : List ℕ) (session : Session) (fault : Fault) (outbox : Outbox) → IsClientNumber client → IsServer old db
    → session_at old.sessions client ≡ Some session → mid ≡ record old { sessions = with_session old.sessions client None } → after ≡ record mid { log = record mid.log { room = after.log.room } }
    → Executes mid.tables.schema sql mid.tables.rows (Err fault) → outbox.client ≡ client → outbox.session ≡ Some session → left_on outbox after ≡ Refused number fault ∷ []
    → Begins db old client (Write number sql) outbox after
begins-refused db old mid after client number sql session fault outbox within is at closed roomy executes is_for own sends =
    let there : Option Session → Taken = λ s. taken db s (Write number sql) (Err fault) in
    let stands = roomy-stands db old mid after client is closed roomy in
    record {
      result = Err fault;
      gives = executes-there db old mid client sql (Err fault) is closed executes;
      is_for = is_for;
      sends = sends ∙ sym (ap (λ s. (there s).served.sent) at);
      session = own ∙ sym (ap (λ s. (there s).served.session) at);
      fits = λ other is_other. each-fits after db other outbox.session stands is_other (subst (IsSessionIf db) (sym own) (open-is old db client session within is at));
      stands = subst (λ s. IsServer after (there s).database) (sym at) stands;
      sessions = ap (λ (s : Server). s.sessions) roomy ∙ ap (λ (s : Server). s.sessions) closed;
    }

-- ---- what was begun is read to its end

-- and finished
pub finished-takes : (db : Database) (old mid new : Server) (client : ℕ) (m : Message) (outbox : Outbox) (sent : List Message) → Begins db old client m outbox mid
    → sent ≡ left_on outbox mid → new ≡ put mid outbox.client outbox.session → Takes db old client m sent new
finished-takes db old mid new client m outbox sent begun reads done =
    let after = taken db (session_at old.sessions client) m begun.result in
    record {
      result = begun.result;
      gives = begun.gives;
      sends = reads ∙ begun.sends;
      stands = with-session-stands mid new after.database outbox.client outbox.session begun.stands (begun.fits after.database begun.stands) done;
      sessions = ap (λ (s : Server). s.sessions) done
          ∙ (ap (λ n. with_session mid.sessions n outbox.session) begun.is_for
          ∙ (ap (λ ss. with_session ss client outbox.session) begun.sessions
          ∙ (last-session old.sessions client None outbox.session ∙ ap (with_session old.sessions client) begun.session)));
    }

still-or-written : (db : Database) (session : Option Session) (m : Message) (result : Result Tables Fault) (new : Server) → Gives db m result → IsServer new (taken db session m result).database
    → IsServer new db ⊎ IsWritten db m new
still-or-written db None m result new gives stands = inl stands
still-or-written db (Some session) (Hello wire client number) result new gives stands = inl stands
still-or-written db (Some session) (Resume wire client number version holdings) result new gives stands = inl stands
still-or-written db (Some session) (Ask number fresh parts) result new gives stands = inl stands
still-or-written db (Some session) (Write number sql) (Ok tables) new gives stands = inr (tables, gives, stands)
still-or-written db (Some session) (Write number sql) (Err fault) new gives stands = inl stands
still-or-written db (Some session) (Welcome number version kept) result new gives stands = inl stands
still-or-written db (Some session) (Notice version told) result new gives stands = inl stands
still-or-written db (Some session) (Rows number part rows) result new gives stands = inl stands
still-or-written db (Some session) (Reply number version) result new gives stands = inl stands
still-or-written db (Some session) (Written number version) result new gives stands = inl stands
still-or-written db (Some session) (Refused number fault) result new gives stands = inl stands
still-or-written db (Some session) (Lapse version) result new gives stands = inl stands

-- or memory is refused on the way
pub given-up : (db : Database) (old mid new : Server) (client : ℕ) (m : Message) (outbox : Outbox) → Begins db old client m outbox mid → new ≡ mid → GivesUp db old client m new
given-up db old mid new client m outbox begun same = subst (λ (s : Server). GivesUp db old client m s) (sym same) (record {
  stands = still-or-written db (session_at old.sessions client) m begun.result mid begun.gives begun.stands;
  sessions = begun.sessions;
})

-- the session of the client is closed meanwhile
pub begun-closed : (db : Database) (old mid : Server) (client : ℕ) (m : Message) (outbox : Outbox) → IsClientNumber client → IsServer old db → Begins db old client m outbox mid
    → session_at mid.sessions outbox.client ≡ None
begun-closed db old mid client m outbox number is begun =
    ap (session_at mid.sessions) begun.is_for
    ∙ (ap (λ ss. session_at ss client) begun.sessions ∙ get_or-set_same old.sessions (client - 1) None None (place-within old.sessions client number is.count))

-- ---- how many versions there are

later-one : (db : Database) (tables : Tables) → newest (with_version db tables) ≤ newest db + 1
later-one db tables = omega (arith, length-append db.versions (tables ∷ []))

grows-with : (old new : Server) (db later : Database) → IsServer old db → IsServer new later → newest later ≤ newest db + 1 → newest_of new.log ≤ newest_of old.log + 1
grows-with old new db later is is_new one = omega (arith, one, newest-is db old.log is.knows.log, newest-is later new.log is_new.knows.log)

pub newest-carried : (db : Database) (old new : Server) → IsServer old db → IsCarriedOut old new → newest_of new.log ≡ newest_of old.log + 1
newest-carried db old new is did =
    let after = stands-more old new db is did in
    let some = is.sound.some in
    omega (arith, some, newest-more db new.tables.rows, newest-is db old.log is.knows.log, newest-is (with_version db new.tables.rows) new.log after.knows.log)

taken-one : (db : Database) (session : Option Session) (m : Message) (result : Result Tables Fault) → newest (taken db session m result).database ≤ newest db + 1
taken-one db None m result = omega arith
taken-one db (Some session) (Hello wire client number) result = omega arith
taken-one db (Some session) (Resume wire client number version holdings) result = omega arith
taken-one db (Some session) (Ask number fresh parts) result = omega arith
taken-one db (Some session) (Write number sql) (Ok tables) = later-one db tables
taken-one db (Some session) (Write number sql) (Err fault) = omega arith
taken-one db (Some session) (Welcome number version kept) result = omega arith
taken-one db (Some session) (Notice version told) result = omega arith
taken-one db (Some session) (Rows number part rows) result = omega arith
taken-one db (Some session) (Reply number version) result = omega arith
taken-one db (Some session) (Written number version) result = omega arith
taken-one db (Some session) (Refused number fault) result = omega arith
taken-one db (Some session) (Lapse version) result = omega arith

-- a server goes on after each message
pub record GoesOn (old new : Server) : Type 0 where
  pub stands : StandsForSome new
  pub grows : newest_of new.log ≤ newest_of old.log + 1

pub takes-on : (db : Database) (old new : Server) (client : ℕ) (m : Message) (sent : List Message) → IsServer old db → Takes db old client m sent new → GoesOn old new
takes-on db old new client m sent is t = record {
  stands = ((taken db (session_at old.sessions client) m t.result).database, t.stands);
  grows = grows-with old new db (taken db (session_at old.sessions client) m t.result).database is t.stands (taken-one db (session_at old.sessions client) m t.result);
}

pub begun-on : (db : Database) (old new : Server) (client : ℕ) (m : Message) (outbox : Outbox) → IsServer old db → Begins db old client m outbox new → GoesOn old new
begun-on db old new client m outbox is b = record {
  stands = ((taken db (session_at old.sessions client) m b.result).database, b.stands);
  grows = grows-with old new db (taken db (session_at old.sessions client) m b.result).database is b.stands (taken-one db (session_at old.sessions client) m b.result);
}

written-on : (db : Database) (old new : Server) (m : Message) → IsServer old db → IsWritten db m new → GoesOn old new
written-on db old new (Write number sql) is w = record { stands = (with_version db w.0, w.2); grows = grows-with old new db (with_version db w.0) is w.2 (later-one db w.0) }
written-on db old new (Hello wire client number) is w = absurd w
written-on db old new (Resume wire client number version holdings) is w = absurd w
written-on db old new (Ask number fresh parts) is w = absurd w
written-on db old new (Welcome number version kept) is w = absurd w
written-on db old new (Notice version told) is w = absurd w
written-on db old new (Rows number part rows) is w = absurd w
written-on db old new (Reply number version) is w = absurd w
written-on db old new (Written number version) is w = absurd w
written-on db old new (Refused number fault) is w = absurd w
written-on db old new (Lapse version) is w = absurd w

pub gives-up-on : (db : Database) (old new : Server) (client : ℕ) (m : Message) → IsServer old db → GivesUp db old client m new → GoesOn old new
gives-up-on db old new client m is g = by g.stands
  where
    by : IsServer new db ⊎ IsWritten db m new → GoesOn old new
    by (inl still) = record { stands = (db, still); grows = grows-with old new db db is still (omega arith) }
    by (inr written) = written-on db old new m is written
