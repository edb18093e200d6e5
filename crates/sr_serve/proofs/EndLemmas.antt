-- What a server's end makes of a message.
use Rattle.std.proofs.Common.{◌≡◌, ℕ, zero, suc, ◌-◌, ◌<◌, Bool, true, false, cond, eqb, List, [], ◌∷◌, length, refl, sym, ◌∙◌, ap, subst, arith, Option, Some, None}
use Rattle.std.specs.Prelude.{◌&&◌, nat_le, replicate, slice_set, slice_index_or, Result, Ok, Err, IsTrue}
use Rattle.std.proofs.lemmas.Bool.{ne_eqb}
use Rattle.std.proofs.lemmas.Bool.Decides.{nat_tests}
use Rattle.std.specs.Cmp.{first_so, second_so}
use Rattle.sr_cell.specs.declared.fault.Fault.{Fault}
use Rattle.sr_cell.specs.declared.table.Table.{Table}
use Rattle.sr_message.specs.declared.message.Message.{Message}
use Rattle.sr_message.specs.declared.message.Message.TheVariants.{Hello, Resume, Ask, Write, Welcome, Notice, Rows, Reply, Written, Refused, Lapse}
use Rattle.sr_model.specs.Statements.{Tables}
use Rattle.sr_wire.specs.declared.bad_frame.BadFrame.{BadFrame}
use Rattle.sr_wire.specs.Spelling.{has_spelling, has_fields, body_of, is_client, is_long, is_wire, most_bytes}
use Rattle.sr_session.specs.Refusals.{server_misfit}
use Rattle.sr_session.specs.Scenes.{Taken, taken}
use Rattle.sr_session.specs.Sessions.{Database, Session, Served}
use Rattle.sr_links.specs.Honest.{Server}
use Rattle.sr_server.specs.Outboxes.{Begins, left_on}
use Rattle.sr_server.specs.Servers.{IsClientNumber, IsServer, Gives, put, session_at, with_session}
use Rattle.sr_server.specs.declared.outbox.Outbox.{Outbox}
use Rattle.sr_talk.specs.Serving.{named}
use Rattle.sr_talk.specs.Talked as talk
use Rattle.sr_server.specs.declared.server.Server as code
use Rattle.sr_serve.specs.declared.server_end.ServerEnd.{ServerEnd}
use Rattle.sr_serve.specs.ServerEnds.{no_sessions, Becomes, HasSession, IsEnd, number_for}

-- ---- lists of sessions

set-get : (xs : List (Option Session)) (i : ℕ) (x : Option Session) → i < length xs → slice_index_or (slice_set xs i x) i None ≡ x
set-get [] i x within = absurd (omega (arith, within))
set-get (y ∷ xs) zero x within = refl
set-get (y ∷ xs) (suc i) x within = set-get xs i x (omega (arith, within))

set-set : (xs : List (Option Session)) (i : ℕ) (x y : Option Session) → slice_set (slice_set xs i x) i y ≡ slice_set xs i y
set-set [] i x y = refl
set-set (z ∷ xs) zero x y = refl
set-set (z ∷ xs) (suc i) x y = ap (λ more. z ∷ more) (set-set xs i x y)

abbrev none : ℕ → List (Option Session)
none n = replicate n None

set-none : (n i : ℕ) → slice_set (none n) i None ≡ none n
set-none zero i = refl
set-none (suc n) zero = refl
set-none (suc n) (suc i) = ap (λ more. None ∷ more) (set-none n i)

get-none : (n i : ℕ) → slice_index_or (none n) i None ≡ None
get-none zero i = refl
get-none (suc n) zero = refl
get-none (suc n) (suc i) = get-none n i

-- ---- numbers

own-number : (client : ℕ) (m : Message) → IsClientNumber client → number_for client m ≡ client
own-number client m is = let some = is.0 in ap (λ b. cond b (named m) client) (ne_eqb client 0 (λ none. omega (arith, some, none)))

first-number : (client : ℕ) (m : Message) → client ≡ 0 → number_for client m ≡ named m
first-number client m zero_is = ap (λ n. cond (eqb n 0) (named m) n) zero_is

module _ (m : Message) (spelled : IsTrue (has_spelling m)) where
  fields : IsTrue (has_fields m)
  fields = first_so (has_fields m) (nat_le (length (body_of m)) most_bytes) spelled

client-number : (client : ℕ) → IsTrue (is_client client) → IsClientNumber client
client-number client is = grind (arith, nat_tests)

pub named-number : (m : Message) → IsTrue (has_spelling m) → IsClientNumber (named m)
named-number (Hello wire client number) is = client-number client (first_so (is_client client) (is_long number) (second_so (is_wire wire) (is_client client && is_long number) (fields (Hello wire client number) is)))
named-number (Resume wire client number version holdings) is = client-number client (first_so (is_client client) _ (second_so (is_wire wire) _ (fields (Resume wire client number version holdings) is)))
named-number (Ask number fresh parts) is = (omega arith, omega arith)
named-number (Write number sql) is = (omega arith, omega arith)
named-number (Welcome number version kept) is = (omega arith, omega arith)
named-number (Notice version told) is = (omega arith, omega arith)
named-number (Rows number part rows) is = (omega arith, omega arith)
named-number (Reply number version) is = (omega arith, omega arith)
named-number (Written number version) is = (omega arith, omega arith)
named-number (Refused number fault) is = (omega arith, omega arith)
named-number (Lapse version) is = (omega arith, omega arith)

pub number-is : (client : ℕ) (sessions : List (Option Session)) (session : Option Session) (m : Message) → IsTrue (has_spelling m) → HasSession client sessions session → IsClientNumber (number_for client m)
number-is client sessions None m spelled (zero_is, are) = subst IsClientNumber (sym (first-number client m zero_is)) (named-number m spelled)
number-is client sessions (Some session) m spelled (is, are) = subst IsClientNumber (sym (own-number client m is)) is

-- ---- the session of the connection

pub session-is : (client : ℕ) (sessions : List (Option Session)) (session : Option Session) (m : Message) → HasSession client sessions session → session_at sessions (number_for client m) ≡ session
session-is client sessions None m (zero_is, are) = ap (λ xs. session_at xs (number_for client m)) are ∙ get-none 64 (number_for client m - 1)
session-is client sessions (Some session) m (is, are) =
    let few = is.1 in
    let some = is.0 in
    ap (λ xs. session_at xs (number_for client m)) are
    ∙ (ap (session_at (with_session no_sessions client (Some session))) (own-number client m is) ∙ set-get no_sessions (client - 1) (Some session) (omega (arith, few, some)))

-- once it is closed nobody has one
pub session-closed : (client : ℕ) (sessions : List (Option Session)) (session : Session) → HasSession client sessions (Some session) → with_session sessions client None ≡ no_sessions
session-closed client sessions session (is, are) =
    ap (λ xs. with_session xs client None) are ∙ (set-set no_sessions (client - 1) (Some session) None ∙ set-none 64 (client - 1))

pub session-out : (client : ℕ) (sessions : List (Option Session)) (session : Option Session) (m : Message) → HasSession client sessions session → with_session sessions (number_for client m) None ≡ no_sessions
session-out client sessions None m (zero_is, are) = ap (λ xs. with_session xs (number_for client m) None) are ∙ set-none 64 (number_for client m - 1)
session-out client sessions (Some session) m (is, are) = ap (λ n. with_session sessions n None) (own-number client m is) ∙ session-closed client sessions session (is, are)

-- where nobody has a session, that client has none
pub none-there : (sessions : List (Option Session)) (client : ℕ) → sessions ≡ no_sessions → session_at sessions client ≡ None
none-there sessions client are = ap (λ xs. session_at xs client) are ∙ get-none 64 (client - 1)

-- ---- which messages are accepted

-- where a session is open, the number does not matter
any-number : (schema : List Table) (session : Session) (a b : ℕ) (m : Message) → server_misfit schema (Some session) a m ≡ server_misfit schema (Some session) b m
any-number schema session a b (Hello wire client number) = refl
any-number schema session a b (Resume wire client number version holdings) = refl
any-number schema session a b (Ask number fresh parts) = refl
any-number schema session a b (Write number sql) = refl
any-number schema session a b (Welcome number version kept) = refl
any-number schema session a b (Notice version told) = refl
any-number schema session a b (Rows number part rows) = refl
any-number schema session a b (Reply number version) = refl
any-number schema session a b (Written number version) = refl
any-number schema session a b (Refused number fault) = refl
any-number schema session a b (Lapse version) = refl

pub same-misfit : (schema : List Table) (client : ℕ) (sessions : List (Option Session)) (session : Option Session) (m : Message) → HasSession client sessions session
    → server_misfit schema session (number_for client m) m ≡ server_misfit schema session (named m) m
same-misfit schema client sessions None m (zero_is, are) = ap (λ n. server_misfit schema None n m) (first-number client m zero_is)
same-misfit schema client sessions (Some session) m h = any-number schema session (number_for client m) (named m) m

pub none-of : (x : Option BadFrame) → ((why : BadFrame) → x ≡ Some why → ⊥) → x ≡ None
none-of None never = refl
none-of (Some why) never = absurd (never why refl)

-- ---- a session is open once a message was accepted

pub record IsOpen (session : Option Session) : Type 0 where
  pub new : Session
  pub is : session ≡ Some new

resume-opens : (b : Bool) (one two : Served) → IsOpen one.session → IsOpen two.session → IsOpen (cond b one two).session
resume-opens true one two h k = h
resume-opens false one two h k = k

pub opens : (db : Database) (session : Option Session) (m : Message) (result : Result Tables Fault) → server_misfit db.schema session (named m) m ≡ None → IsOpen (taken db session m result).served.session
opens db None (Hello wire client number) result fit = record { new = _; is = refl }
opens db None (Resume wire client number version holdings) result fit = resume-opens _ _ _ (record { new = _; is = refl }) (record { new = _; is = refl })
opens db None (Ask number fresh parts) result fit = absurd (cc)
opens db None (Write number sql) result fit = absurd (cc)
opens db None (Welcome number version kept) result fit = absurd (cc)
opens db None (Notice version told) result fit = absurd (cc)
opens db None (Rows number part rows) result fit = absurd (cc)
opens db None (Reply number version) result fit = absurd (cc)
opens db None (Written number version) result fit = absurd (cc)
opens db None (Refused number fault) result fit = absurd (cc)
opens db None (Lapse version) result fit = absurd (cc)
opens db (Some session) (Hello wire client number) result fit = record { new = session; is = refl }
opens db (Some session) (Resume wire client number version holdings) result fit = record { new = session; is = refl }
opens db (Some session) (Ask number true parts) result fit = record { new = _; is = refl }
opens db (Some session) (Ask number false parts) result fit = record { new = _; is = refl }
opens db (Some session) (Write number sql) (Ok tables) fit = record { new = _; is = refl }
opens db (Some session) (Write number sql) (Err fault) fit = record { new = session; is = refl }
opens db (Some session) (Welcome number version kept) result fit = record { new = session; is = refl }
opens db (Some session) (Notice version told) result fit = record { new = session; is = refl }
opens db (Some session) (Rows number part rows) result fit = record { new = session; is = refl }
opens db (Some session) (Reply number version) result fit = record { new = session; is = refl }
opens db (Some session) (Written number version) result fit = record { new = session; is = refl }
opens db (Some session) (Refused number fault) result fit = record { new = session; is = refl }
opens db (Some session) (Lapse version) result fit = record { new = session; is = refl }

-- ---- a message is taken

module _ (server new : code.Server) (client : ℕ) (s : Server) (m : Message) (stands : IsServer server s.database) (h : HasSession client server.sessions s.session) where
  same-at : server_misfit server.tables.schema (session_at server.sessions (number_for client m)) (number_for client m) m ≡ server_misfit s.database.schema s.session (named m) m
  same-at =
      ap (λ schema. server_misfit schema (session_at server.sessions (number_for client m)) (number_for client m) m) stands.knows.schema
      ∙ (ap (λ session. server_misfit s.database.schema session (number_for client m) m) (session-is client server.sessions s.session m h)
      ∙ same-misfit s.database.schema client server.sessions s.session m h)

  -- it is begun by the rules
  pub end-begins : (outbox : Outbox) → IsTrue (has_spelling m)
      → ((why : BadFrame) → server_misfit server.tables.schema (session_at server.sessions (number_for client m)) (number_for client m) m ≡ Some why → ⊥)
      → Begins s.database server (number_for client m) m outbox new → talk.Takes Gives s m (left_on outbox new) (Becomes (record { server = new; client = 0 }) outbox)
  end-begins outbox spelled never b =
      let at = session-is client server.sessions s.session m h in
      let accepted : server_misfit s.database.schema s.session (named m) m ≡ None = none-of _ (λ why e. never why (same-at ∙ e)) in
      let same : taken s.database (session_at server.sessions (number_for client m)) m b.result ≡ taken s.database s.session m b.result = ap (λ session. taken s.database session m b.result) at in
      let o = opens s.database s.session m b.result accepted in
      let own : outbox.session ≡ Some o.new = b.session ∙ (ap (λ (x : Taken). x.served.session) same ∙ o.is) in
      let number : IsClientNumber outbox.client = subst IsClientNumber (sym b.is_for) (number-is client server.sessions s.session m spelled h) in
      record {
        result = b.result;
        accepted = accepted;
        gives = b.gives;
        sends = b.sends ∙ ap (λ (x : Taken). x.served.sent) same;
        stands = record {
          closed = record { server = subst (λ (x : Taken). IsServer new x.database) same b.stands; session = (refl, b.sessions ∙ session-out client server.sessions s.session m h) };
          number = number;
          session = subst (HasSession outbox.client (with_session no_sessions outbox.client outbox.session)) (sym o.is) (number, ap (with_session no_sessions outbox.client) own);
          fits = b.fits;
        };
      }

  -- it is refused
  pub end-refuses : (why : BadFrame) → server_misfit server.tables.schema (session_at server.sessions (number_for client m)) (number_for client m) m ≡ Some why
      → server_misfit s.database.schema s.session (named m) m ≡ None → ⊥
  end-refuses why bad fit = let wrong : Some why ≡ None = sym bad ∙ (same-at ∙ fit) in cc

-- the session is closed
pub end-closed : (client : ℕ) (sessions : List (Option Session)) (session : Option Session) → HasSession client sessions session → (client ≡ 0 → ⊥) → with_session sessions client None ≡ no_sessions
end-closed client sessions None (zero_is, are) some = absurd (some zero_is)
end-closed client sessions (Some session) h some = session-closed client sessions session h

-- ---- an Outbox

-- one message of it was made
pub becomes-still : (e : ServerEnd) (old new : Outbox) (s : Server) → Becomes e old s → new ≡ record old { left = new.left } → Becomes e new s
becomes-still e old new s b is = subst (λ (o : Outbox). Becomes e o s) (sym is) (record { closed = b.closed; number = b.number; session = b.session; fits = b.fits })

-- it is finished
pub end-finished : (e : ServerEnd) (outbox : Outbox) (new : code.Server) (s : Server) → Becomes e outbox s → new ≡ put e.server outbox.client outbox.session → IsServer new s.database
    → IsEnd (record { server = new; client = outbox.client }) s
end-finished e outbox new s b is stands = record {
  server = stands;
  session = subst (λ xs. HasSession outbox.client xs s.session)
      (sym (ap (λ (x : code.Server). x.sessions) is ∙ ap (λ xs. with_session xs outbox.client outbox.session) b.closed.session.1)) b.session;
}
