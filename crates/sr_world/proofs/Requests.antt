-- A server refuses no request that a client sends.
use Rattle.std.proofs.Common.{◌≡◌, ℕ, Bool, true, false, List, [], ◌∷◌, refl, sym, ◌∙◌, subst, arith, Option, None}
use Rattle.std.specs.Prelude.{not, ◌&&◌, ◌==◌}
use Rattle.std.proofs.lemmas.Bool.{and_parts}
use Rattle.sr_cell.specs.declared.table.Table.{Table}
use Rattle.sr_message.specs.declared.message.Message.{Message}
use Rattle.sr_message.specs.declared.message.Message.TheVariants.{Hello, Resume, Ask, Write, Welcome, Notice, Rows, Reply, Written, Refused, Lapse}
use Rattle.sr_wire.specs.declared.bad_frame.BadFrame.TheVariants.{Direction, State, Shape}
use Rattle.sr_session.specs.Sessions.{Database}
use Rattle.sr_session.specs.Walks.{Request, AskOut, WriteOut, ResumeOut}
use Rattle.sr_session.specs.Misfits.{or_else}
use Rattle.sr_session.specs.Refusals.{has_few_parts, is_open, is_request, is_request_of, server_misfit, suits_schema, suits_state}
use Rattle.sr_session.specs.Clients as session
use Rattle.sr_session.specs.Clients.{Client, Flows, IsMessageOf, IsResumeMessage, Pair, Stands, is_down, is_idle, is_resuming, is_sent, is_served}

-- the parts of what a request is
pub record IsRequest (tables : List Table) (n : ℕ) (m : Message) : Type 0 where
  pub request : is_request m ≡ true
  pub begins : suits_state true n m ≡ false → suits_state false n m ≡ true
  pub schema : suits_schema tables m ≡ true
  pub parts : has_few_parts m ≡ true

pub request-parts : (schema : List Table) (n : ℕ) (m : Message) → is_request_of schema n m ≡ true → IsRequest schema n m
request-parts schema n (Hello wire named number) is =
    let suits = and_parts (named == n) (suits_schema schema (Hello wire named number)) (and_parts (named == n && suits_schema schema (Hello wire named number)) true is).0 in
    record { request = refl; begins = λ _. suits.0; schema = suits.1; parts = refl }
request-parts schema n (Resume wire named number version holdings) is =
    let m = Resume wire named number version holdings in
    let suits = and_parts (named == n) (suits_schema schema m) (and_parts (named == n && suits_schema schema m) true is).0 in
    record { request = refl; begins = λ _. suits.0; schema = suits.1; parts = refl }
request-parts schema n (Ask number fresh parts) is = record { request = refl; begins = λ wrong. absurd (let w : true ≡ false = wrong in cc); schema = grind (arith, is); parts = grind (arith, is) }
request-parts schema n (Write number sql) is = record { request = refl; begins = λ wrong. absurd (let w : true ≡ false = wrong in cc); schema = refl; parts = refl }
request-parts schema n (Welcome number version kept) is = absurd (let w : false ≡ true = is in cc)
request-parts schema n (Notice version told) is = absurd (let w : false ≡ true = is in cc)
request-parts schema n (Rows number part rows) is = absurd (let w : false ≡ true = is in cc)
request-parts schema n (Reply number version) is = absurd (let w : false ≡ true = is in cc)
request-parts schema n (Written number version) is = absurd (let w : false ≡ true = is in cc)
request-parts schema n (Refused number fault) is = absurd (let w : false ≡ true = is in cc)
request-parts schema n (Lapse version) is = absurd (let w : false ≡ true = is in cc)

-- ---- the state of the session

-- no request but the first of a session is a Hello or a Resume
message-state : (n : ℕ) (request : Request) (m : Message) → IsMessageOf request m → suits_state true n m ≡ true
message-state n (AskOut number query q fresh parts) (Ask k mode asked) are = refl
message-state n (AskOut number query q fresh parts) (Hello wire client k) are = absurd are
message-state n (AskOut number query q fresh parts) (Resume wire client k version holdings) are = absurd are
message-state n (AskOut number query q fresh parts) (Write k sql) are = absurd are
message-state n (AskOut number query q fresh parts) (Welcome k version kept) are = absurd are
message-state n (AskOut number query q fresh parts) (Notice version told) are = absurd are
message-state n (AskOut number query q fresh parts) (Rows k part rows) are = absurd are
message-state n (AskOut number query q fresh parts) (Reply k version) are = absurd are
message-state n (AskOut number query q fresh parts) (Written k version) are = absurd are
message-state n (AskOut number query q fresh parts) (Refused k fault) are = absurd are
message-state n (AskOut number query q fresh parts) (Lapse version) are = absurd are
message-state n (WriteOut number) (Write k sql) are = refl
message-state n (WriteOut number) (Ask k mode asked) are = absurd are
message-state n (WriteOut number) (Hello wire client k) are = absurd are
message-state n (WriteOut number) (Resume wire client k version holdings) are = absurd are
message-state n (WriteOut number) (Welcome k version kept) are = absurd are
message-state n (WriteOut number) (Notice version told) are = absurd are
message-state n (WriteOut number) (Rows k part rows) are = absurd are
message-state n (WriteOut number) (Reply k version) are = absurd are
message-state n (WriteOut number) (Written k version) are = absurd are
message-state n (WriteOut number) (Refused k fault) are = absurd are
message-state n (WriteOut number) (Lapse version) are = absurd are
message-state n (ResumeOut number) m are = absurd are

-- the first of a session is one of these, which an open session takes no more
resume-state : (schema : List Table) (c : Client) (n number : ℕ) (m : Message) → IsResumeMessage schema c number m → suits_state true n m ≡ false
resume-state schema c n number (Hello wire client k) is = refl
resume-state schema c n number (Resume wire client k version holdings) is = refl
resume-state schema c n number (Ask k mode asked) is = absurd is
resume-state schema c n number (Write k sql) is = absurd is
resume-state schema c n number (Welcome k version kept) is = absurd is
resume-state schema c n number (Notice version told) is = absurd is
resume-state schema c n number (Rows k part rows) is = absurd is
resume-state schema c n number (Reply k version) is = absurd is
resume-state schema c n number (Written k version) is = absurd is
resume-state schema c n number (Refused k fault) is = absurd is
resume-state schema c n number (Lapse version) is = absurd is

state-suits : (db : Database) (n : ℕ) (pair : Pair) (m : Message) (queue : List Message) → Stands db pair → pair.connection.to_server ≡ m ∷ queue → IsRequest db.schema n m
    → suits_state (is_open pair.connection.session) n m ≡ true
state-suits db n pair m queue (session.is_open s h) first request =
    subst (λ x. suits_state (is_open x) n m ≡ true) (sym h.session_is) (by pair.client.out h.flows)
  where
    by : (out : Option Request) → Flows db pair.client pair.connection s out → suits_state true n m ≡ true
    by out (is_idle empty none walks) = absurd (let wrong : m ∷ queue ≡ [] = sym first ∙ empty in cc)
    by out (is_sent r o all f) =
        let e : m ∷ queue ≡ f.message ∷ [] = sym first ∙ f.to_server in
        let one : f.message ≡ m = cc in
        subst (λ x. suits_state true n x ≡ true) one (message-state n r f.message f.is)
    by out (is_served r o all f) = absurd (let wrong : m ∷ queue ≡ [] = sym first ∙ f.to_server in cc)
state-suits db n pair m queue (is_down down) first request = absurd (let wrong : m ∷ queue ≡ [] = sym first ∙ down.to_server in cc)
state-suits db n pair m queue (is_resuming r) first request =
    let e : m ∷ queue ≡ r.message ∷ [] = sym first ∙ r.to_server in
    let one : r.message ≡ m = cc in
    subst (λ x. suits_state (is_open x) n m ≡ true) (sym r.session_is)
    (request.begins (subst (λ x. suits_state true n x ≡ false) one (resume-state db.schema pair.client n r.number r.message r.is)))

-- ---- no reason

none-against : (a b c : Bool) → a ≡ true → b ≡ true → c ≡ true → or_else (not a) Direction (or_else (not b) State (or_else (not c) Shape None)) ≡ None
none-against true true true is suits fits = refl
none-against true true false is suits fits = absurd (cc)
none-against true false c is suits fits = absurd (cc)
none-against false b c is suits fits = absurd (cc)

-- the oldest message of a client that stands
pub no-misfit : (db : Database) (n : ℕ) (pair : Pair) (m : Message) (queue : List Message) → Stands db pair → pair.connection.to_server ≡ m ∷ queue → is_request_of db.schema n m ≡ true
    → server_misfit db.schema pair.connection.session n m ≡ None
no-misfit db n pair m queue stands first is =
    let request = request-parts db.schema n m is in
    none-against (is_request m) (suits_state (is_open pair.connection.session) n m) (suits_schema db.schema m) request.request (state-suits db n pair m queue stands first request) request.schema
