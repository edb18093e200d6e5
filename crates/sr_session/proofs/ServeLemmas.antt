-- The server takes requests; links are cut, and sessions begin.
use Rattle.std.proofs.Common.{◌≡◌, ℕ, ◌-◌, ◌≤◌, Bool, true, false, List, [], ◌∷◌, ◌++◌, refl, sym, ◌∙◌, ap, subst, arith, Option, Some, None, append_assoc}
use Rattle.std.specs.Prelude.{◌&&◌, nat_le, if◌then◌else◌}
use Rattle.sr_cell.specs.declared.fault.Fault.{Fault}
use Rattle.sr_cell.specs.declared.table.Table.{Table}
use Rattle.sr_message.specs.declared.message.Holding.{Holding}
use Rattle.sr_message.specs.declared.message.Message.{Message}
use Rattle.sr_message.specs.declared.message.Message.TheVariants.{Hello, Resume, Ask, Write, Welcome, Notice, Rows, Reply, Written, Refused, Lapse}
use Rattle.sr_subs.specs.Subscription.{has_point}
use Rattle.sr_history.specs.Marks.{HoldsNothing}
use Rattle.sr_session.specs.Sessions.{Database, Served, Session, due, floor_of, is_lost, newest, notices, opened, serve, serve_write}
use Rattle.sr_session.specs.Places.{Within, held}
use Rattle.sr_session.specs.Walks.{AreLaid, Request, ResumeOut, Walks, WriteOut, noticed, welcomed}
use Rattle.sr_session.specs.Clients.{AreHoldings, Client, Connection, Flows, IsOpen, IsOut, IsResumeMessage, IsResuming, Pair, Stands, is_down, is_idle, is_open, is_resuming, is_sent, is_served, mirror_of, pending}
use Rattle.sr_session.specs.Rules.{CutStep, Outcome, ResumeStep, already_cut, already_up, cuts, resumes}
use Rattle.sr_session.specs.Scenes.{acted, cut_off}
use Rattle.sr_session.proofs.WalkLemmas.{walks-later}
use Rattle.sr_session.proofs.SendLemmas.{walks-ask, due-walk, notices-walk, here}
use Rattle.sr_session.proofs.ResumableLemmas.{held-within}
use Rattle.sr_session.proofs.QueryLemmas.{silent}

-- what is on the connection once the only request is taken
abbrev pub served : Connection → Served → Connection
served l s = record { to_server = []; to_client = l.to_client ++ s.sent; session = s.session }

-- ---- a write is taken

pub refused-write : (db : Database) (c : Client) (l : Connection) (session : Session) (number k : ℕ) (fault : Fault) → IsOpen db c l session → c.out ≡ Some (WriteOut number) → k ≡ number → IsOut db.schema c (WriteOut number) → AreLaid c.laid
    → Walks db None (mirror_of c) (pending c l) session → IsOpen db c (served l (serve_write db session k (Some fault))) session
refused-write db c l session number k fault h out same is_out all walks = record {
  up = h.up;
  session_is = refl;
  wire = h.wire;
  upto = h.upto;
  flows = subst (Flows db c (served l (serve_write db session k (Some fault))) session) (sym out) (is_served (WriteOut number) is_out all (record {
    to_server = refl;
    walks = subst (λ ms. Walks db (Some (WriteOut number)) (mirror_of c) ms session) (append_assoc c.laid l.to_client (Refused k fault ∷ []))
        (walks-ask db (WriteOut number) (mirror_of c) (pending c l) (Refused k fault ∷ []) session session walks
        (λ end ends came fewer. (same, record { within = ends.within; comes = ends.comes })));
  }));
}

pub accepted-write : (db : Database) (c : Client) (l : Connection) (session : Session) (number k : ℕ) → IsOpen db c l session → c.out ≡ Some (WriteOut number) → k ≡ number → IsOut db.schema c (WriteOut number) → AreLaid c.laid
    → Walks db None (mirror_of c) (pending c l) session
    → IsOpen db c (served l (serve_write db session k None)) (record { wire = session.wire; subscription = (due db session).subscription; upto = newest db })
accepted-write db c l session number k h out same is_out all walks = record {
  up = h.up;
  session_is = refl;
  wire = h.wire;
  upto = omega arith;
  flows = subst (Flows db c (served l (serve_write db session k None)) now) (sym out) (is_served (WriteOut number) is_out all (record {
    to_server = refl;
    walks = subst (λ ms. Walks db (Some (WriteOut number)) (mirror_of c) ms now) (append_assoc c.laid l.to_client ((due db session).sent ++ Written k (newest db) ∷ []))
        (walks-ask db (WriteOut number) (mirror_of c) (pending c l) ((due db session).sent ++ Written k (newest db) ∷ []) session now walks
        (λ end ends came fewer. due-walk db (Some (WriteOut number)) end session now (Written k (newest db) ∷ []) h.upto ends (is_lost db session) refl
        (λ x within comes still. ((same, comes), record { within = within; comes = here db (welcomed true x (newest db)) }))));
  }));
}
  where
    now : Session
    now = record { wire = session.wire; subscription = (due db session).subscription; upto = newest db }

-- ---- a session begins

module _ (db : Database) (c : Client) (l : Connection) (h : IsResuming db c l) where
  begins : (wire : ℕ) (subscription : List Holding) (sent : List Message) → wire ≡ 2 → Walks db (Some (ResumeOut h.number)) (mirror_of c) sent (record { wire = wire; subscription = subscription; upto = newest db })
      → Stands db (record { client = c; connection = served l (record { session = opened db wire subscription; sent = sent }) })
  begins wire subscription sent two walks = is_open now (record {
    up = h.up;
    session_is = refl;
    wire = two;
    upto = omega arith;
    flows = subst (Flows db c (served l (record { session = opened db wire subscription; sent = sent })) now) (sym h.out) (is_served (ResumeOut h.number) h.next (subst AreLaid (sym h.laid) tt) (record {
      to_server = refl;
      walks = subst (λ ms. Walks db (Some (ResumeOut h.number)) (mirror_of c) (ms ++ (l.to_client ++ sent)) now) (sym h.laid)
          (subst (λ ms. Walks db (Some (ResumeOut h.number)) (mirror_of c) (ms ++ sent) now) (sym h.to_client) walks);
    }));
  })
    where
      now : Session
      now = record { wire = wire; subscription = subscription; upto = newest db }

  -- with nothing, at the newest version
  begins-anew : (wire k : ℕ) → k ≡ h.number → wire ≡ 2 → Stands db (record { client = c; connection = served l (record { session = opened db wire []; sent = Welcome k (newest db) false ∷ [] }) })
  begins-anew wire k is two = begins wire [] (Welcome k (newest db) false ∷ []) two ((is, h.version), record { within = λ t a p point wrong. wrong; comes = here db (welcomed false (mirror_of c) (newest db)) })

  -- with the notices from the client's version on, by what it holds
  begins-again : (wire k version : ℕ) (holdings : List Holding) → k ≡ h.number → wire ≡ 2 → version ≡ c.version → Within db.schema (held c.marks) (has_point holdings)
      → Stands db (record { client = c; connection = served l (record { session = opened db wire holdings; sent = notices db holdings version (newest db - version) ++ Welcome k (newest db) true ∷ [] }) })
  begins-again wire k version holdings is two at within = begins wire holdings _ two
      (subst (λ v. Walks db (Some (ResumeOut h.number)) (mirror_of c) (notices db holdings v (newest db - v) ++ Welcome k (newest db) true ∷ []) (record { wire = wire; subscription = holdings; upto = newest db })) (sym at)
      (notices-walk db (Some (ResumeOut h.number)) holdings (newest db - c.version) c.version (newest db) (mirror_of c) (Welcome k (newest db) true ∷ []) _ (let below = h.version in omega (arith, below)) within (here db (mirror_of c))
      (λ v up was comes. ((is, comes), record { within = within; comes = here db (welcomed true (noticed (mirror_of c) v) (newest db)) }))))

  -- the message of the resume that is out
  pub begun : (m : Message) → IsResumeMessage db.schema c h.number m → Stands db (record { client = c; connection = served l (serve db None m) })
  begun (Hello wire client k) is = begins-anew wire k is.0 is.1
  begun (Resume wire client k version holdings) is = by (nat_le version (newest db) && nat_le (floor_of db) version)
    where
      by : (kept : Bool)
          → Stands db (record { client = c; connection = served l (if kept then record { session = opened db wire holdings; sent = notices db holdings version (newest db - version) ++ Welcome k (newest db) true ∷ [] } else record { session = opened db wire []; sent = Welcome k (newest db) false ∷ [] }) })
      by true = begins-again wire k version holdings is.0 is.1 is.2 (held-within db.schema c.marks c.queries holdings is.3)
      by false = begins-anew wire k is.0 is.1
  begun (Ask k fresh parts) is = absurd is
  begun (Write k sql) is = absurd is
  begun (Welcome k version kept) is = absurd is
  begun (Notice version told) is = absurd is
  begun (Rows k part rows) is = absurd is
  begun (Reply k version) is = absurd is
  begun (Written k version) is = absurd is
  begun (Refused k fault) is = absurd is
  begun (Lapse version) is = absurd is

-- ---- a cut

version-within : (db : Database) (c : Client) (l : Connection) (session : Session) → IsOpen db c l session → c.version ≤ newest db
version-within db c l session h = by c.out h.flows
  where
    up : session.upto ≤ newest db
    up = h.upto

    by : (out : Option Request) → Flows db c l session out → c.version ≤ newest db
    by out (is_idle empty none walks) = let later = walks-later db None (mirror_of c) l.to_client session walks in omega (arith, later, up)
    by out (is_sent request o all f) = let later = walks-later db None (mirror_of c) (pending c l) session f.walks in omega (arith, later, up)
    by out (is_served request o all f) = let later = walks-later db (Some request) (mirror_of c) (pending c l) session f.walks in omega (arith, later, up)

pub stands-version : (db : Database) (pair : Pair) → Stands db pair → pair.client.version ≤ newest db
stands-version db pair (is_open session h) = version-within db pair.client pair.connection session h
stands-version db pair (is_down h) = h.version
stands-version db pair (is_resuming h) = h.version

pub cuts-stand : (db : Database) (old : Pair) (o : Outcome) (new : Client) → Stands db old → CutStep old.client o new → Stands db (cut_off new)
cuts-stand db old o new h (cuts up) = is_down (record { down = refl; out = refl; laid = refl; to_server = refl; to_client = refl; session_is = refl; version = stands-version db old h })
cuts-stand db old o new (is_open session h) (already_cut down) = absurd (let wrong : true ≡ false = sym down ∙ h.up in cc)
cuts-stand db old o new (is_down h) (already_cut down) = is_down (record { down = h.down; out = h.out; laid = h.laid; to_server = refl; to_client = refl; session_is = refl; version = h.version })
cuts-stand db old o new (is_resuming h) (already_cut down) = absurd (let wrong : true ≡ false = sym down ∙ h.up in cc)

-- ---- a resume

resume-message-still : (schema : List Table) (c new : Client) (number : ℕ) (m : Message) → new.marks ≡ c.marks → new.queries ≡ c.queries → new.version ≡ c.version → IsResumeMessage schema c number m → IsResumeMessage schema new number m
resume-message-still schema c new number (Hello wire client k) marks queries version ok = (ok.0, ok.1, subst (HoldsNothing schema) (sym marks) ok.2)
resume-message-still schema c new number (Resume wire client k at holdings) marks queries version ok = (
  ok.0,
  ok.1,
  ok.2 ∙ sym version,
  subst (λ qs. AreHoldings schema new.marks qs holdings) (sym queries) (subst (λ ms. AreHoldings schema ms c.queries holdings) (sym marks) ok.3),
  (λ none. ok.4 (subst (HoldsNothing schema) marks none)),
  ok.5,
)
resume-message-still schema c new number (Ask k fresh parts) marks queries version ok = ok
resume-message-still schema c new number (Write k sql) marks queries version ok = ok
resume-message-still schema c new number (Welcome k at kept) marks queries version ok = ok
resume-message-still schema c new number (Notice at told) marks queries version ok = ok
resume-message-still schema c new number (Rows k part rows) marks queries version ok = ok
resume-message-still schema c new number (Reply k at) marks queries version ok = ok
resume-message-still schema c new number (Written k at) marks queries version ok = ok
resume-message-still schema c new number (Refused k fault) marks queries version ok = ok
resume-message-still schema c new number (Lapse at) marks queries version ok = ok

pub resumes-stand : (db : Database) (old : Pair) (o : Outcome) (new : Client) → Stands db old → ResumeStep db.schema old.client o new → Stands db (acted new old.connection o)
resumes-stand db old o new h (already_up up) = silent (λ l. Stands db (record { client = old.client; connection = l })) old.connection o refl h
resumes-stand db old o new (is_open session h) (resumes m down is) = absurd (let wrong : true ≡ false = sym down ∙ h.up in cc)
resumes-stand db old o new (is_resuming h) (resumes m down is) = absurd (let wrong : true ≡ false = sym down ∙ h.up in cc)
resumes-stand db old o new (is_down h) (resumes m down is) = is_resuming (record {
  up = refl;
  number = old.client.next_request;
  out = refl;
  next = refl;
  laid = h.laid;
  message = m;
  is = resume-message-still db.schema old.client new old.client.next_request m refl refl refl is;
  to_server = ap (λ q. q ++ m ∷ []) h.to_server;
  to_client = h.to_client;
  session_is = h.session_is;
  version = h.version;
})
