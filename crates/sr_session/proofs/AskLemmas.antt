-- The server takes an ask, or pushes.
use Rattle.std.proofs.Common.{◌≡◌, ℕ, ◌+◌, ◌≤◌, Bool, true, false, List, [], ◌∷◌, ◌++◌, map, length, refl, sym, ◌∙◌, ap, subst, arith, Option, Some, None, append_assoc, append-nil}
use Rattle.std.specs.Prelude.{◌&&◌, ◌||◌, ◌==◌}
use Rattle.std.proofs.lemmas.List.Folds.{list_any-append}
use Rattle.sr_cell.specs.declared.table.Table.{Table}
use Rattle.sr_cell.specs.Attrs.{includes}
use Rattle.sr_cell.specs.Cells.{Row}
use Rattle.sr_cell.proofs.Numbers.{eqb_same}
use Rattle.std.proofs.lemmas.Bool.Decides.{nat_tests}
use lib.Bits.{and_self}
use Rattle.sr_box.specs.Points.{in_any}
use Rattle.sr_message.specs.declared.message.Holding.{Holding}
use Rattle.sr_subs.specs.Subscription.{has_point}
use Rattle.sr_message.specs.declared.message.AskPart.{AskPart}
use Rattle.sr_model.specs.Queries.{Query}
use Rattle.sr_model.specs.Statements.{Tables}
use Rattle.sr_history.specs.declared.mark.Mark.{Mark}
use Rattle.sr_history.specs.Marks.{HoldsNothing}
use Rattle.sr_message.specs.declared.message.Message.{Message}
use Rattle.sr_message.specs.declared.message.Message.TheVariants.{Hello, Resume, Ask, Write, Welcome, Notice, Rows, Reply, Written, Refused, Lapse}
use Rattle.sr_session.specs.Sessions.{Database, Session, asked_rows, due, entry_columns, holding_of, is_lost, newest, pieces, reply_messages, row_messages, serve_ask, serve_push, tables_of}
use Rattle.sr_session.specs.Places.{Places, Within, asked, both, held, nowhere}
use Rattle.sr_session.specs.Walks.{AskOut, Comes, Mirror, Request, ResumeOut, Walks, WriteOut, brought, places_after, replied}
use Rattle.sr_session.specs.Clients.{Connection, Flows, IsMessageOf, IsOut, is_idle, is_sent, is_served, mirror_of, pending}
use Rattle.sr_session.specs.Laws.{PushKeeps, TakingAsksKeeps}
use Rattle.sr_session.proofs.PlaceLemmas.{quiet-none, within-on}
use Rattle.sr_session.proofs.SendLemmas.{walks-on, walks-ask, due-walk, push-walk, here}

-- ---- rows

-- messages of rows for one request
abbrev pub AllRows : ℕ → List Message → Type 0
AllRows number [] = Unit {0}
AllRows number (Rows k part rows ∷ ms) = (k ≡ number) × AllRows number ms
AllRows number (m ∷ ms) = ⊥

rows-append : (number : ℕ) (xs ys : List Message) → AllRows number xs → AllRows number ys → AllRows number (xs ++ ys)
rows-append number [] ys a b = b
rows-append number (Rows k part rows ∷ xs) ys a b = (a.0, rows-append number xs ys a.1 b)
rows-append number (Hello wire client k ∷ xs) ys a b = absurd a
rows-append number (Resume wire client k version holdings ∷ xs) ys a b = absurd a
rows-append number (Ask k fresh parts ∷ xs) ys a b = absurd a
rows-append number (Write k sql ∷ xs) ys a b = absurd a
rows-append number (Welcome k version kept ∷ xs) ys a b = absurd a
rows-append number (Notice version told ∷ xs) ys a b = absurd a
rows-append number (Reply k version ∷ xs) ys a b = absurd a
rows-append number (Written k version ∷ xs) ys a b = absurd a
rows-append number (Refused k fault ∷ xs) ys a b = absurd a
rows-append number (Lapse version ∷ xs) ys a b = absurd a

rows-map : (number part : ℕ) (all : List (List Row)) → AllRows number (map (Rows number part) all)
rows-map number part [] = tt
rows-map number part (rows ∷ all) = (refl, rows-map number part all)

pub rows-all : (tables : Tables) (number i : ℕ) (asks : List AskPart) → AllRows number (row_messages tables number i asks)
rows-all tables number i [] = tt
rows-all tables number i (ask ∷ asks) = rows-append number (map (Rows number i) (pieces (length (asked_rows tables ask)) (asked_rows tables ask))) _ (rows-map number i _) (rows-all tables number (i + 1) asks)

-- the mirror once these rows came
abbrev with_rows : Mirror → List Message → Mirror
with_rows m rows = record m { came = m.came ++ rows }

rows-walk : (db : Database) (number query : ℕ) (meaning : Query) (fresh : Bool) (parts : List AskPart) (m : Mirror) (rows rest : List Message) (new : Session) → AllRows number rows
    → ((came : List Message) → came ≡ m.came ++ rows → Walks db (Some (AskOut number query meaning fresh parts)) (record m { came = came }) rest new)
    → Walks db (Some (AskOut number query meaning fresh parts)) m (rows ++ rest) new
rows-walk db number query meaning fresh parts m [] rest new all on = on m.came (sym (append-nil m.came))
rows-walk db number query meaning fresh parts m (Rows k part rows ∷ ms) rest new all on = (
  all.0,
  rows-walk db number query meaning fresh parts (brought m (Rows k part rows)) ms rest new all.1
      (λ came is. on came (is ∙ append_assoc m.came (Rows k part rows ∷ []) ms)),
)
rows-walk db number query meaning fresh parts m (Hello wire client k ∷ ms) rest new all on = absurd all
rows-walk db number query meaning fresh parts m (Resume wire client k version holdings ∷ ms) rest new all on = absurd all
rows-walk db number query meaning fresh parts m (Ask k mode asks ∷ ms) rest new all on = absurd all
rows-walk db number query meaning fresh parts m (Write k sql ∷ ms) rest new all on = absurd all
rows-walk db number query meaning fresh parts m (Welcome k version kept ∷ ms) rest new all on = absurd all
rows-walk db number query meaning fresh parts m (Notice version told ∷ ms) rest new all on = absurd all
rows-walk db number query meaning fresh parts m (Reply k version ∷ ms) rest new all on = absurd all
rows-walk db number query meaning fresh parts m (Written k version ∷ ms) rest new all on = absurd all
rows-walk db number query meaning fresh parts m (Refused k fault ∷ ms) rest new all on = absurd all
rows-walk db number query meaning fresh parts m (Lapse version ∷ ms) rest new all on = absurd all

-- ---- what is asked is subscribed

pub include-self : (a : ℕ) → includes a a ≡ true
include-self a = rw (and_self a) (eqb_same a)

-- over wire 2 each entry has the columns that were asked
pub asked-within : (schema : List Table) (wire : ℕ) (parts : List AskPart) → wire ≡ 2 → Within schema (asked parts) (has_point (map (holding_of wire) parts))
asked-within schema wire [] two t a p point is = is
asked-within schema wire (ask ∷ parts) two t a p point is =
    go (ask.attrs == a) refl is (asked-within schema wire parts two t a p point)
  where
    own : entry_columns wire ask.attrs ≡ ask.attrs
    own = rw two refl

    go : (b : Bool) → (ask.attrs == a) ≡ b → ((ask.table == t && b && in_any ask.rects p) || asked parts t a p) ≡ true
        → (asked parts t a p ≡ true → has_point (map (holding_of wire) parts) t a p ≡ true)
        → ((ask.table == t && includes (entry_columns wire ask.attrs) a && in_any ask.rects p) || has_point (map (holding_of wire) parts) t a p) ≡ true
    go true e is ih =
        let same : ask.attrs ≡ a = grind (arith, nat_tests, e) in
        let inc : includes (entry_columns wire ask.attrs) a ≡ true = ap (λ n. includes n a) (own ∙ same) ∙ include-self a in
        by (ask.table == t && in_any ask.rects p) refl (asked parts t a p) refl is inc ih
      where
        by : (x : Bool) → (ask.table == t && in_any ask.rects p) ≡ x → (y : Bool) → asked parts t a p ≡ y
            → ((ask.table == t && true && in_any ask.rects p) || asked parts t a p) ≡ true → includes (entry_columns wire ask.attrs) a ≡ true
            → (asked parts t a p ≡ true → has_point (map (holding_of wire) parts) t a p ≡ true)
            → ((ask.table == t && includes (entry_columns wire ask.attrs) a && in_any ask.rects p) || has_point (map (holding_of wire) parts) t a p) ≡ true
        by true inside y there is inc ih = grind (arith, inside, inc)
        by false out true there is inc ih = let rest = ih there in grind (arith, rest)
        by false out false gone is inc ih = absurd (grind (arith, out, gone, is))
    go false e is ih = let rest = ih (grind (arith, is)) in grind (arith, rest)

point-append : (one two : List Holding) (t a : ℕ) (p : Row) → has_point (one ++ two) t a p ≡ (has_point one t a p || has_point two t a p)
point-append one two t a p = list_any-append (λ (h : Holding). h.table == t && includes h.attrs a && in_any h.rects p) one two

-- what is held after the reply is subscribed, with the ask's points behind the others
after-within : (schema : List Table) (fresh lapsed : Bool) (parts : List AskPart) (places : Places) (wire : ℕ) (subs : List Holding) → wire ≡ 2 → Within schema places (has_point subs)
    → Within schema (places_after fresh lapsed parts places) (has_point (subs ++ map (holding_of wire) parts))
after-within schema true lapsed parts places wire subs two within = λ t a p point is. point-append subs (map (holding_of wire) parts) t a p ∙ (let e = asked-within schema wire parts two t a p point is in grind (arith, e))
after-within schema false true parts places wire subs two within = λ t a p point is. absurd (cc)
after-within schema false false parts places wire subs two within =
    λ t a p point is. point-append subs (map (holding_of wire) parts) t a p ∙ by (places t a p) refl (within t a p point) (asked-within schema wire parts two t a p point) is
  where
    by : {t a : ℕ} {p : Row} (b : Bool) → places t a p ≡ b → (places t a p ≡ true → has_point subs t a p ≡ true) → (asked parts t a p ≡ true → has_point (map (holding_of wire) parts) t a p ≡ true)
        → both places (asked parts) t a p ≡ true → (has_point subs t a p || has_point (map (holding_of wire) parts) t a p) ≡ true
    by {t} {a} {p} true e one two is = rw (one e) refl
    by {t} {a} {p} false e one two is = let three = two (grind (arith, is, e)) in grind (arith, three)

-- ---- the reply

-- From a mirror that comes to the newest version, with no rows yet, the rows and the reply end in a session that has what is held then.
reply-walk : (db : Database) (number query : ℕ) (meaning : Query) (fresh : Bool) (parts : List AskPart) (m : Mirror) (wire : ℕ) (subs : List Holding) → m.came ≡ [] → Comes db m (newest db)
    → Within db.schema (places_after fresh m.lapsed parts m.places) (has_point subs)
    → Walks db (Some (AskOut number query meaning fresh parts)) m (reply_messages db number parts) (record { wire = wire; subscription = subs; upto = newest db })
reply-walk db number query meaning fresh parts m wire subs none comes within =
    rows-walk db number query meaning fresh parts m rows (Reply number (newest db) ∷ []) _ (rows-all (tables_of db (newest db)) number 0 parts)
    (λ came is. ((refl, comes, is ∙ ap (λ xs. xs ++ rows) none), record { within = within; comes = here db (replied (Some (AskOut number query meaning fresh parts)) (record m { came = came }) (newest db)) }))
  where
    rows : List Message
    rows = row_messages (tables_of db (newest db)) number 0 parts

-- the session that serves an ask
abbrev pub ask_session : Database → Session → Bool → List AskPart → Session
ask_session db session true parts = record { wire = session.wire; subscription = map (holding_of session.wire) parts; upto = newest db }
ask_session db session false parts = record { wire = session.wire; subscription = (due db session).subscription ++ map (holding_of session.wire) parts; upto = newest db }

pub ask-walk : (db : Database) (number query : ℕ) (meaning : Query) (fresh : Bool) (parts : List AskPart) (m : Mirror) (ms : List Message) (session : Session)
    → session.wire ≡ 2 → session.upto ≤ newest db → m.came ≡ [] → (fresh ≡ true → Within db.schema m.places nowhere) → Walks db None m ms session
    → Walks db (Some (AskOut number query meaning fresh parts)) m (ms ++ (serve_ask db session number fresh parts).sent) (ask_session db session fresh parts)
ask-walk db number query meaning true parts m ms session two upto none empty walks =
    walks-ask db (AskOut number query meaning true parts) m ms (reply_messages db number parts) session _ walks
    (λ end ends came fewer. reply-walk db number query meaning true parts end session.wire (map (holding_of session.wire) parts) (came ∙ none)
    (omega (arith, ends.comes.0, upto), quiet-none db end.places (within-on db.schema end.places m.places nowhere fewer (empty refl)) end.version (newest db))
    (asked-within db.schema session.wire parts two))
ask-walk db number query meaning false parts m ms session two upto none empty walks =
    walks-ask db (AskOut number query meaning false parts) m ms ((due db session).sent ++ reply_messages db number parts) session _ walks
    (λ end ends came fewer. due-walk db (Some (AskOut number query meaning false parts)) end session _ (reply_messages db number parts) upto ends (is_lost db session) refl
    (λ x within comes same. reply-walk db number query meaning false parts x session.wire ((due db session).subscription ++ map (holding_of session.wire) parts) (same ∙ (came ∙ none)) comes
    (after-within db.schema false x.lapsed parts x.places session.wire (due db session).subscription two within)))

-- ---- the laws

-- where nothing is held no point is
pub held-nowhere : (schema : List Table) (marks : List Mark) → HoldsNothing schema marks → Within schema (held marks) nowhere
held-nowhere schema marks none t a p point is = let wrong : held marks t a p ≡ false = none t a p point in absurd (cc)

pub session-is : (db : Database) (session next : Session) (number : ℕ) (fresh : Bool) (parts : List AskPart) → (serve_ask db session number fresh parts).session ≡ Some next → ask_session db session fresh parts ≡ next
session-is db session next number true parts e = cc
session-is db session next number false parts e = cc

pub push-keeps : PushKeeps
push-keeps db c l session next h is = record {
  up = h.up;
  session_is = refl;
  wire = subst (λ (s : Session). s.wire ≡ 2) same h.wire;
  upto = subst (λ (s : Session). s.upto ≤ newest db) same (omega arith);
  flows = subst (λ s. Flows db c l' s c.out) same (by c.out h.flows);
}
  where
    now : Session
    now = record { wire = session.wire; subscription = (due db session).subscription; upto = newest db }

    same : now ≡ next
    same = cc

    sent : List Message
    sent = (serve_push db session).sent

    l' : Connection
    l' = record l { to_client = l.to_client ++ sent; session = Some next }

    on : (out : Option Request) (m : Mirror) (ms : List Message) → Walks db out m ms session → Walks db out m (ms ++ sent) now
    on out m ms walks = walks-on db out m ms sent session now walks (λ end ends. push-walk db end session h.upto ends (is_lost db session) refl)

    by : (out : Option Request) → Flows db c l session out → Flows db c l' now out
    by out (is_idle empty none walks) = is_idle empty none (on None (mirror_of c) l.to_client walks)
    by out (is_sent request is_out laid f) =
        is_sent request is_out laid (record {
          message = f.message;
          is = f.is;
          to_server = f.to_server;
          walks = subst (λ ms. Walks db None (mirror_of c) ms now) (append_assoc c.laid l.to_client sent) (on None (mirror_of c) (pending c l) f.walks);
        })
    by out (is_served request is_out laid f) =
        is_served request is_out laid (record {
          to_server = f.to_server;
          walks = subst (λ ms. Walks db (Some request) (mirror_of c) ms now) (append_assoc c.laid l.to_client sent) (on (Some request) (mirror_of c) (pending c l) f.walks);
        })

pub taking-asks-keeps : TakingAsksKeeps
taking-asks-keeps db c l session next number fresh parts h first is = record {
  up = h.up;
  session_is = refl;
  wire = subst (λ (s : Session). s.wire ≡ 2) same (speaks fresh);
  upto = subst (λ (s : Session). s.upto ≤ newest db) same (reaches fresh);
  flows = subst (λ s. Flows db c l' s c.out) same (by c.out h.flows);
}
  where
    now : Session
    now = ask_session db session fresh parts

    same : now ≡ next
    same = session-is db session next number fresh parts is

    sent : List Message
    sent = (serve_ask db session number fresh parts).sent

    l' : Connection
    l' = record { to_server = []; to_client = l.to_client ++ sent; session = Some next }

    speaks : (mode : Bool) → (ask_session db session mode parts).wire ≡ 2
    speaks true = h.wire
    speaks false = h.wire

    reaches : (mode : Bool) → (ask_session db session mode parts).upto ≤ newest db
    reaches true = omega arith
    reaches false = omega arith

    then-served : (k query : ℕ) (meaning : Query) (mode : Bool) (asks : List AskPart) → number ≡ k → fresh ≡ mode → parts ≡ asks → IsOut db.schema c (AskOut k query meaning mode asks)
        → Walks db None (mirror_of c) (pending c l) session → Walks db (Some (AskOut k query meaning mode asks)) (mirror_of c) (pending c l') now
    then-served k query meaning mode asks a b d out walks =
        subst (λ k. Walks db (Some (AskOut k query meaning mode asks)) (mirror_of c) (pending c l') now) a
        (subst (λ mode. Walks db (Some (AskOut number query meaning mode asks)) (mirror_of c) (pending c l') now) b
        (subst (λ asks. Walks db (Some (AskOut number query meaning fresh asks)) (mirror_of c) (pending c l') now) d
        (subst (λ ms. Walks db (Some (AskOut number query meaning fresh parts)) (mirror_of c) ms now) (append_assoc c.laid l.to_client sent)
        (ask-walk db number query meaning fresh parts (mirror_of c) (pending c l) session h.wire h.upto refl (λ yes. held-nowhere db.schema c.marks (out.1.fresh_where.0 (sym b ∙ yes))) walks))))

    by : (out : Option Request) → Flows db c l session out → Flows db c l' now out
    by out (is_idle empty none walks) = absurd (let wrong : Ask number fresh parts ∷ [] ≡ [] = sym first ∙ empty in cc)
    by out (is_served request is_out laid f) = absurd (let wrong : Ask number fresh parts ∷ [] ≡ [] = sym first ∙ f.to_server in cc)
    by out (is_sent (WriteOut k) is_out laid f) =
        let e : f.message ∷ [] ≡ Ask number fresh parts ∷ [] = sym f.to_server ∙ first in
        let one : f.message ≡ Ask number fresh parts = cc in
        absurd (subst (IsMessageOf (WriteOut k)) one f.is)
    by out (is_sent (ResumeOut k) is_out laid f) =
        let e : f.message ∷ [] ≡ Ask number fresh parts ∷ [] = sym f.to_server ∙ first in
        let one : f.message ≡ Ask number fresh parts = cc in
        absurd (subst (IsMessageOf (ResumeOut k)) one f.is)
    by out (is_sent (AskOut k query meaning mode asks) is_out laid f) =
        let e : f.message ∷ [] ≡ Ask number fresh parts ∷ [] = sym f.to_server ∙ first in
        let one : f.message ≡ Ask number fresh parts = cc in
        let are : IsMessageOf (AskOut k query meaning mode asks) (Ask number fresh parts) = subst (IsMessageOf (AskOut k query meaning mode asks)) one f.is in
        is_served (AskOut k query meaning mode asks) is_out laid (record { to_server = refl; walks = then-served k query meaning mode asks are.0 are.1 are.2 is_out f.walks })
