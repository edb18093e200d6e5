-- Deliveries one after another.
use Rattle.std.proofs.Common.{◌≡◌, ℕ, suc, ◌+◌, false, List, [], ◌∷◌, ◌++◌, refl, sym, ◌∙◌, subst, arith, append_assoc, append-nil, Some, None}
use Rattle.sr_message.specs.declared.message.Message.{Message}
use Rattle.sr_script.specs.declared.line.TraceLine.{TraceLine}
use Rattle.sr_lines.specs.Events.{DoToClient, DoToServer, ScriptEvent}
use Rattle.sr_session.specs.Scenes.{Scene}
use Rattle.sr_server.specs.declared.server.Server.{Server}
use Rattle.sr_runs.specs.Runs.{Acts, Settles, delivers, is_quiet, next_delivery, next_of}
use Rattle.sr_world.specs.declared.seat.Seat.{Seat}
use Rattle.sr_world.specs.Seats.{Delivers, IsSomeSeat, LeavesOthers, SeatGoes, has_mail}

-- ---- one after another

others-twice : (s mid next : Scene) (n : ℕ) (one two three : Server) → LeavesOthers s mid n one two → LeavesOthers mid next n two three → LeavesOthers s next n one three
others-twice s mid next n one two three a b = record {
  limits = b.limits ∙ a.limits;
  count = b.count ∙ a.count;
  schema = b.schema ∙ a.schema;
  pairs = λ k differ. b.pairs k differ ∙ a.pairs k differ;
  sessions = λ k number differ. b.sessions k number differ ∙ a.sessions k number differ;
  clients = λ past c stands. b.clients past c (a.clients past c stands);
}

-- what was some seat's still is
pub still-some : (Leads : ℕ → Scene → List TraceLine → Scene → Type 0) (old new : Seat) (server after : Server) (lines : List TraceLine) → IsSomeSeat old server → SeatGoes Leads old server new after lines
    → IsSomeSeat new after
still-some Leads old new server after lines some goes = let l = goes some.0 some.1 some.2 in (l.next, some.1, l.stands)

pub delivers-none : (seat : Seat) (server : Server) → SeatGoes (λ n. Delivers 0 n) seat server seat server []
delivers-none seat server = λ s n h. record {
  next = s;
  leads = λ more rest last settles. (let sum : more ≡ 0 + more = omega arith in subst (λ f. Settles n s f rest last) sum settles);
  stands = h;
  others = record { limits = refl; count = refl; schema = refl; pairs = λ k differ. refl; sessions = λ k number differ. refl; clients = λ past c stands. stands };
}

-- deliveries, and then others
pub delivers-both : (j k : ℕ) (one two three : Seat) (a b c : Server) (lines others : List TraceLine) → SeatGoes (λ n. Delivers j n) one a two b lines → SeatGoes (λ n. Delivers k n) two b three c others
    → SeatGoes (λ n. Delivers (j + k) n) one a three c (lines ++ others)
delivers-both j k one two three a b c lines others first later = λ s n h.
    let x = first s n h in
    let y = later x.next n x.stands in
    record {
      next = y.next;
      leads = λ more rest last settles.
          let all = x.leads (k + more) (others ++ rest) last (y.leads more rest last settles) in
          let sum : j + (k + more) ≡ (j + k) + more = omega arith in
          subst (λ f. Settles n s f ((lines ++ others) ++ rest) last) sum (subst (λ ls. Settles n s (j + (k + more)) ls last) (sym (append_assoc lines others rest)) all);
      stands = y.stands;
      others = others-twice s x.next y.next n a b c x.others y.others;
    }

-- one delivery
delivers-one : (what : ℕ → ScriptEvent) (one two : Seat) (a b : Server) (lines : List TraceLine) → ((n : ℕ) → next_of n one.to_server one.to_client ≡ Some (what n))
    → SeatGoes (λ n s. Acts s (what n)) one a two b lines → SeatGoes (λ n. Delivers 1 n) one a two b lines
delivers-one what one two a b lines is goes = λ s n h.
    let x = goes s n h in
    record {
      next = x.next;
      leads = λ more rest last settles.
          let turn : next_delivery n h.pair.connection ≡ Some (what n) = subst (λ ms. next_of n ms h.pair.connection.to_client ≡ Some (what n)) h.seat.to_server (subst (λ ms. next_of n one.to_server ms ≡ Some (what n)) h.seat.to_client (is n)) in
          let all = delivers s h.pair (what n) lines x.next more rest last h.there turn x.leads settles in
          let sum : suc more ≡ 1 + more = omega arith in
          subst (λ f. Settles n s f (lines ++ rest) last) sum all;
      stands = x.stands;
      others = x.others;
    }

server-turn : (n : ℕ) (to_server to_client : List Message) → (to_server ≡ [] → ⊥) → next_of n to_server to_client ≡ Some (DoToServer n)
server-turn n [] to_client some = absurd (some refl)
server-turn n (m ∷ to_server) to_client some = refl

client-turn : (n : ℕ) (to_server to_client : List Message) → to_server ≡ [] → (to_client ≡ [] → ⊥) → next_of n to_server to_client ≡ Some (DoToClient n)
client-turn n [] [] none some = absurd (some refl)
client-turn n [] (m ∷ to_client) none some = refl
client-turn n (m ∷ to_server) to_client none some = absurd (cc)

pub serves-more : (k : ℕ) (one two three : Seat) (a b c : Server) (lines others : List TraceLine) → (two.to_server ≡ [] → ⊥) → SeatGoes (λ n. Delivers k n) one a two b lines
    → SeatGoes (λ n s. Acts s (DoToServer n)) two b three c others → SeatGoes (λ n. Delivers (k + 1) n) one a three c (lines ++ others)
serves-more k one two three a b c lines others some first later =
    delivers-both k 1 one two three a b c lines others first (delivers-one (λ n. DoToServer n) two three b c others (λ n. server-turn n two.to_server two.to_client some) later)

pub receives-more : (k : ℕ) (one two three : Seat) (a b c : Server) (lines others : List TraceLine) → two.to_server ≡ [] → (two.to_client ≡ [] → ⊥) → SeatGoes (λ n. Delivers k n) one a two b lines
    → SeatGoes (λ n s. Acts s (DoToClient n)) two b three c others → SeatGoes (λ n. Delivers (k + 1) n) one a three c (lines ++ others)
receives-more k one two three a b c lines others none some first later =
    delivers-both k 1 one two three a b c lines others first (delivers-one (λ n. DoToClient n) two three b c others (λ n. client-turn n two.to_server two.to_client none some) later)

-- ---- until nothing is left

no-mail : (n : ℕ) (to_server to_client : List Message) → has_mail to_server to_client ≡ false → next_of n to_server to_client ≡ None
no-mail n [] [] none = refl
no-mail n [] (m ∷ to_client) none = absurd (cc)
no-mail n (m ∷ to_server) to_client none = absurd (cc)

pub settles-all : (k : ℕ) (one two : Seat) (a b : Server) (lines : List TraceLine) → has_mail two.to_server two.to_client ≡ false → SeatGoes (λ n. Delivers k n) one a two b lines
    → SeatGoes (λ n s. Settles n s k) one a two b lines
settles-all k one two a b lines none goes = λ s n h.
    let x = goes s n h in
    let quiet : next_delivery n x.stands.pair.connection ≡ None =
    subst (λ ms. next_of n ms x.stands.pair.connection.to_client ≡ None) x.stands.seat.to_server (subst (λ ms. next_of n two.to_server ms ≡ None) x.stands.seat.to_client (no-mail n two.to_server two.to_client none)) in
    let all = x.leads 0 [] x.next (is_quiet x.next x.stands.pair x.stands.there quiet) in
    let sum : k + 0 ≡ k = omega arith in
    record {
      next = x.next;
      leads = subst (λ f. Settles n s f lines x.next) sum (subst (λ ls. Settles n s (k + 0) ls x.next) (append-nil lines) all);
      stands = x.stands;
      others = x.others;
    }
