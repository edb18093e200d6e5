-- What a seat was given so far of an answer.
use Rattle.std.proofs.Common.{◌≡◌, ℕ, ◌+◌, List, [], ◌∷◌, ◌++◌, length, arith, append_assoc, append-nil, length-append, refl, sym, ◌∙◌, ap, subst}
use Rattle.std.specs.List.{All}
use Rattle.std.proofs.lemmas.List.Elements.{All-head, All-drop}
use Rattle.std.proofs.Math.Seq.{drop-append_seam}
use Rattle.sr_message.specs.declared.message.Message.{Message}
use Rattle.sr_wire.specs.Limits.{IsSendable}
use Rattle.sr_session.specs.Scenes.{Taken, taken}
use Rattle.sr_session.specs.Sessions.{Database}
use Rattle.sr_server.specs.declared.outbox.Outbox.{Outbox}
use Rattle.sr_server.specs.declared.server.Server.{Server}
use Rattle.sr_server.specs.Outboxes.{Begins}
use Rattle.sr_server.specs.Servers.{IsServer, session_at}
use Rattle.sr_world.specs.declared.seat.Seat.{Seat}
use Rattle.sr_world.proofs.Over.{grows-taken}
use Rattle.sr_world.proofs.Sound.{sound-of}

-- so many of all messages; the others are left
pub record GivenSoFar (old now : Seat) (all left : List Message) (count : ℕ) : Type 0 where
  pub given : List Message
  pub all_are : all ≡ given ++ left
  pub seat : now ≡ record old { to_client = old.to_client ++ given }
  pub count_is : count ≡ length given

pub none-given : (seat : Seat) (all : List Message) → GivenSoFar seat seat all all 0
none-given seat all = record { given = []; all_are = refl; seat = ap (λ ms. record seat { to_client = ms }) (sym (append-nil seat.to_client)); count_is = refl }

-- one more
pub one-more : (old now new : Seat) (all left rest : List Message) (m : Message) (count : ℕ) → GivenSoFar old now all left count → left ≡ m ∷ rest → new ≡ record now { to_client = now.to_client ++ m ∷ [] }
    → GivenSoFar old new all rest (count + 1)
one-more old now new all left rest m count h first pushed =
    let count_is = h.count_is in
    record {
      given = h.given ++ m ∷ [];
      all_are = h.all_are ∙ (ap (λ ms. h.given ++ ms) first ∙ sym (append_assoc h.given (m ∷ []) rest));
      seat = pushed ∙ (ap (λ (s : Seat). record s { to_client = s.to_client ++ m ∷ [] }) h.seat
          ∙ ap (λ ms. record old { to_client = ms }) (append_assoc old.to_client h.given (m ∷ [])));
      count_is = omega (arith, count_is, length-append h.given (m ∷ []));
    }

-- which may be sent
pub next-sendable : (old now : Seat) (all left rest : List Message) (m : Message) (count : ℕ) → GivenSoFar old now all left count → left ≡ m ∷ rest → All IsSendable all → IsSendable m
next-sendable old now all left rest m count h first each =
    All-head IsSendable m rest
    (subst (All IsSendable) (drop-append_seam h.given left ∙ first) (All-drop IsSendable (length h.given) (h.given ++ left) (subst (All IsSendable) h.all_are each)))

-- all of them, once none is left
pub record AllGiven (old now : Seat) (all : List Message) (count : ℕ) : Type 0 where
  pub seat : now ≡ record old { to_client = old.to_client ++ all }
  pub count_is : count ≡ length all

pub all-given : (old now : Seat) (all left : List Message) (count : ℕ) → GivenSoFar old now all left count → left ≡ [] → AllGiven old now all count
all-given old now all left count h none =
    let same : all ≡ h.given = h.all_are ∙ (ap (λ ms. h.given ++ ms) none ∙ append-nil h.given) in
    record { seat = h.seat ∙ ap (λ ms. record old { to_client = old.to_client ++ ms }) (sym same); count_is = h.count_is ∙ ap length (sym same) }

-- the schema stays where a message is begun
pub begins-schema : (db : Database) (server after : Server) (client : ℕ) (m : Message) (outbox : Outbox) → IsServer server db → Begins db server client m outbox after
    → after.tables.schema ≡ server.tables.schema
begins-schema db server after client m outbox is b =
    let d : Taken = taken db (session_at server.sessions client) m b.result in
    b.stands.knows.schema ∙ ((grows-taken db (session_at server.sessions client) m b.result (sound-of d.database b.stands.sound)).schema ∙ sym is.knows.schema)
