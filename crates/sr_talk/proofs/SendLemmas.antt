-- Messages that are sent, one after another.
use Rattle.std.proofs.Common.{◌≡◌, ◌≢◌, ℕ, ◌+◌, ◌<◌, Bool, true, false, get_or, List, [], ◌∷◌, ◌++◌, length, take, drop, Option, append_assoc, append-nil, refl, sym, ◌∙◌, ap, subst}
use Rattle.std.specs.List.{All}
use Rattle.std.proofs.lemmas.List.{take-append-drop, drop_more}
use Rattle.std.proofs.lemmas.List.Elements.{All-head, All-drop}
use Rattle.std.proofs.Math.Seq.{drop-append_seam}
use Rattle.sr_io.specs.Causes.{Rose}
use Rattle.sr_io.specs.Pieces.{SendsPart}
use Rattle.sr_io.specs.Told.{Reading, Writing, Linking, sent_on}
use Rattle.sr_io.proofs.SoFar.{sent_on-append}
use Rattle.sr_message.specs.declared.message.Message.{Message}
use Rattle.sr_wire.specs.Limits.{IsSendable}
use Rattle.sr_wire.specs.Spelling.{spelling}
use Rattle.sr_talk.specs.Moves.{OnlyLinks, SendsAs, SendsInPart}
use Rattle.sr_talk.specs.Serving.{spelled}
use Rattle.sr_talk.proofs.MoveLemmas.{none-of, nothing-sent, part-behind, part-front}
use Rattle.sr_talk.proofs.TalkLemmas.{spelled-append}

-- ---- some of them were sent, and the others are left

pub record SentOf (first now : Linking) (all left : List Message) : Type 0 where
  pub given : List Message
  pub all_are : all ≡ given ++ left
  pub sent : now ≡ sent_on (spelled given) first

pub none-sent : (l : Linking) (all : List Message) → SentOf l l all all
none-sent l all = record { given = []; all_are = refl; sent = sym (nothing-sent l) }

one-behind : (given : List Message) (m : Message) → spelled (given ++ m ∷ []) ≡ spelled given ++ spelling m
one-behind given m = spelled-append given (m ∷ []) ∙ ap (λ x. spelled given ++ x) (append-nil (spelling m))

module _ (first now new : Linking) (all left : List Message) (h : SentOf first now all left) where
  pub one-sent : (rest : List Message) (m : Message) → left ≡ m ∷ rest → new ≡ sent_on (spelling m) now → SentOf first new all rest
  one-sent rest m next sent = record {
    given = h.given ++ m ∷ [];
    all_are = h.all_are ∙ (ap (λ x. h.given ++ x) next ∙ sym (append_assoc h.given (m ∷ []) rest));
    sent = sent ∙ (ap (sent_on (spelling m)) h.sent ∙ (sent_on-append first (spelled h.given) (spelling m) ∙ ap (λ x. sent_on x first) (sym (one-behind h.given m))));
  }

  -- a part of the next one behind those before is a part of them all
  part-of-left : (rest : List Message) (m : Message) → left ≡ m ∷ rest → SendsPart now new (spelling m) → SendsPart first new (spelled all)
  part-of-left rest m next part =
      let one : SendsPart first new (spelled h.given ++ spelling m) = part-behind first now new (spelled h.given) (spelling m) h.sent part in
      let whole : (spelled h.given ++ spelling m) ++ spelled rest ≡ spelled all =
      append_assoc (spelled h.given) (spelling m) (spelled rest) ∙ (sym (spelled-append h.given (m ∷ rest)) ∙ ap spelled (ap (λ x. h.given ++ x) (sym next) ∙ sym h.all_are)) in
      subst (SendsPart first new) whole (part-front first new (spelled h.given ++ spelling m) (spelled rest) one)

  -- with the fault that is counted
  pub breaks-off : (rest : List Message) (m : Message) (whole : Bool) → left ≡ m ∷ rest → whole ≡ false → SendsAs whole now new (spelling m) → SendsPart first new (spelled all) × Rose first.faults new.faults
  breaks-off rest m true next broken sent = absurd (cc)
  breaks-off rest m false next broken (part, rose) = (part-of-left rest m next part, subst (λ n. Rose n new.faults) (ap (λ (l : Linking). l.faults) h.sent) rose)

  -- out of memory
  pub stops-short : (rest : List Message) (m : Message) → left ≡ m ∷ rest → SendsInPart now new (spelling m) → SendsInPart first new (spelled all)
  stops-short rest m next (part, same) = (part-of-left rest m next part, same ∙ ap (λ (l : Linking). l.faults) h.sent)

  -- which may be sent
  pub left-sendable : (rest : List Message) (m : Message) → left ≡ m ∷ rest → All IsSendable all → IsSendable m
  left-sendable rest m next each =
      All-head IsSendable m rest
      (subst (All IsSendable) (drop-append_seam h.given left ∙ next) (All-drop IsSendable (length h.given) (h.given ++ left) (subst (All IsSendable) h.all_are each)))

-- out of memory before the next one is made
pub stops-before : (first now : Linking) (all left : List Message) → SentOf first now all left → left ≢ [] → SendsInPart first now (spelled all)
stops-before first now all [] h some = absurd (some refl)
stops-before first now all (m ∷ rest) h some = stops-short first now now all (m ∷ rest) h rest m refl (none-of now m)

-- all were sent, once none is left
pub all-sent : (first now : Linking) (all left : List Message) → SentOf first now all left → left ≡ [] → now ≡ sent_on (spelled all) first
all-sent first now all left h none = h.sent ∙ ap (λ ms. sent_on (spelled ms) first) (sym (h.all_are ∙ (ap (λ x. h.given ++ x) none ∙ append-nil h.given)))

-- ---- those of a list, up to a place

pub record SentSoFar (L : Type 0) (reading : L → Reading) (writing : L → Writing) (linking : L → Linking) (held : L → List ℕ → Option (List ℕ)) (complaints : L → Option (List ℕ)) (IsSteady : L → Type 0) (first now : L) (messages : List Message) (index : ℕ) : Type 0 where
  pub sent : linking now ≡ sent_on (spelled (take index messages)) (linking first)
  pub stays : OnlyLinks L reading writing linking held complaints IsSteady first now
  pub up : (linking now).is_up ≡ (linking first).is_up

pub upto : (first now : Linking) (messages : List Message) (i : ℕ) → now ≡ sent_on (spelled (take i messages)) first → SentOf first now messages (drop i messages)
upto first now messages i so_far = record { given = take i messages; all_are = sym (take-append-drop i messages); sent = so_far }

pub next-at : (messages : List Message) (i : ℕ) (m : Message) → i < length messages → m ≡ get_or messages i m → drop i messages ≡ m ∷ drop (i + 1) messages
next-at messages i m within is = drop_more messages i m within ∙ ap (λ x. x ∷ drop (i + 1) messages) (sym is)
