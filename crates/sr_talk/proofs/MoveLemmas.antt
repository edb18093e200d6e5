-- What goes over a connection, piece by piece.
use Rattle.std.proofs.Common.{◌≡◌, ℕ, ◌+◌, List, [], ◌++◌, length, take, Option, Some, None, arith, option_map, append_assoc, refl, sym, ◌∙◌, ap, subst, length-append, append-nil}
use Rattle.std.specs.Prelude.{Result, Ok, Err, OnErr}
use Rattle.std.proofs.lemmas.List.{drop-drop, take-append-le}
use Rattle.std.proofs.Math.Seq.{take-add, take-append-add}
use Rattle.sr_io.specs.Pieces.{SendsPart}
use Rattle.sr_io.specs.Told.{Reading, Writing, Linking, Connection, sends, takes, sent_on, taken_from, OnlyFaults, Brings}
use Rattle.sr_io.proofs.SoFar.{sent_on-append}
use Rattle.sr_message.specs.declared.message.Message.{Message}
use Rattle.sr_bytes.specs.Spelling.{count_bytes}
use Rattle.sr_wire.specs.Spelling.{body_of, spelling}
use Rattle.sr_talk.specs.Moves.{OnlyLinks, SendsInPart}

takes-more : (p : Option Connection) (one two : List ℕ) → option_map (takes two) (option_map (takes one) p) ≡ option_map (takes (one ++ two)) p
takes-more None one two = refl
takes-more (Some c) one two = rw (append_assoc c.taken one two, length-append one two, drop-drop (length two) (length one) c.coming) refl

pub taken_from-more : (l : Linking) (one two : List ℕ) → taken_from two (taken_from one l) ≡ taken_from (one ++ two) l
taken_from-more l one two = rw (takes-more l.present one two) refl

takes-behind : (p : Option Connection) (s t : List ℕ) → option_map (takes t) (option_map (sends s) p) ≡ option_map (sends s) (option_map (takes t) p)
takes-behind None s t = refl
takes-behind (Some c) s t = refl

pub taken-behind : (l : Linking) (s t : List ℕ) → taken_from t (sent_on s l) ≡ sent_on s (taken_from t l)
taken-behind l s t = rw (takes-behind l.present s t) refl

pub brings-more : (p : Option Connection) (a b : List ℕ) → Brings p a → Brings (option_map (takes a) p) b → Brings p (a ++ b)
brings-more None a b one more = tt
brings-more (Some c) a b one more = rw (length-append a b, take-add (length a) (length b) c.coming, one, more) refl

pub brings-behind : (p : Option Connection) (s b : List ℕ) → Brings (option_map (sends s) p) b → Brings p b
brings-behind None s b brings = tt
brings-behind (Some c) s b brings = brings

sends-nothing : (p : Option Connection) → option_map (sends []) p ≡ p
sends-nothing None = refl
sends-nothing (Some c) = rw (append-nil c.sent) refl

pub nothing-sent : (l : Linking) → sent_on [] l ≡ l
nothing-sent l = rw (sends-nothing l.present) refl

-- what holds anyway holds where a call gave an error
pub so-in-err : {T E P : Type 0} (r : Result T E) → P → OnErr r P
so-in-err {T} {E} {P} (Ok x) p = tt
so-in-err {T} {E} {P} (Err e) p = p

pub same-link : (l : Linking) → OnlyFaults l l
same-link l = record { past = refl; present = refl; peers = refl; docked = refl; is_up = refl }

-- a frame has some bytes, of which none was sent
pub none-of : (l : Linking) (m : Message) → SendsInPart l l (spelling m)
none-of l m =
    (record { count = 0; fewer = omega (arith, length-append (count_bytes (length (body_of m))) (body_of m)); sent = subst (λ x. OnlyFaults x l) (sym (nothing-sent l)) (same-link l) }, refl)

-- a part behind what was sent is a part of both
pub part-behind : (old now new : Linking) (one two : List ℕ) → now ≡ sent_on one old → SendsPart now new two → SendsPart old new (one ++ two)
part-behind old now new one two is part =
    let fewer = part.fewer in
    let same : sent_on (take part.count two) now ≡ sent_on (take (length one + part.count) (one ++ two)) old =
    ap (sent_on (take part.count two)) is ∙ (sent_on-append old one (take part.count two) ∙ ap (λ bytes. sent_on bytes old) (sym (take-append-add one two part.count))) in
    record {
      count = length one + part.count;
      fewer = omega (arith, fewer, length-append one two);
      sent = subst (λ l. OnlyFaults l new) same part.sent;
    }

-- and of more than both
pub part-front : (old new : Linking) (one two : List ℕ) → SendsPart old new one → SendsPart old new (one ++ two)
part-front old new one two part =
    let fewer = part.fewer in
    record {
      count = part.count;
      fewer = omega (arith, fewer, length-append one two);
      sent = subst (λ bytes. OnlyFaults (sent_on bytes old) new) (sym (take-append-le part.count one two (omega (arith, fewer)))) part.sent;
    }

-- ---- what stays

module _ (L : Type 0) (reading : L → Reading) (writing : L → Writing) (linking : L → Linking) (held : L → List ℕ → Option (List ℕ)) (complaints : L → Option (List ℕ)) (IsSteady : L → Type 0) where
  pub stays-on : (a b c : L) → OnlyLinks L reading writing linking held complaints IsSteady a b → OnlyLinks L reading writing linking held complaints IsSteady b c → OnlyLinks L reading writing linking held complaints IsSteady a c
  stays-on a b c one two =
      let x = one.faults_never_fall in
      let y = two.faults_never_fall in
      record {
        stays_steady = λ s. two.stays_steady (one.stays_steady s);
        reading_stays = two.reading_stays ∙ one.reading_stays;
        writing_stays = two.writing_stays ∙ one.writing_stays;
        held_stays = two.held_stays ∙ one.held_stays;
        complaints_stay = two.complaints_stay ∙ one.complaints_stay;
        faults_never_fall = omega (arith, x, y);
      }
