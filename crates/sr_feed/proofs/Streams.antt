-- A stream is one list of frames.
use Rattle.std.proofs.Common.{◌≡◌, ℕ, List, [], ◌∷◌, ◌++◌, length, drop, refl, sym, ap, ◌∙◌, append_assoc}
use Rattle.std.specs.Prelude.{◌≢◌, IsTrue}
use Rattle.std.specs.List.{flat_map, list_all}
use Rattle.std.proofs.lemmas.List.Concat.{flat_map-cons}
use Rattle.std.proofs.lemmas.List.{drop_at}
use Rattle.std.specs.Cmp.{first_so, second_so}
use Rattle.sr_message.specs.declared.message.Message.{Message}
use Rattle.sr_wire.specs.declared.wire_fault.WireFault.{WireFault}
use Rattle.sr_wire.specs.declared.wire_fault.WireFault.TheVariants.{Short}
use Rattle.sr_wire.specs.Spelling.{spelling, has_spelling}
use Rattle.sr_wire.specs.Reading.{Whole, Faulty, decoded}
use Rattle.sr_wire.proofs.Frames.{decoded_again, one_spelling}
use Rattle.sr_wire.proofs.Staying.{answer_stays}
use Rattle.sr_feed.specs.Stream.{Splits}
use Rattle.sr_feed.specs.Laws.{AreInOrder}

-- the first frame, and the others behind it
front : (m : Message) (ms : List Message) (rest : List ℕ) → flat_map spelling (m ∷ ms) ++ rest ≡ spelling m ++ (flat_map spelling ms ++ rest)
front m ms rest = ap (λ (t : List ℕ). t ++ rest) (flat_map-cons spelling m ms) ∙ append_assoc (spelling m) (flat_map spelling ms) rest

-- no fault stands where a frame does
not_faulty : (m : Message) (more rest : List ℕ) (fault : WireFault) → IsTrue (has_spelling m) → spelling m ++ more ≡ rest → decoded rest ≡ Faulty fault → ⊥
not_faulty m more rest fault h e ends =
    let both_ways : Whole m (length (spelling m)) ≡ Faulty fault = sym (decoded_again m more h) ∙ ap decoded e ∙ ends in
    cc

once : (ms ks : List Message) (a b : List ℕ) (f g : WireFault) → IsTrue (list_all has_spelling ms) → IsTrue (list_all has_spelling ks)
    → decoded a ≡ Faulty f → decoded b ≡ Faulty g → flat_map spelling ms ++ a ≡ flat_map spelling ks ++ b → (ms ≡ ks) × (a ≡ b)
once [] [] a b f g hm hk ea eb e = (refl, e)
once [] (k ∷ ks) a b f g hm hk ea eb e =
    absurd (not_faulty k (flat_map spelling ks ++ b) a f (first_so (has_spelling k) (list_all has_spelling ks) hk) (sym (front k ks b) ∙ sym e) ea)
once (m ∷ ms) [] a b f g hm hk ea eb e =
    absurd (not_faulty m (flat_map spelling ms ++ a) b g (first_so (has_spelling m) (list_all has_spelling ms) hm) (sym (front m ms a) ∙ e) eb)
once (m ∷ ms) (k ∷ ks) a b f g hm hk ea eb e =
    let first = one_spelling m k (flat_map spelling ms ++ a) (flat_map spelling ks ++ b)
    (first_so (has_spelling m) (list_all has_spelling ms) hm) (first_so (has_spelling k) (list_all has_spelling ks) hk)
    (sym (front m ms a) ∙ e ∙ front k ks b) in
    let others = once ms ks a b f g (second_so (has_spelling m) (list_all has_spelling ms) hm) (second_so (has_spelling k) (list_all has_spelling ks) hk) ea eb first.1 in
    let head = first.0 in
    let tail = others.0 in
    (cc, others.1)

pub splits_once : (stream : List ℕ) (ms ks : List Message) (a b : List ℕ) (f g : WireFault) → Splits stream ms a f → Splits stream ks b g → (ms ≡ ks) × (a ≡ b) × (f ≡ g)
splits_once stream ms ks a b f g s t =
    let same = once ms ks a b f g s.each t.each s.ends t.ends (sym s.whole ∙ t.whole) in
    let faults : Faulty f ≡ Faulty g = sym s.ends ∙ ap decoded same.1 ∙ t.ends in
    (same.0, same.1, cc)

pub faults_stay : (stream more : List ℕ) (ms : List Message) (rest : List ℕ) (fault : WireFault) → fault ≢ Short → Splits stream ms rest fault → Splits (stream ++ more) ms (rest ++ more) fault
faults_stay stream more ms rest fault other s = record {
  whole = ap (λ (t : List ℕ). t ++ more) s.whole ∙ append_assoc (flat_map spelling ms) rest more;
  each = s.each;
  ends = answer_stays rest more (λ e. other (let faults : Faulty fault ≡ Faulty Short = sym s.ends ∙ e in cc)) ∙ s.ends;
}

pub in_order : (stream : List ℕ) (m : Message) (ms : List Message) (rest : List ℕ) (fault : WireFault) → Splits stream (m ∷ ms) rest fault → AreInOrder stream m ms rest fault
in_order stream m ms rest fault s =
    let more = flat_map spelling ms ++ rest in
    let parts : stream ≡ spelling m ++ more = s.whole ∙ front m ms rest in
    record {
      first = ap decoded parts ∙ decoded_again m more (first_so (has_spelling m) (list_all has_spelling ms) s.each);
      others = record {
        whole = ap (drop (length (spelling m))) parts ∙ drop_at (spelling m) more (length (spelling m)) refl;
        each = second_so (has_spelling m) (list_all has_spelling ms) s.each;
        ends = s.ends;
      };
    }

pub none_in_front : (stream rest : List ℕ) (fault : WireFault) → Splits stream [] rest fault → decoded stream ≡ Faulty fault
none_in_front stream rest fault s = ap decoded s.whole ∙ s.ends
