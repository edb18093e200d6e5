-- Frames: what is spelled is decoded again, and what is decoded was spelled.
use Rattle.std.proofs.Common.{◌≡◌, ℕ, ◌+◌, ◌^◌, ◌<◌, ◌≤◌, Bool, true, false, cond, ltb, eqb, List, [], ◌∷◌, ◌++◌, length, get_or, take, drop, Option, Some, None, refl, sym, ap, subst, ◌∙◌, append_assoc, arith}
use Rattle.std.specs.Prelude.{IsTrue, Result, Ok, Err, nat_le, ◌==◌}
use Rattle.std.specs.Int.{w32, from_be_bytes}
use Rattle.std.proofs.lemmas.Bool.{ltb-false, leb-true, le-leb, le-ltb, eqb-true, eqb-false, ne_eqb, and_from}
use Rattle.std.proofs.lemmas.List.{take_at, drop_at, take-append-drop, length-append, length-take-le, length-drop, take-take, append-nil, get_or_at, get_or-take, append_cancel_left}
use Rattle.std.proofs.Math.Seq.{drop-cons}
use Rattle.std.proofs.lemmas.Nat.{from_be_bytes-to_be_bytes_4}
use Rattle.std.specs.Cmp.{first_so, second_so}
use Rattle.sr_cell.specs.Columns.{are_bytes}
use Rattle.sr_message.specs.declared.message.Message.{Message}
use Rattle.sr_bytes.specs.Reading.{Reading, Got, Bad, a_number}
use Rattle.sr_bytes.specs.Spelling.{count_bytes}
use Rattle.sr_bytes.proofs.Steps.{front_bytes, rest_bytes}
use Rattle.sr_bytes.proofs.Numbers.{count_spelled}
use Rattle.sr_wire.specs.declared.kind.FrameKind.{FrameKind}
use Rattle.sr_wire.specs.declared.kind.FrameKind.TheVariants as kinds
use Rattle.sr_wire.specs.declared.wire_fault.WireFault.{WireFault}
use Rattle.sr_wire.specs.declared.wire_fault.WireFault.TheVariants.{Short, Long, Field}
use Rattle.sr_wire.specs.Kinds.{kind_byte, kind_at}
use Rattle.sr_wire.specs.Spelling.{kind_of, fields_of, body_of, spelling, has_fields, has_spelling, most_bytes}
use Rattle.sr_wire.specs.Reading.{nothing_left, finished, in_frame, go_on, length_if, length_at, kind_or, kind_in, cut, decoded, fields_at, Decoded, Whole}
use Rattle.sr_wire.proofs.Messages.{fields_again, fields_spelled}

-- ---- kinds

pub kind_back : (k : FrameKind) → kind_at (kind_byte k) ≡ Some k
kind_back kinds.Hello = refl
kind_back kinds.Resume = refl
kind_back kinds.Ask = refl
kind_back kinds.Write = refl
kind_back kinds.Welcome = refl
kind_back kinds.Notice = refl
kind_back kinds.Rows = refl
kind_back kinds.Reply = refl
kind_back kinds.Written = refl
kind_back kinds.Refused = refl
kind_back kinds.Lapse = refl

-- one number that is tried, and those behind it
kind_or_later : (n : ℕ) (here k : FrameKind) (b : Bool) (later : Option FrameKind) → eqb n (kind_byte here) ≡ b → (later ≡ Some k → kind_byte k ≡ n)
    → cond b (Some here) later ≡ Some k → kind_byte k ≡ n
kind_or_later n here k true later is more e = let same : here ≡ k = cc in ap kind_byte (sym same) ∙ sym (eqb-true n (kind_byte here) is)
kind_or_later n here k false later is more e = more e

pub kind_is : (n : ℕ) (k : FrameKind) → kind_at n ≡ Some k → kind_byte k ≡ n
kind_is n k =
    kind_or_later n kinds.Hello k (n == 0x01) _ refl
    (kind_or_later n kinds.Resume k (n == 0x02) _ refl
    (kind_or_later n kinds.Ask k (n == 0x03) _ refl
    (kind_or_later n kinds.Write k (n == 0x04) _ refl
    (kind_or_later n kinds.Welcome k (n == 0x11) _ refl
    (kind_or_later n kinds.Notice k (n == 0x12) _ refl
    (kind_or_later n kinds.Rows k (n == 0x13) _ refl
    (kind_or_later n kinds.Reply k (n == 0x14) _ refl
    (kind_or_later n kinds.Written k (n == 0x15) _ refl
    (kind_or_later n kinds.Refused k (n == 0x16) _ refl
    (kind_or_later n kinds.Lapse k (n == 0x17) None refl (λ e. absurd cc)))))))))))

-- ---- lengths

pub count_length : (n : ℕ) → length (count_bytes n) ≡ 4
unfolding count_bytes
count_length n = refl

count_back : (n : ℕ) → n < 2 ^ 32 → from_be_bytes w32 (count_bytes n) ≡ n
unfolding count_bytes
count_back n lt = from_be_bytes-to_be_bytes_4 n lt

-- ---- what is spelled is decoded again

in_frame_again : (m : Message) → IsTrue (has_fields m) → in_frame (kind_of m) (spelling m) ≡ Whole m (length (spelling m))
in_frame_again m h =
    let n = length (body_of m) in
    let head : length (count_bytes n ++ kind_byte (kind_of m) ∷ []) ≡ 5 = omega (arith, count_length n, length-append (count_bytes n) (kind_byte (kind_of m) ∷ [])) in
    let cut_up : spelling m ≡ (count_bytes n ++ kind_byte (kind_of m) ∷ []) ++ fields_of m = sym (append_assoc (count_bytes n) (kind_byte (kind_of m) ∷ []) (fields_of m)) in
    let fields : drop 5 (spelling m) ≡ fields_of m ++ [] = ap (drop 5) cut_up ∙ drop_at (count_bytes n ++ kind_byte (kind_of m) ∷ []) (fields_of m) 5 head ∙ sym (append-nil (fields_of m)) in
    ap (λ (bytes : List ℕ). finished (length (spelling m)) (nothing_left (fields_at (kind_of m) bytes))) fields
    ∙ ap (λ r. finished (length (spelling m)) (nothing_left r)) (fields_again m [] h)

pub decoded_again : (m : Message) (rest : List ℕ) → IsTrue (has_spelling m) → decoded (spelling m ++ rest) ≡ Whole m (length (spelling m))
decoded_again m rest h =
    let n = length (body_of m) in
    let bytes = spelling m ++ rest in
    let fields = first_so (has_fields m) (nat_le n most_bytes) h in
    let most : n ≤ most_bytes = leb-true n most_bytes (second_so (has_fields m) (nat_le n most_bytes) h) in
    let four = count_length n in
    let size : length (spelling m) ≡ 4 + n = omega (arith, four, length-append (count_bytes n) (body_of m)) in
    let all : length bytes ≡ (4 + n) + length rest = omega (arith, size, length-append (spelling m) rest) in
    let regrouped : bytes ≡ count_bytes n ++ (body_of m ++ rest) = append_assoc (count_bytes n) (body_of m) rest in
    let front : take 4 bytes ≡ count_bytes n = ap (take 4) regrouped ∙ take_at (count_bytes n) (body_of m ++ rest) 4 four in
    let number : from_be_bytes w32 (take 4 bytes) ≡ n = ap (from_be_bytes w32) front ∙ count_back n (omega (arith, most)) in
    let enough : ltb (length bytes) 4 ≡ false = le-ltb _ _ (omega (arith, all)) in
    let no_more : ltb most_bytes n ≡ false = le-ltb _ _ most in
    let not_four : eqb (length bytes) 4 ≡ false = ne_eqb (length bytes) 4 (λ e. omega (arith, all, e)) in
    let not_none : eqb n 0 ≡ false = ne_eqb n 0 (λ e. omega (arith, e)) in
    let is_length : length_at bytes ≡ Ok n = rw (enough, number, not_none, no_more, not_four) refl in
    let byte : get_or bytes 4 0 ≡ kind_byte (kind_of m) = ap (λ (bs : List ℕ). get_or bs 4 0) regrouped ∙ get_or_at (count_bytes n) (kind_byte (kind_of m)) (fields_of m ++ rest) 0 4 four in
    let is_kind : kind_in bytes ≡ Ok (kind_of m) = rw byte (ap (kind_or (kind_byte (kind_of m))) (kind_back (kind_of m))) in
    let whole : ltb (length bytes) (n + 4) ≡ false = le-ltb _ _ (omega (arith, all)) in
    let first : take (n + 4) bytes ≡ spelling m = take_at (spelling m) rest (n + 4) (omega (arith, size)) in
    let is_cut : cut (n + 4) bytes ≡ Ok (spelling m) = rw (whole, first) refl in
    ap (λ r. go_on r (λ n. go_on (kind_in bytes) (λ kind. go_on (cut (n + 4) bytes) (in_frame kind)))) is_length
    ∙ ap (λ r. go_on r (λ kind. go_on (cut (n + 4) bytes) (in_frame kind))) is_kind
    ∙ ap (λ r. go_on r (in_frame (kind_of m))) is_cut
    ∙ in_frame_again m fields

-- ---- what is decoded was spelled

record Went {A : Type 0} (r : Result A WireFault) (f : A → Decoded) (m : Message) (size : ℕ) : Type 0 where
  value : A
  is : r ≡ Ok value
  next : f value ≡ Whole m size

went : {A : Type 0} (r : Result A WireFault) (f : A → Decoded) (m : Message) (size : ℕ) → go_on r f ≡ Whole m size → Went r f m size
went (Ok x) f m size e = record { value = x; is = refl; next = e }
went (Err fault) f m size e = absurd cc

not_err : {A : Type 0} (b : Bool) (fault : WireFault) (r : Result A WireFault) (x : A) → cond b (Err fault) r ≡ Ok x → (b ≡ false) × (r ≡ Ok x)
not_err true fault r x e = absurd cc
not_err false fault r x e = (refl, e)

-- a length that may be one
pub record IsLength (bytes : List ℕ) (n : ℕ) : Type 0 where
  pub number : from_be_bytes w32 (take 4 bytes) ≡ n
  pub some : 0 < n
  pub most : n ≤ most_bytes
  pub more : 4 < length bytes

pub length_is : (bytes : List ℕ) (n : ℕ) → length_at bytes ≡ Ok n → IsLength bytes n
length_is bytes n e =
    let k = from_be_bytes w32 (take 4 bytes) in
    let one = not_err (ltb (length bytes) 4) Short (length_if k (length bytes)) n e in
    let two = not_err (eqb k 0) (Field 0) (cond (ltb most_bytes k) (Err (Long k)) (cond (eqb (length bytes) 4) (Err Short) (Ok k))) n one.1 in
    let three = not_err (ltb most_bytes k) (Long k) (cond (eqb (length bytes) 4) (Err Short) (Ok k)) n two.1 in
    let four = not_err (eqb (length bytes) 4) Short (Ok k) n three.1 in
    let same : k ≡ n = let last = four.1 in cc in
    let enough : 4 ≤ length bytes = ltb-false _ _ one.0 in
    let not_none : k ≡ 0 → ⊥ = eqb-false k 0 two.0 in
    let not_four : length bytes ≡ 4 → ⊥ = eqb-false (length bytes) 4 four.0 in
    let few : k ≤ most_bytes = ltb-false _ _ three.0 in
    let some : 0 < k = omega (arith, not_none) in
    let more : 4 < length bytes = omega (arith, enough, not_four) in
    record { number = same; some = subst (λ v. 0 < v) same some; most = subst (λ v. v ≤ most_bytes) same few; more = more }

pub kind_of_option : (b : ℕ) (o : Option FrameKind) (k : FrameKind) → kind_or b o ≡ Ok k → o ≡ Some k
kind_of_option b None k e = absurd cc
kind_of_option b (Some here) k e = let same : here ≡ k = cc in ap Some same

finished_is : (n size : ℕ) (r : Reading Message) (m : Message) → finished n (nothing_left r) ≡ Whole m size → (r ≡ Got m []) × (n ≡ size)
finished_is n size (Got x []) m e = let same : x ≡ m = cc in let count : n ≡ size = cc in (ap (λ v. Got v []) same, count)
finished_is n size (Got x (b ∷ rest)) m e = absurd cc
finished_is n size (Bad rest) m e = absurd cc

-- these bytes are the spelling of the message
pub record IsFrame (frame : List ℕ) (m : Message) (size : ℕ) : Type 0 where
  pub is : frame ≡ spelling m
  pub has : IsTrue (has_spelling m)
  pub size_is : length frame ≡ size

pub frame_is : (bytes : List ℕ) (n : ℕ) (kind : FrameKind) (m : Message) (size : ℕ) → IsTrue (are_bytes bytes) → IsLength bytes n → kind_byte kind ≡ get_or bytes 4 0
    → n + 4 ≤ length bytes → in_frame kind (take (n + 4) bytes) ≡ Whole m size → IsFrame (take (n + 4) bytes) m size
frame_is bytes n kind m size fits l is_kind whole e =
    let frame = take (n + 4) bytes in
    let f = finished_is (length frame) size (fields_at kind (drop 5 frame)) m e in
    let frame_fits = front_bytes bytes frame (drop (n + 4) bytes) (sym (take-append-drop (n + 4) bytes)) fits in
    let fields_fit = rest_bytes frame (take 5 frame) (drop 5 frame) (sym (take-append-drop 5 frame)) frame_fits in
    let g = fields_spelled kind (drop 5 frame) m [] fields_fit f.0 in
    let fields : drop 5 frame ≡ fields_of m = g.parts ∙ append-nil (fields_of m) in
    let long : length frame ≡ n + 4 = length-take-le (n + 4) bytes whole in
    let enough : ltb (length bytes) 4 ≡ false = le-ltb _ _ (omega (arith, l.more)) in
    let read : a_number w32 bytes ≡ Got n (drop 4 bytes) = rw (enough, l.number) refl in
    let counted = count_spelled bytes n (drop 4 bytes) fits read in
    let front : take 4 bytes ≡ count_bytes n = ap (take 4) counted.0 ∙ take_at (count_bytes n) (drop 4 bytes) 4 (count_length n) in
    let some = l.some in
    let four : take 4 frame ≡ count_bytes n = take-take 4 (n + 4) bytes (omega arith) ∙ front in
    let byte : get_or frame 4 0 ≡ kind_byte (kind_of m) = get_or-take (n + 4) bytes 4 0 (omega (arith, some)) ∙ sym is_kind ∙ ap kind_byte (sym g.kind_is) in
    let behind : drop 4 frame ≡ kind_byte (kind_of m) ∷ fields_of m = drop-cons frame 4 0 (omega (arith, long, some)) ∙ rw (byte, fields) refl in
    let count : n ≡ length (body_of m) = omega (arith, long, length-drop 4 frame, ap length behind, some) in
    let parts : frame ≡ count_bytes n ++ body_of m = sym (take-append-drop 4 frame) ∙ rw (four, behind) refl in
    let few : n ≤ most_bytes = l.most in
    let short : IsTrue (nat_le (length (body_of m)) most_bytes) = le-leb (length (body_of m)) most_bytes (omega (arith, few, count)) in
    record {
      is = parts ∙ ap (λ (k : ℕ). count_bytes k ++ body_of m) count;
      has = and_from (has_fields m) (nat_le (length (body_of m)) most_bytes) g.has short;
      size_is = f.1;
    }

-- what bytes were decoded to
pub record IsFront (bytes : List ℕ) (m : Message) (size : ℕ) : Type 0 where
  pub is : take size bytes ≡ spelling m
  pub has : IsTrue (has_spelling m)
  pub size_is : length (spelling m) ≡ size

pub decoded_spelled : (bytes : List ℕ) (m : Message) (size : ℕ) → IsTrue (are_bytes bytes) → decoded bytes ≡ Whole m size → IsFront bytes m size
decoded_spelled bytes m size fits e =
    let one = went (length_at bytes) (λ n. go_on (kind_in bytes) (λ kind. go_on (cut (n + 4) bytes) (in_frame kind))) m size e in
    let n = one.value in
    let two = went (kind_in bytes) (λ kind. go_on (cut (n + 4) bytes) (in_frame kind)) m size one.next in
    let three = went (cut (n + 4) bytes) (in_frame two.value) m size two.next in
    let l = length_is bytes n one.is in
    let kind = kind_is (get_or bytes 4 0) two.value (kind_of_option (get_or bytes 4 0) (kind_at (get_or bytes 4 0)) two.value two.is) in
    let cut_up = not_err (ltb (length bytes) (n + 4)) Short (Ok (take (n + 4) bytes)) three.value three.is in
    let same : take (n + 4) bytes ≡ three.value = let last = cut_up.1 in cc in
    let whole : n + 4 ≤ length bytes = ltb-false _ _ cut_up.0 in
    let f = frame_is bytes n two.value m size fits l kind whole (ap (in_frame two.value) same ∙ three.next) in
    let long : length (take (n + 4) bytes) ≡ n + 4 = length-take-le (n + 4) bytes whole in
    let size_is : n + 4 ≡ size = sym long ∙ f.size_is in
    record {
      is = ap (λ (k : ℕ). take k bytes) (sym size_is) ∙ f.is;
      has = f.has;
      size_is = ap length (sym f.is) ∙ f.size_is;
    }

-- ---- the laws of spellings

-- two spellings that begin the same bytes are one
pub one_spelling : (m k : Message) (a b : List ℕ) → IsTrue (has_spelling m) → IsTrue (has_spelling k) → spelling m ++ a ≡ spelling k ++ b → (m ≡ k) × (a ≡ b)
one_spelling m k a b h g e =
    let both_ways : Whole m (length (spelling m)) ≡ Whole k (length (spelling k)) = sym (decoded_again m a h) ∙ ap decoded e ∙ decoded_again k b g in
    let same : m ≡ k = cc in
    let front : spelling m ≡ spelling k = ap spelling same in
    (same, append_cancel_left (spelling k) a b (ap (λ (t : List ℕ). t ++ a) (sym front) ∙ e))
