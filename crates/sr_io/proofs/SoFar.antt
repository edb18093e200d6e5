-- What whole reads, writes and sends keep from turn to turn.
use Rattle.std.proofs.Common.{◌≡◌, ℕ, Bool, false, ◌+◌, ◌≤◌, List, ◌++◌, length, take, drop, Option, Some, None, option_map, arith, ◌-◌, min, ◌∙◌, ap, sym, refl, append_assoc, length-append, length-drop}
use Rattle.std.proofs.lemmas.Grind.{common_steps}
use Rattle.std.proofs.lemmas.List.{take_at, length-take, drop-drop}
use Rattle.std.proofs.lemmas.Simd.{chunk-drop}
use Rattle.std.proofs.Math.Seq.{take-add, take-append-add}
use Rattle.std.specs.Io.KnownBytes.{Consumes, Appends, IsAtEnd}
use Rattle.sr_io.specs.Pieces.{Lost}
use Rattle.sr_io.specs.Told.{Reading, Writing, Linking, Connection, sent_on, sends, takes}

pub record ReadSoFar (S : Type 0) (reading : S → Reading) (writing : S → Writing) (linking : S → Linking) (held : S → List ℕ → Option (List ℕ)) (complaints : S → Option (List ℕ)) (IsSteady : S → Type 0) (first now : S) (bytes : List ℕ) (limit : ℕ) (more : Bool) : Type 0 where
  pub consumed : Consumes (reading first).left (reading now).left bytes
  pub within : length bytes ≤ limit
  pub ended : more ≡ false → IsAtEnd (reading now).left
  pub same_faults : (reading now).faults ≡ (reading first).faults
  pub stays_steady : IsSteady first → IsSteady now
  pub writing_stays : writing now ≡ writing first
  pub linking_stays : linking now ≡ linking first
  pub held_stays : held now ≡ held first
  pub complaints_stay : complaints now ≡ complaints first

pub record WrittenSoFar (K : Type 0) (reading : K → Reading) (writing : K → Writing) (linking : K → Linking) (held : K → List ℕ → Option (List ℕ)) (complaints : K → Option (List ℕ)) (IsSteady : K → Type 0) (first now : K) (bytes : List ℕ) (at : ℕ) : Type 0 where
  pub within : at ≤ length bytes
  pub appended : Appends (writing first).written (writing now).written (take at bytes)
  pub same_faults : (writing now).faults ≡ (writing first).faults
  pub stays_steady : IsSteady first → IsSteady now
  pub reading_stays : reading now ≡ reading first
  pub linking_stays : linking now ≡ linking first
  pub held_stays : held now ≡ held first
  pub complaints_stay : complaints now ≡ complaints first

pub record SentSoFar (L : Type 0) (reading : L → Reading) (writing : L → Writing) (linking : L → Linking) (held : L → List ℕ → Option (List ℕ)) (complaints : L → Option (List ℕ)) (IsSteady : L → Type 0) (first now : L) (bytes : List ℕ) (at : ℕ) : Type 0 where
  pub within : at ≤ length bytes
  pub sent : linking now ≡ sent_on (take at bytes) (linking first)
  pub none_without_connection : (linking first).is_up ≡ false → at ≡ 0
  pub stays_steady : IsSteady first → IsSteady now
  pub reading_stays : reading now ≡ reading first
  pub writing_stays : writing now ≡ writing first
  pub held_stays : held now ≡ held first
  pub complaints_stay : complaints now ≡ complaints first

-- two pieces that were read, one after the other
pub Consumes-append : (first mid last : Option (List ℕ)) (one two : List ℕ) → Consumes first mid one → Consumes mid last two → Consumes first last (one ++ two)
Consumes-append None mid last one two p q = tt
Consumes-append (Some xs) None last one two p q = absurd p
Consumes-append (Some xs) (Some ys) None one two p q = absurd q
Consumes-append (Some xs) (Some ys) (Some zs) one two p q = grind (arith, common_steps)

-- two pieces that were written, one after the other
pub Appends-append : (first mid last : Option (List ℕ)) (one two : List ℕ) → Appends first mid one → Appends mid last two → Appends first last (one ++ two)
Appends-append None mid last one two p q = tt
Appends-append (Some xs) None last one two p q = absurd p
Appends-append (Some xs) (Some ys) None one two p q = absurd q
Appends-append (Some xs) (Some ys) (Some zs) one two p q = grind (arith, common_steps)

-- two pieces that were sent, one after the other
sends-append : (present : Option Connection) (one two : List ℕ) → option_map (sends two) (option_map (sends one) present) ≡ option_map (sends (one ++ two)) present
sends-append None one two = refl
sends-append (Some c) one two = rw (append_assoc c.sent one two) refl

pub sent_on-append : (l : Linking) (one two : List ℕ) → sent_on two (sent_on one l) ≡ sent_on (one ++ two) l
sent_on-append l one two = rw (sends-append l.present one two) refl

-- bytes that were lost behind those that were read
pub Lost-behind : (first mid last : Option (List ℕ)) (bytes : List ℕ) (limit : ℕ) → Consumes first mid bytes
    → Lost mid last (λ piece. length bytes + length piece ≤ limit) → Lost first last (λ all. length all ≤ limit)
Lost-behind first mid last bytes limit before lost = record {
  bytes = bytes ++ lost.bytes;
  consumed = Consumes-append first mid last bytes lost.bytes before lost.consumed;
  which = omega (arith, length-append bytes lost.bytes, lost.which);
}

pub Lost-exactly : (first mid last : Option (List ℕ)) (bytes : List ℕ) (limit : ℕ) → Consumes first mid bytes
    → Lost mid last (λ piece. length bytes + length piece ≡ limit) → Lost first last (λ all. length all ≡ limit)
Lost-exactly first mid last bytes limit before lost = record {
  bytes = bytes ++ lost.bytes;
  consumed = Consumes-append first mid last bytes lost.bytes before lost.consumed;
  which = omega (arith, length-append bytes lost.bytes, lost.which);
}

-- a piece of the bytes, copied to the front of the room
pub copied_first : (all room copied : List ℕ) (at n : ℕ) → at + n ≤ length all → copied ≡ take n (drop at all)
    → take n (copied ++ drop n room) ≡ take n (drop at all)
copied_first all room copied at n fits is =
    let len : length copied ≡ n = rw is (simp (length-take, length-drop) (omega arith)) in
    rw (take_at copied (drop n room) n len) is

-- a piece of the bytes, and those behind it
pub read_from : (all piece : List ℕ) (at n : ℕ) → piece ≡ take n (drop at all) → drop at all ≡ piece ++ drop (at + n) all
read_from all piece at n is = rw is (chunk-drop at n all)

-- a connection in memory that has given the first bytes of all that it brings
abbrev pub wire_at : List ℕ → List ℕ → List ℕ → ℕ → Connection
wire_at address sent all at = record { address = address; sent = sent; taken = take at all; coming = drop at all }

-- the connection after a piece of its bytes was taken
pub wire_taken : (address sent all piece : List ℕ) (at n : ℕ) → at + n ≤ length all → piece ≡ take n (drop at all)
    → wire_at address sent all (at + n) ≡ takes piece (wire_at address sent all at)
wire_taken address sent all piece at n fits is =
    let len : length piece ≡ n = rw is (simp (length-take, length-drop) (omega arith)) in
    let more : take at all ++ piece ≡ take (at + n) all = grind (arith, common_steps, take-add at n all) in
    let rest : drop (length piece) (drop at all) ≡ drop (at + n) all = rw len (drop-drop n at all) in
    rw (more, rest) refl

-- what still fits behind the bytes that are there
pub room_kept : (xs bs : List ℕ) (n count : ℕ) → length xs ≤ n → count ≡ min (length bs) (n - length xs) → xs ++ take count bs ≡ take n (xs ++ bs)
room_kept xs bs n count fits is =
    let whole : n ≡ length xs + (n - length xs) = omega arith in
    let same : take count bs ≡ take (n - length xs) bs = grind (arith, common_steps, length-take, is) in
    rw same (sym (take-append-add xs bs (n - length xs)) ∙ ap (λ k. take k (xs ++ bs)) (sym whole))
