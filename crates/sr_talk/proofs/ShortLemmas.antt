-- What is no whole frame yet is shorter than the longest one.
use Rattle.std.proofs.Common.{◌≡◌, ℕ, ◌+◌, ◌<◌, ◌≤◌, ltb, eqb, List, length, take, refl, sym, ap, ◌∙◌, arith, inl, inr, Option, Some, None}
use Rattle.std.specs.Prelude.{Result, Ok, Err}
use Rattle.std.specs.Int.{w32, from_be_bytes}
use Rattle.std.proofs.lemmas.Bool.{ltb-true, eqb-true, cases_Bool}
use Rattle.sr_message.specs.declared.message.Message.{Message}
use Rattle.sr_bytes.specs.Reading.{Reading, Got, Bad}
use Rattle.sr_wire.specs.declared.kind.FrameKind.{FrameKind}
use Rattle.sr_wire.specs.declared.wire_fault.WireFault.{WireFault}
use Rattle.sr_wire.specs.declared.wire_fault.WireFault.TheVariants.{Short, Long, Field}
use Rattle.sr_wire.specs.Reading.{decoded, Faulty, go_on, length_at, length_if, kind_or, kind_in, cut, in_frame, finished, nothing_left, fields_at}
use Rattle.sr_wire.specs.Spelling.{most_bytes}
use Rattle.sr_wire.proofs.Frames.{length_is}

finished-not-short : (size : ℕ) (r : Reading Message) → finished size r ≡ Faulty Short → ⊥
finished-not-short size (Got message rest) e = cc
finished-not-short size (Bad rest) e = cc

kind-not-short : (byte : ℕ) (kind : Option FrameKind) → kind_or byte kind ≡ Err Short → ⊥
kind-not-short byte None e = cc
kind-not-short byte (Some kind) e = cc

-- a length that is not there yet
length-short : (n there : ℕ) → length_if n there ≡ Err Short → there ≡ 4
length-short n there e =
    elim (cases_Bool (eqb n 0)) [
      | inl none ↦ absurd (let wrong : Err (Field 0) ≡ Err Short = sym (rw none refl) ∙ e in cc)
      | inr some ↦ elim (cases_Bool (ltb most_bytes n)) [
        | inl long ↦ absurd (let wrong : Err (Long n) ≡ Err Short = sym (rw (some, long) refl) ∙ e in cc)
        | inr few ↦ elim (cases_Bool (eqb there 4)) [
          | inl four ↦ eqb-true there 4 four
          | inr other ↦ absurd (let wrong : Ok n ≡ Err Short = sym (rw (some, few, other) refl) ∙ e in cc)
        ]
      ]
    ]

at-short : (bytes : List ℕ) → length_at bytes ≡ Err Short → length bytes ≤ 4
at-short bytes e =
    elim (cases_Bool (ltb (length bytes) 4)) [
      | inl few ↦ (let lt : length bytes < 4 = ltb-true _ _ few in omega (arith, lt))
      | inr enough ↦
          (let same : length_if (from_be_bytes w32 (take 4 bytes)) (length bytes) ≡ Err Short = sym (rw enough refl) ∙ e in
          let four = length-short (from_be_bytes w32 (take 4 bytes)) (length bytes) same in
          omega (arith, four))
    ]

cut-short : (bytes : List ℕ) (n : ℕ) (kind : FrameKind) → go_on (cut (n + 4) bytes) (in_frame kind) ≡ Faulty Short → length bytes < n + 4
cut-short bytes n kind e =
    elim (cases_Bool (ltb (length bytes) (n + 4))) [
      | inl few ↦ ltb-true _ _ few
      | inr enough ↦ absurd (finished-not-short (length (take (n + 4) bytes)) (nothing_left (fields_at kind (Rattle.std.specs.Prelude.drop 5 (take (n + 4) bytes)))) (sym (rw enough refl) ∙ e))
    ]

kind-short : (bytes : List ℕ) (n : ℕ) (r : Result FrameKind WireFault) → (r ≡ Err Short → ⊥) → go_on r (λ kind. go_on (cut (n + 4) bytes) (in_frame kind)) ≡ Faulty Short → length bytes < n + 4
kind-short bytes n (Ok kind) other e = cut-short bytes n kind e
kind-short bytes n (Err fault) other e = let same : fault ≡ Short = cc in absurd (other (ap Err same))

pub short-small : (bytes : List ℕ) → decoded bytes ≡ Faulty Short → length bytes < 134217732
short-small bytes e = by (length_at bytes) refl e
  where
    by : (r : Result ℕ WireFault) → length_at bytes ≡ r → go_on r (λ n. go_on (kind_in bytes) (λ kind. go_on (cut (n + 4) bytes) (in_frame kind))) ≡ Faulty Short → length bytes < 134217732
    by (Ok n) is e =
        let l = length_is bytes n is in
        let most : n ≤ 134217728 = l.most in
        let below = kind-short bytes n (kind_in bytes) (kind-not-short _ _) e in
        omega (arith, most, below)
    by (Err fault) is e =
        let same : fault ≡ Short = cc in
        let few = at-short bytes (is ∙ ap Err same) in
        omega (arith, few)
