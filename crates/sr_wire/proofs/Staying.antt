-- An answer that does not wait for more bytes stays, whatever comes behind.
use Rattle.std.proofs.Common.{◌≡◌, ℕ, ◌+◌, ◌<◌, ◌≤◌, false, ltb, eqb, List, ◌++◌, length, get_or, take, refl, sym, ap, ◌∙◌, arith, inl, inr}
use Rattle.std.specs.Prelude.{Result, Ok, Err}
use Rattle.std.specs.Int.{w32, from_be_bytes}
use Rattle.std.proofs.lemmas.Bool.{ltb-false, le-ltb, eqb-false, ne_eqb, cases_Bool}
use Rattle.std.proofs.lemmas.List.{length-append, take-append-le, get_or_append_left}
use Rattle.sr_wire.specs.declared.kind.FrameKind.{FrameKind}
use Rattle.sr_wire.specs.declared.wire_fault.WireFault.{WireFault}
use Rattle.sr_wire.specs.declared.wire_fault.WireFault.TheVariants.{Short}
use Rattle.sr_wire.specs.Kinds.{kind_at}
use Rattle.sr_wire.specs.Spelling.{most_bytes}
use Rattle.sr_wire.specs.Reading.{Decoded, Faulty, go_on, length_if, length_at, kind_or, kind_in, cut, in_frame, decoded}

abbrev with_kind : List ℕ → ℕ → FrameKind → Decoded
with_kind bytes n kind = go_on (cut (n + 4) bytes) (in_frame kind)

abbrev with_length : List ℕ → ℕ → Decoded
with_length bytes n = go_on (kind_in bytes) (with_kind bytes n)

kind_stays : (bytes more : List ℕ) (n : ℕ) (kind : FrameKind) → (with_kind bytes n kind ≡ Faulty Short → ⊥) → with_kind (bytes ++ more) n kind ≡ with_kind bytes n kind
kind_stays bytes more n kind h =
    elim (cases_Bool (ltb (length bytes) (n + 4))) [
      | inl few ↦ absurd (h (rw few refl))
      | inr enough ↦
          (let le : n + 4 ≤ length bytes = ltb-false _ _ enough in
          let still : ltb (length (bytes ++ more)) (n + 4) ≡ false = le-ltb _ _ (omega (arith, le, length-append bytes more)) in
          rw (still, enough, take-append-le (n + 4) bytes more le) refl)
    ]

go_on_stays : (bytes more : List ℕ) (n : ℕ) (r : Result FrameKind WireFault) → (go_on r (with_kind bytes n) ≡ Faulty Short → ⊥)
    → go_on r (with_kind (bytes ++ more) n) ≡ go_on r (with_kind bytes n)
go_on_stays bytes more n (Ok kind) h = kind_stays bytes more n kind h
go_on_stays bytes more n (Err fault) h = refl

length_stays : (bytes more : List ℕ) (n : ℕ) → 4 < length bytes → (with_length bytes n ≡ Faulty Short → ⊥) → with_length (bytes ++ more) n ≡ with_length bytes n
length_stays bytes more n lt h =
    let byte : get_or (bytes ++ more) 4 0 ≡ get_or bytes 4 0 = get_or_append_left bytes more 0 4 lt in
    let kind : kind_in (bytes ++ more) ≡ kind_in bytes = ap (λ (b : ℕ). kind_or b (kind_at b)) byte in
    ap (λ r. go_on r (with_kind (bytes ++ more) n)) kind ∙ go_on_stays bytes more n (kind_in bytes) h

checked_stays : (bytes more : List ℕ) (k : ℕ) → 4 ≤ length bytes → (go_on (length_if k (length bytes)) (with_length bytes) ≡ Faulty Short → ⊥)
    → go_on (length_if k (length (bytes ++ more))) (with_length (bytes ++ more)) ≡ go_on (length_if k (length bytes)) (with_length bytes)
checked_stays bytes more k le h =
    elim (cases_Bool (eqb k 0)) [
      | inl none ↦ rw none refl
      | inr some ↦ elim (cases_Bool (ltb most_bytes k)) [
        | inl long ↦ rw (some, long) refl
        | inr few ↦ elim (cases_Bool (eqb (length bytes) 4)) [
          | inl four ↦ absurd (h (rw (some, few, four) refl))
          | inr more_than ↦
              (let not_four : length bytes ≡ 4 → ⊥ = eqb-false (length bytes) 4 more_than in
              let lt : 4 < length bytes = omega (arith, not_four) in
              let still : eqb (length (bytes ++ more)) 4 ≡ false = ne_eqb (length (bytes ++ more)) 4 (λ e. omega (arith, e, lt, length-append bytes more)) in
              let here : length_if k (length bytes) ≡ Ok k = rw (some, few, more_than) refl in
              let there : length_if k (length (bytes ++ more)) ≡ Ok k = rw (some, few, still) refl in
              let goes : with_length bytes k ≡ Faulty Short → ⊥ = λ e. h (ap (λ r. go_on r (with_length bytes)) here ∙ e) in
              ap (λ r. go_on r (with_length (bytes ++ more))) there ∙ length_stays bytes more k lt goes ∙ sym (ap (λ r. go_on r (with_length bytes)) here))
        ]
      ]
    ]

pub answer_stays : (bytes more : List ℕ) → (decoded bytes ≡ Faulty Short → ⊥) → decoded (bytes ++ more) ≡ decoded bytes
answer_stays bytes more h =
    elim (cases_Bool (ltb (length bytes) 4)) [
      | inl few ↦ absurd (h (rw few refl))
      | inr enough ↦
          (let le : 4 ≤ length bytes = ltb-false _ _ enough in
          let k = from_be_bytes w32 (take 4 bytes) in
          let still : ltb (length (bytes ++ more)) 4 ≡ false = le-ltb _ _ (omega (arith, le, length-append bytes more)) in
          let here : length_at bytes ≡ length_if k (length bytes) = rw enough refl in
          let there : length_at (bytes ++ more) ≡ length_if k (length (bytes ++ more)) = rw (still, take-append-le 4 bytes more le) refl in
          let goes : go_on (length_if k (length bytes)) (with_length bytes) ≡ Faulty Short → ⊥ = λ e. h (ap (λ r. go_on r (with_length bytes)) here ∙ e) in
          ap (λ r. go_on r (with_length (bytes ++ more))) there ∙ checked_stays bytes more k le goes ∙ sym (ap (λ r. go_on r (with_length bytes)) here))
    ]
