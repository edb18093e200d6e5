-- Any number of spellings, one after the other.
use Rattle.std.proofs.Common.{◌≡◌, ℕ, zero, suc, ◌<◌, Bool, true, false, List, [], ◌∷◌, ◌++◌, ◌⊎◌, inl, inr, length, refl, sym, ap, subst, ◌∙◌, append_assoc, arith}
use Rattle.std.specs.Prelude.{if◌then◌else◌}
use Rattle.std.proofs.lemmas.List.{append_cancel_right, append-nil, length-append}
use Rattle.std.proofs.lemmas.Bool.{cond-true, cond-false}
use Rattle.sr_grammar.specs.Tokens.{Tok}
use Rattle.sr_grammar.specs.Rules.{Rule, Many}
use Rattle.sr_grammar_laws.specs.Reading.{Got, Fails, Reader, ◌>>=◌, next_is, many_for, many}
use Rattle.sr_grammar_laws.proofs.Good.{Good, bind_ok, bind_err, first, first_is, first_behind, or_test, next_or, next_apart}

pub good_many : {A : Type 0} (f : Tok → Bool) (p : Reader A) (P : Rule A) (more : Tok → Bool)
    → Good p P more
    → ((a : A) (x rest : List Tok) → P a x → next_is f (x ++ rest) ≡ true)
    → ((t : Tok) → f t ≡ true → more t ≡ false)
    → Good (many f p) (Many P) (or_test f more)
good_many {A = A} f p P more gp begins apart = record {
  sound = λ ts xs rest e. sound (suc (length ts)) ts xs rest e;
  complete = λ xs front rest h stop. complete xs (suc (length (front ++ rest))) front rest (omega (arith, length-append front rest)) h stop;
  viable = λ ts d bad e. viable (suc (length ts)) ts d bad e;
  stays_ok = λ xs front r r' same e. stays_ok (suc (length (front ++ r))) (suc (length (front ++ r'))) xs front r r' (omega (arith, length-append front r)) (omega (arith, length-append front r')) same e;
  stays_err = λ d front r r' same e. stays_err (suc (length (front ++ r))) (suc (length (front ++ r'))) d front r r' (omega (arith, length-append front r)) (omega (arith, length-append front r')) same e;
  value = [];
  spelling = [];
  some = refl;
}
  where
    more_of : ℕ → A → Reader (List A)
    more_of k x rest = many_for k f p rest >>= λ y end. Got (x ∷ y) end

    split : {B : Type 0} (b : Bool) (x y z : B) → (if b then x else y) ≡ z → ((b ≡ true) × (x ≡ z)) ⊎ ((b ≡ false) × (y ≡ z))
    split true x y z e = inl (refl, e)
    split false x y z e = inr (refl, e)

    sound : (k : ℕ) (ts : List Tok) (xs : List A) (rest : List Tok) → many_for k f p ts ≡ Got xs rest → (front : List Tok) × (ts ≡ front ++ rest) × Many P xs front
    sound zero ts xs rest e = let k : ts ≡ rest = cc in let j : [] ≡ xs = cc in ([], k, subst (λ z. Many P z []) j refl)
    sound (suc k) ts xs rest e = elim (split (next_is f ts) _ _ _ e) [
      | inl h ↦ (
          let s = bind_ok (p ts) (λ x rest. many_for k f p rest >>= λ y end. Got (x ∷ y) end) xs rest h.1 in
          let u = bind_ok (many_for k f p s.1) (λ y end. Got (s.0 ∷ y) end) xs rest s.3 in
          let x = gp.sound ts s.0 s.1 s.2 in
          let e2 = u.3 in
          let j : s.0 ∷ u.0 ≡ xs = cc e2 in
          let i : u.1 ≡ rest = cc e2 in
          let y = sound k s.1 u.0 u.1 u.2 in
          (x.0 ++ y.0, x.1 ∙ ap (λ z. x.0 ++ z) (y.1 ∙ ap (λ z. y.0 ++ z) i) ∙ sym (append_assoc x.0 y.0 rest), subst (λ z. Many P z (x.0 ++ y.0)) j (x.0, y.0, refl, x.2, y.2)))
      | inr h ↦ (let e2 = h.1 in let k : ts ≡ rest = cc e2 in let j : [] ≡ xs = cc e2 in ([], k, subst (λ z. Many P z []) j refl))
    ]

    nonempty : (a : A) (x : List Tok) → P a x → 0 < length x
    nonempty a [] h = absurd (let k = begins a [] [] h in cc)
    nonempty a (t ∷ x) h = omega arith

    follows : (xs : List A) (y rest : List Tok) → Many P xs y → next_is (or_test f more) rest ≡ false → next_is more (y ++ rest) ≡ false
    follows [] y rest h stop = rw h ((next_or f more rest stop).1)
    follows (x ∷ xs) y rest h stop = rw (h.2, append_assoc h.0 h.1 rest) (next_apart f more apart _ (begins x h.0 (h.1 ++ rest) h.3))

    complete : (xs : List A) (k : ℕ) (front rest : List Tok) → length front < k → Many P xs front → next_is (or_test f more) rest ≡ false → many_for k f p (front ++ rest) ≡ Got xs rest
    complete xs zero front rest lt h stop = absurd (omega arith)
    complete [] (suc k) front rest lt h stop = rw h (cond-false _ _ _ ((next_or f more rest stop).0))
    complete (x ∷ xs) (suc k) front rest lt h stop =
        let whole : front ++ rest ≡ h.0 ++ (h.1 ++ rest) = ap (λ z. z ++ rest) h.2 ∙ append_assoc h.0 h.1 rest in
        let small : length h.1 < k = omega (arith, ap length h.2, length-append h.0 h.1, nonempty x h.0 h.3) in
        let here : p (h.0 ++ (h.1 ++ rest)) ≡ Got x (h.1 ++ rest) = gp.complete x h.0 (h.1 ++ rest) h.3 (follows xs h.1 rest h.4 stop) in
        ap (many_for (suc k) f p) whole ∙ cond-true _ _ _ (begins x h.0 (h.1 ++ rest) h.3) ∙ rw here (ap (λ z. z >>= λ y end. Got (x ∷ y) end) (complete xs k h.1 rest small h.4 stop))

    viable : (k : ℕ) (ts : List Tok) (d : Bool) (bad : List Tok) → many_for k f p ts ≡ Fails d bad → (front : List Tok) × (ts ≡ front ++ bad) × (xs : List A) × (tail : List Tok) × Many P xs (front ++ tail)
    viable zero ts d bad e = absurd cc
    viable (suc k) ts d bad e = elim (split (next_is f ts) _ _ _ e) [
      | inl h ↦ elim (bind_err (p ts) (λ x rest. many_for k f p rest >>= λ y end. Got (x ∷ y) end) d bad h.1) [
        | inl b ↦ (let x = gp.viable ts d bad b in (x.0, x.1, x.2 ∷ [], x.3, (x.0 ++ x.3, [], sym (append-nil _), x.4, refl)))
        | inr s ↦ (
            let x = gp.sound ts s.0 s.1 s.2 in
            let v = elim (bind_err (many_for k f p s.1) (λ y end. Got (s.0 ∷ y) end) d bad s.3) as (λ _. many_for k f p s.1 ≡ Fails d bad) [ inl b ↦ b | inr u ↦ (let e2 = u.3 in absurd (cc e2)) ] in
            let y = viable k s.1 d bad v in
            (x.0 ++ y.0, x.1 ∙ ap (λ z. x.0 ++ z) y.1 ∙ sym (append_assoc x.0 y.0 bad), s.0 ∷ y.2, y.3, (x.0, y.0 ++ y.3, append_assoc x.0 y.0 y.3, x.2, y.4)))
      ]
      | inr h ↦ absurd (let e2 = h.1 in cc e2)
    ]

    -- the first item and the rest, in another list with the same next token
    again : (a : A) (front x y m r r' : List Tok) → first r ≡ first r' → front ++ r ≡ x ++ m → m ≡ y ++ r → P a x → p (front ++ r) ≡ Got a m
        → (front ≡ x ++ y) × (next_is f (front ++ r') ≡ true) × (p (front ++ r') ≡ Got a (y ++ r')) × (length y < length front)
    again a front x y m r r' same whole part spelled e =
        let all : front ++ r ≡ (x ++ y) ++ r = whole ∙ (ap (λ z. x ++ z) part ∙ sym (append_assoc x y r)) in
        let cut : front ≡ x ++ y = append_cancel_right front (x ++ y) r all in
        let here : front ++ r' ≡ x ++ (y ++ r') = ap (λ z. z ++ r') cut ∙ append_assoc x y r' in
        let had : p (x ++ (y ++ r)) ≡ Got a (y ++ r) = subst (λ z. p z ≡ Got a (y ++ r)) (whole ∙ ap (λ z. x ++ z) part) (e ∙ ap (λ z. Got a z) part) in (
          cut,
          ap (next_is f) here ∙ begins a x (y ++ r') spelled,
          ap p here ∙ gp.stays_ok a x (y ++ r) (y ++ r') (first_behind y r r' same) had,
          omega (arith, ap length cut, length-append x y, nonempty a x spelled),
        )

    stays_ok : (k k' : ℕ) (xs : List A) (front r r' : List Tok) → length front < k → length front < k' → first r ≡ first r' → many_for k f p (front ++ r) ≡ Got xs r → many_for k' f p (front ++ r') ≡ Got xs r'
    stays_ok zero k' xs front r r' lt lt' same e = absurd (omega arith)
    stays_ok (suc k) zero xs front r r' lt lt' same e = absurd (omega arith)
    stays_ok (suc k) (suc k') xs front r r' lt lt' same e = elim (split (next_is f (front ++ r)) _ _ _ e) [
      | inl h ↦ (
          let s = bind_ok (p (front ++ r)) (λ x rest. many_for k f p rest >>= λ y end. Got (x ∷ y) end) xs r h.1 in
          let u = bind_ok (many_for k f p s.1) (λ y end. Got (s.0 ∷ y) end) xs r s.3 in
          let e2 = u.3 in
          let j : s.0 ∷ u.0 ≡ xs = cc e2 in
          let i : u.1 ≡ r = cc e2 in
          let x = gp.sound (front ++ r) s.0 s.1 s.2 in
          let was : many_for k f p s.1 ≡ Got u.0 r = u.2 ∙ ap (λ z. Got u.0 z) i in
          let y = sound k s.1 u.0 r was in
          let g = again s.0 front x.0 y.0 s.1 r r' same x.1 y.1 x.2 s.2 in
          let rest = stays_ok k k' u.0 y.0 r r' (omega (arith, g.3)) (omega (arith, g.3)) same (rw (← y.1) was) in
          cond-true _ _ _ g.1 ∙ rw (g.2, rest) (ap (λ z. Got z r') j))
      | inr h ↦ (
          let e2 = h.1 in
          let k2 : front ++ r ≡ r = cc e2 in
          let j : [] ≡ xs = cc e2 in
          let none : front ≡ [] = append_cancel_right front [] r k2 in
          cond-false _ _ _ (sym (first_is f _ _ (first_behind front r r' same)) ∙ h.0) ∙ rw (none, j) refl)
    ]

    stays_err : (k k' : ℕ) (d : Bool) (front r r' : List Tok) → length front < k → length front < k' → first r ≡ first r' → many_for k f p (front ++ r) ≡ Fails d r → many_for k' f p (front ++ r') ≡ Fails d r'
    stays_err zero k' d front r r' lt lt' same e = absurd (omega arith)
    stays_err (suc k) zero d front r r' lt lt' same e = absurd (omega arith)
    stays_err (suc k) (suc k') d front r r' lt lt' same e = elim (split (next_is f (front ++ r)) _ _ _ e) [
      | inl h ↦ elim (bind_err (p (front ++ r)) (λ x rest. many_for k f p rest >>= λ y end. Got (x ∷ y) end) d r h.1) [
        | inl b ↦ cond-true _ _ _ (sym (first_is f _ _ (first_behind front r r' same)) ∙ h.0) ∙ rw (gp.stays_err d front r r' same b) refl
        | inr s ↦ (
            let x = gp.sound (front ++ r) s.0 s.1 s.2 in
            let v = elim (bind_err (many_for k f p s.1) (λ y end. Got (s.0 ∷ y) end) d r s.3) as (λ _. many_for k f p s.1 ≡ Fails d r) [ inl b ↦ b | inr u ↦ (let e2 = u.3 in absurd (cc e2)) ] in
            let y = viable k s.1 d r v in
            let g = again s.0 front x.0 y.0 s.1 r r' same x.1 y.1 x.2 s.2 in
            let rest = stays_err k k' d y.0 r r' (omega (arith, g.3)) (omega (arith, g.3)) same (rw (← y.1) v) in
            cond-true _ _ _ g.1 ∙ rw (g.2, rest) refl)
      ]
      | inr h ↦ absurd (let e2 = h.1 in cc e2)
    ]
