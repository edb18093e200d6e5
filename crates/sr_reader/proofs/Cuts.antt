-- The first line of some bytes.
use Rattle.std.proofs.Common.{◌≡◌, ℕ, suc, ◌+◌, ◌<◌, ◌≤◌, Bool, true, false, List, [], ◌∷◌, ◌++◌, length, take, drop, refl, sym, ap, ◌∙◌, arith, add-one}
use Rattle.std.specs.Prelude.{◌==◌, if◌then◌else◌, Option, Some, None, MatchOption, ◌≢◌}
use denote.Ref.{Bor}
use Rattle.std.proofs.lemmas.Grind.{common_steps}
use Rattle.std.proofs.lemmas.Bool.Decides.{nat_tests}
use Rattle.sr_lines.specs.Lines.{lines_of, before_line}
use Rattle.sr_reader.specs.Cutting.{first_end, without_return}

-- a last line that is not ended
pub last_line : (s : List ℕ) → 0 < length s → length s ≤ first_end s → lines_of s ≡ s ∷ []
last_line [] some none = absurd (omega arith)
last_line (b ∷ []) some none = grind (arith, common_steps)
last_line (b ∷ d ∷ s) some none = grind (arith, common_steps, last_line (d ∷ s))

feed_line : (b d : ℕ) (s : List ℕ) → (b == 10) ≡ true → lines_of (b ∷ d ∷ s) ≡ without_return (take (first_end (b ∷ d ∷ s)) (b ∷ d ∷ s)) ∷ lines_of (drop (first_end (b ∷ d ∷ s) + 1) (b ∷ d ∷ s))
feed_line b d s is = rw is refl

short_line : (b d : ℕ) (s : List ℕ) (r : Bool) → (b == 10) ≡ false → (d == 10) ≡ true → (b == 13) ≡ r
    → lines_of (b ∷ d ∷ s) ≡ without_return (take (first_end (b ∷ d ∷ s)) (b ∷ d ∷ s)) ∷ lines_of (drop (first_end (b ∷ d ∷ s) + 1) (b ∷ d ∷ s))
short_line b d s true none feed is = rw (none, feed, is) refl
short_line b d s false none feed is = rw (none, feed, is) refl

longer_line : (b d k : ℕ) (s : List ℕ) → lines_of (d ∷ s) ≡ without_return (take (suc k) (d ∷ s)) ∷ lines_of (drop (suc (suc k)) (d ∷ s))
    → before_line b (lines_of (d ∷ s)) ≡ without_return (take (suc (suc k)) (b ∷ d ∷ s)) ∷ lines_of (drop (suc (suc (suc k))) (b ∷ d ∷ s))
longer_line b d k s more = rw more refl

end_cons : (b : ℕ) (s : List ℕ) → (b == 10) ≡ false → first_end (b ∷ s) ≡ suc (first_end s)
end_cons b s none = rw none (add-one (first_end s))

no_feed : (b d : ℕ) (s : List ℕ) (r : Bool) → (b == 10) ≡ false → (d == 10) ≡ false → (b == 13) ≡ r → lines_of (b ∷ d ∷ s) ≡ before_line b (lines_of (d ∷ s))
no_feed b d s true none no_d is = rw (none, is, no_d) refl
no_feed b d s false none no_d is = rw (none, is) refl

long_line : (b d : ℕ) (s : List ℕ) → (b == 10) ≡ false → (d == 10) ≡ false → lines_of (d ∷ s) ≡ without_return (take (first_end (d ∷ s)) (d ∷ s)) ∷ lines_of (drop (first_end (d ∷ s) + 1) (d ∷ s))
    → lines_of (b ∷ d ∷ s) ≡ without_return (take (first_end (b ∷ d ∷ s)) (b ∷ d ∷ s)) ∷ lines_of (drop (first_end (b ∷ d ∷ s) + 1) (b ∷ d ∷ s))
long_line b d s none no_d more =
    let k = first_end s in
    let end_d : first_end (d ∷ s) ≡ suc k = end_cons d s no_d in
    let end_b : first_end (b ∷ d ∷ s) ≡ suc (suc k) = end_cons b (d ∷ s) none ∙ ap suc end_d in
    let less : lines_of (d ∷ s) ≡ without_return (take (suc k) (d ∷ s)) ∷ lines_of (drop (suc (suc k)) (d ∷ s)) =
    more ∙ ap (λ n. without_return (take n (d ∷ s)) ∷ lines_of (drop (n + 1) (d ∷ s))) end_d ∙ rw add-one refl in
    let wanted = longer_line b d k s less in
    no_feed b d s (b == 13) none no_d refl ∙ (wanted ∙ sym (ap (λ n. without_return (take n (b ∷ d ∷ s)) ∷ lines_of (drop (n + 1) (b ∷ d ∷ s))) end_b ∙ rw add-one refl))

by_bytes : (b d : ℕ) (s : List ℕ) (p q : Bool) → (b == 10) ≡ p → (d == 10) ≡ q
    → (q ≡ false → lines_of (d ∷ s) ≡ without_return (take (first_end (d ∷ s)) (d ∷ s)) ∷ lines_of (drop (first_end (d ∷ s) + 1) (d ∷ s)))
    → lines_of (b ∷ d ∷ s) ≡ without_return (take (first_end (b ∷ d ∷ s)) (b ∷ d ∷ s)) ∷ lines_of (drop (first_end (b ∷ d ∷ s) + 1) (b ∷ d ∷ s))
by_bytes b d s true q is is_d more = feed_line b d s is
by_bytes b d s false true is is_d more = short_line b d s (b == 13) is is_d refl
by_bytes b d s false false is is_d more = long_line b d s is is_d (more refl)

shorter_end : (b d : ℕ) (s : List ℕ) → (b == 10) ≡ false → first_end (b ∷ d ∷ s) < length (b ∷ d ∷ s) → first_end (d ∷ s) < length (d ∷ s)
shorter_end b d s none h = let end = end_cons b (d ∷ s) none in omega arith

by_first : (b d : ℕ) (s : List ℕ) (p : Bool) → (b == 10) ≡ p
    → (p ≡ false → lines_of (d ∷ s) ≡ without_return (take (first_end (d ∷ s)) (d ∷ s)) ∷ lines_of (drop (first_end (d ∷ s) + 1) (d ∷ s)))
    → lines_of (b ∷ d ∷ s) ≡ without_return (take (first_end (b ∷ d ∷ s)) (b ∷ d ∷ s)) ∷ lines_of (drop (first_end (b ∷ d ∷ s) + 1) (b ∷ d ∷ s))
by_first b d s true e more = feed_line b d s e
by_first b d s false e more = by_bytes b d s false (d == 10) e refl (λ _. more refl)

-- a first line that is ended
pub first_line : (s : List ℕ) → first_end s < length s → lines_of s ≡ without_return (take (first_end s) s) ∷ lines_of (drop (first_end s + 1) s)
first_line [] is = absurd (omega arith)
first_line (b ∷ []) is = grind (arith, common_steps)
first_line (b ∷ d ∷ s) is = by_first b d s (b == 10) refl (λ none. first_line (d ∷ s) (shorter_end b d s none is))

-- a CR at the end
pub without_push : (front : List ℕ) → without_return (front ++ 13 ∷ []) ≡ front
without_push [] = refl
without_push (b ∷ []) = refl
without_push (b ∷ d ∷ front) = ap (λ s. b ∷ s) (without_push (d ∷ front))

pub without_other : (s : List ℕ) → ((front : List ℕ) → s ≡ front ++ 13 ∷ [] → ⊥) → s ≡ without_return s
without_other [] none = refl
without_other (b ∷ []) none = by_byte (b == 13) refl
  where
    by_byte : (p : Bool) → (b == 13) ≡ p → b ∷ [] ≡ (if b == 13 then [] else b ∷ [])
    by_byte true is = absurd (none [] (let same : b ≡ 13 = grind (arith, nat_tests) in ap (λ x. x ∷ []) same))
    by_byte false is = rw is refl
without_other (b ∷ d ∷ s) none = ap (λ t. b ∷ t) (without_other (d ∷ s) (λ front e. none (b ∷ front) (ap (λ t. b ∷ t) e)))

pub without_by : (s : List ℕ) (r : Option (Bor (List ℕ))) → MatchOption r ((front : List ℕ) → s ≢ front ++ 13 ∷ []) (λ x. s ≡ x.now ++ 13 ∷ []) → MatchOption r (s ≡ without_return s) (λ x. x.now ≡ without_return s)
without_by s None other = without_other s other
without_by s (Some x) is = rw is (sym (without_push x.now))
