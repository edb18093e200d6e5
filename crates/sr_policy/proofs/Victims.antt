-- The class that goes first among some classes, as one more is looked at.
use Rattle.std.proofs.Common.{◌≡◌, ◌≢◌, ℕ, ◌+◌, ◌<◌, ◌∙◌, true, false, List, [], ◌∷◌, ◌++◌, length, take, get_or, refl, ap, sym, subst, arith, zero, suc}
use Rattle.std.specs.Prelude.{Some, slice_get}
use Rattle.std.proofs.lemmas.List.{take_more, get_or-take, length-take}
use Rattle.std.proofs.lemmas.List.Elements.{All-nil, All-cons, All-push, All-weaker}
use Rattle.std.proofs.lemmas.Option.{slice_get_read}
use Rattle.sr_policy.specs.declared.policy.Policy.{Policy}
use Rattle.sr_policy.specs.declared.policy.ClassView.{ClassView}
use Rattle.sr_policy.specs.declared.policy.Last.{Last}
use Rattle.sr_policy.specs.Order.{goes_before, IsVictim}
use Rattle.sr_policy.proofs.Order.{goes_before-same, goes_before-none}

get-front : (front : List ClassView) (more : List ClassView) (i : ℕ) (c : ClassView) → slice_get front i ≡ Some c → slice_get (front ++ more) i ≡ Some c
get-front [] more i c h = absurd (cc)
get-front (x ∷ front) more zero c h = h
get-front (x ∷ front) more (suc i) c h = get-front front more i c h

get-last : (front : List ClassView) (c : ClassView) → slice_get (front ++ c ∷ []) (length front) ≡ Some c
get-last [] c = refl
get-last (x ∷ front) c = get-last front c

-- the first class alone
pub victim_first : (policy : Policy) (last : List Last) (classes : List ClassView) → classes ≢ [] → IsVictim policy last (take 1 classes) 0
victim_first policy last [] some = absurd (some refl)
victim_first policy last (c ∷ classes) some = record {
  class = c;
  there = refl;
  first = All-cons (λ other. goes_before policy last other c ≡ false) c [] (goes_before-same policy last c) (All-nil (λ other. goes_before policy last other c ≡ false));
}

-- one more that does not go before the best so far
victim_stays : (policy : Policy) (last : List Last) (front : List ClassView) (best : ℕ) (found next : ClassView)
    → IsVictim policy last front best → slice_get front best ≡ Some found → goes_before policy last next found ≡ false
    → IsVictim policy last (front ++ next ∷ []) best
victim_stays policy last front best found next h is later =
    let same : h.class ≡ found = cc (h.there) in
    record {
      class = h.class;
      there = get-front front (next ∷ []) best h.class h.there;
      first = All-push (λ other. goes_before policy last other h.class ≡ false) front next h.first (subst (λ c. goes_before policy last next c ≡ false) (sym same) later);
    }

-- one more that goes before the best so far
victim_changes : (policy : Policy) (last : List Last) (front : List ClassView) (best : ℕ) (found next : ClassView)
    → IsVictim policy last front best → slice_get front best ≡ Some found → goes_before policy last next found ≡ true
    → IsVictim policy last (front ++ next ∷ []) (length front)
victim_changes policy last front best found next h is earlier =
    let same : h.class ≡ found = cc (h.there) in
    let before : goes_before policy last next h.class ≡ true = subst (λ c. goes_before policy last next c ≡ true) (sym same) earlier in
    let none = All-weaker (λ other. goes_before policy last other h.class ≡ false) (λ other. goes_before policy last other next ≡ false) (λ other k. goes_before-none policy last other h.class next before k) front h.first in
    record {
      class = next;
      there = get-last front next;
      first = All-push (λ other. goes_before policy last other next ≡ false) front next none (goes_before-same policy last next);
    }

before_end : (classes : List ClassView) (i best : ℕ) (found : ClassView) → i < length classes → best < i → found ≡ get_or classes best found → slice_get (take i classes) best ≡ Some found
before_end classes i best found inside behind is =
    slice_get_read (take i classes) (length (take i classes)) best found refl (omega (arith, length-take i classes)) (is ∙ sym (get_or-take i classes best found behind))

one_more : (classes : List ClassView) (i : ℕ) (next : ClassView) → i < length classes → next ≡ get_or classes i next → take i classes ++ next ∷ [] ≡ take (i + 1) classes
one_more classes i next inside is = ap (λ c. take i classes ++ c ∷ []) is ∙ sym (take_more classes i next inside)

-- the step of the loop, where the best so far stays
pub victim_kept : (policy : Policy) (last : List Last) (classes : List ClassView) (i best : ℕ) (found next : ClassView)
    → i < length classes → best < i → next ≡ get_or classes i next → found ≡ get_or classes best found
    → IsVictim policy last (take i classes) best → goes_before policy last next found ≡ false → IsVictim policy last (take (i + 1) classes) best
victim_kept policy last classes i best found next inside behind next-is found-is h later =
    subst (λ front. IsVictim policy last front best) (one_more classes i next inside next-is)
    (victim_stays policy last (take i classes) best found next h (before_end classes i best found inside behind found-is) later)

-- the step of the loop, where the next is better
pub victim_taken : (policy : Policy) (last : List Last) (classes : List ClassView) (i best : ℕ) (found next : ClassView)
    → i < length classes → best < i → next ≡ get_or classes i next → found ≡ get_or classes best found
    → IsVictim policy last (take i classes) best → goes_before policy last next found ≡ true → IsVictim policy last (take (i + 1) classes) i
victim_taken policy last classes i best found next inside behind next-is found-is h earlier =
    let count : length (take i classes) ≡ i = omega (arith, length-take i classes) in
    subst (IsVictim policy last (take (i + 1) classes)) count
    (subst (λ front. IsVictim policy last front (length (take i classes))) (one_more classes i next inside next-is)
    (victim_changes policy last (take i classes) best found next h (before_end classes i best found inside behind found-is) earlier))
