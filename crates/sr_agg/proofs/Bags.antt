-- What is gathered from a list hangs on its order only where the steps do.
use Rattle.std.proofs.Common.{◌≡◌, ℕ, ◌+◌, ◌<◌, Bool, true, false, List, [], ◌∷◌, ◌++◌, fold, refl, sym, ap, ◌∙◌, arith}
use Rattle.std.specs.Prelude.{IsPermutation, if◌then◌else◌, filter}
use Rattle.std.specs.declared.cmp.Ordering.{Ordering}
use Rattle.std.specs.declared.cmp.Ordering.TheVariants.{Less, Equal, Greater}
use Rattle.std.specs.Ordering.{is_eq}
use Rattle.std.specs.List.{sum_by}
use Rattle.std.specs.Cmp.{IsTotalOrder}
use Rattle.std.proofs.lemmas.List.Sorted.{sum_by-IsPermutation}
use Rattle.std.proofs.lemmas.List.Sums.{sum_by-cons}
use Rattle.std.proofs.lemmas.Map.Lookups.{CmpEqualImpliesEq}
use Rattle.sr_agg.proofs.Order.{level}

-- whatever the value so far, two may be taken in any order
abbrev pub IsEitherFirst : {A B : Type 0} → (B → A → B) → Type 0
IsEitherFirst {A = A} {B = B} op = (z : B) (a b : A) → op (op z a) b ≡ op (op z b) a

abbrev one_if : Bool → ℕ
one_if true = 1
one_if false = 0

module _ {A : Type 0} {R : A → A → Ordering} (o : IsTotalOrder R) (exact : CmpEqualImpliesEq R) where
  -- how often x is there
  abbrev times : A → List A → ℕ
  times x [] = 0
  times x (y ∷ ys) = one_if (is_eq (R x y)) + times x ys

  times-sum : (x : A) (xs : List A) → times x xs ≡ sum_by (λ y. one_if (is_eq (R x y))) xs
  times-sum x [] = refl
  times-sum x (y ∷ ys) = let ih = times-sum x ys in let k = sum_by-cons (λ z. one_if (is_eq (R x z))) y ys in omega (arith, ih, k)

  times-mid : (w x : A) (front back : List A) → times w (front ++ x ∷ back) ≡ one_if (is_eq (R w x)) + times w (front ++ back)
  times-mid w x [] back = refl
  times-mid w x (y ∷ front) back = let ih = times-mid w x front back in omega (arith, ih)

  found : (x : A) (ys : List A) → 0 < times x ys → (front : List A) × (back : List A) × (ys ≡ front ++ x ∷ back)
  found x [] more = absurd (omega (arith, more))
  found x (y ∷ ys) more = by (R x y) refl more (found x ys)
    where
      on : (front : List A) × (back : List A) × (ys ≡ front ++ x ∷ back) → (front : List A) × (back : List A) × (y ∷ ys ≡ front ++ x ∷ back)
      on f = (y ∷ f.0, f.1, ap (λ zs. y ∷ zs) f.2)

      by : (p : Ordering) → R x y ≡ p → 0 < one_if (is_eq (R x y)) + times x ys → (0 < times x ys → (front : List A) × (back : List A) × (ys ≡ front ++ x ∷ back))
          → (front : List A) × (back : List A) × (y ∷ ys ≡ front ++ x ∷ back)
      by Less e more ih = on (ih (let k : 0 < 0 + times x ys = rw e at more in omega (arith, k)))
      by Equal e more ih = ([], ys, ap (λ z. z ∷ ys) (sym (exact x y e)))
      by Greater e more ih = on (ih (let k : 0 < 0 + times x ys = rw e at more in omega (arith, k)))

  module _ {B : Type 0} (op : B → A → B) (either : IsEitherFirst op) where
    to-front : (z : B) (front : List A) (x : A) (back : List A) → fold op z (front ++ x ∷ back) ≡ fold op (op z x) (front ++ back)
    to-front z [] x back = refl
    to-front z (y ∷ front) x back = to-front (op z y) front x back ∙ ap (λ w. fold op w (front ++ back)) (either z y x)

    same-times : (xs ys : List A) → ((w : A) → times w xs ≡ times w ys) → (z : B) → fold op z xs ≡ fold op z ys
    same-times [] [] same z = refl
    same-times [] (y ∷ ys) same z =
        let k : 0 ≡ one_if (is_eq (R y y)) + times y ys = same y in
        let l : 0 ≡ 1 + times y ys = rw (level o y) at k in
        absurd (omega (arith, l))
    same-times (x ∷ xs) ys same z =
        let k : one_if (is_eq (R x x)) + times x xs ≡ times x ys = same x in
        let l : 1 + times x xs ≡ times x ys = rw (level o x) at k in
        let f = found x ys (omega (arith, l)) in
        let rest : (w : A) → times w xs ≡ times w (f.0 ++ f.1) =
        λ w. let a : one_if (is_eq (R w x)) + times w xs ≡ times w ys = same w in
        let b : times w ys ≡ times w (f.0 ++ x ∷ f.1) = ap (times w) f.2 in
        let c = times-mid w x f.0 f.1 in omega (arith, a, b, c) in
        same-times xs (f.0 ++ f.1) rest (op z x) ∙ (sym (to-front z f.0 x f.1) ∙ ap (fold op z) (sym f.2))

    pub gathered : (xs ys : List A) → IsPermutation xs ys → (z : B) → fold op z xs ≡ fold op z ys
    gathered xs ys p = same-times xs ys (λ w. times-sum w xs ∙ (sym (sum_by-IsPermutation (λ y. one_if (is_eq (R w y))) xs ys p) ∙ sym (times-sum w ys)))

-- ---- of those that pass a test

abbrev pub if_passes : {A B : Type 0} → (A → Bool) → (B → A → B) → B → A → B
if_passes test op z a = if test a then op z a else z

pub fold-filter : {A B : Type 0} (test : A → Bool) (op : B → A → B) (z : B) (xs : List A) → fold op z (filter test xs) ≡ fold (if_passes test op) z xs
fold-filter test op z [] = refl
fold-filter {A = A} {B = B} test op z (x ∷ xs) = by (test x) refl (fold-filter test op z xs) (fold-filter test op (op z x) xs)
  where
    by : (b : Bool) → test x ≡ b → fold op z (filter test xs) ≡ fold (if_passes test op) z xs → fold op (op z x) (filter test xs) ≡ fold (if_passes test op) (op z x) xs
        → fold op z (filter test (x ∷ xs)) ≡ fold (if_passes test op) z (x ∷ xs)
    by true e same more = rw (e) more
    by false e same more = rw (e) same

pub either-passes : {A B : Type 0} (test : A → Bool) (op : B → A → B) → IsEitherFirst op → IsEitherFirst (if_passes test op)
either-passes {A = A} {B = B} test op either z a b = by (test a) refl (test b) refl
  where
    by : (p : Bool) → test a ≡ p → (q : Bool) → test b ≡ q → if_passes test op (if_passes test op z a) b ≡ if_passes test op (if_passes test op z b) a
    by true e true f = rw (e, f) (either z a b)
    by true e false f = rw (e, f) refl
    by false e true f = rw (e, f) refl
    by false e false f = rw (e, f) refl
