-- Where a line stands in a list that is put together of two.
use Rattle.std.proofs.Common.{◌≡◌, Bool, true, false, List, [], ◌∷◌, ◌++◌, refl, sym, ◌∙◌, ap, arith}
use Rattle.std.specs.Prelude.{map, ◌||◌}
use Rattle.std.specs.List.{list_any}

-- it stands in the first list, or in the second
pub data Side {X : Type 0} (xs ys front : List X) (x : X) (behind : List X) : Type 0 where
  in_left : (mid : List X) → xs ≡ front ++ x ∷ mid → behind ≡ mid ++ ys → Side xs ys front x behind
  in_right : (mid : List X) → front ≡ xs ++ mid → ys ≡ mid ++ x ∷ behind → Side xs ys front x behind

pub split : {X : Type 0} (xs ys front : List X) (x : X) (behind : List X) → xs ++ ys ≡ front ++ x ∷ behind → Side xs ys front x behind
split {X} [] ys front x behind is = in_right front refl is
split {X} (y ∷ xs) ys [] x behind is = in_left xs (let same : y ≡ x = cc in ap (λ z. z ∷ xs) same) (let same : xs ++ ys ≡ behind = cc in sym same)
split {X} (y ∷ xs) ys (z ∷ front) x behind is = go (let same : xs ++ ys ≡ front ++ x ∷ behind = cc in split xs ys front x behind same)
  where
    head : y ≡ z
    head = cc

    go : Side xs ys front x behind → Side (y ∷ xs) ys (z ∷ front) x behind
    go (in_left mid e f) = in_left mid (ap (λ l. y ∷ l) e ∙ ap (λ w. w ∷ (front ++ x ∷ mid)) head) f
    go (in_right mid e f) = in_right mid (ap (λ l. z ∷ l) e ∙ ap (λ w. w ∷ (xs ++ mid)) (sym head)) f

-- nothing stands in an empty list
pub none-there : {X : Type 0} (front : List X) (x : X) (behind : List X) → [] ≡ front ++ x ∷ behind → ⊥
none-there {X} [] x behind is = absurd (cc)
none-there {X} (y ∷ front) x behind is = absurd (cc)

-- a list of one
pub only-one : {X : Type 0} (y : X) (front : List X) (x : X) (behind : List X) → y ∷ [] ≡ front ++ x ∷ behind → y ≡ x
only-one {X} y [] x behind is = cc
only-one {X} y (z ∷ front) x behind is = absurd (let same : [] ≡ front ++ x ∷ behind = cc in none-there front x behind same)

-- ---- tests

pub found : {X : Type 0} (p : X → Bool) (front : List X) (x : X) (behind : List X) → p x ≡ true → list_any p (front ++ x ∷ behind) ≡ true
found {X} p [] x behind is = ap (λ b. b || list_any p behind) is
found {X} p (y ∷ front) x behind is = let later = found p front x behind is in grind (arith, later)

pub lacks-both : {X : Type 0} (p : X → Bool) (xs ys : List X) → list_any p xs ≡ false → list_any p ys ≡ false → list_any p (xs ++ ys) ≡ false
lacks-both {X} p [] ys one two = two
lacks-both {X} p (x ∷ xs) ys one two =
    let first : p x ≡ false = grind (arith, one) in
    let later = lacks-both p xs ys (grind (arith, one)) two in
    grind (arith, first, later)

pub lacks-map : {X Y : Type 0} (p : Y → Bool) (f : X → Y) (xs : List X) → ((x : X) → p (f x) ≡ false) → list_any p (map f xs) ≡ false
lacks-map {X} {Y} p f [] none = refl
lacks-map {X} {Y} p f (x ∷ xs) none =
    let first = none x in
    let later = lacks-map p f xs none in
    grind (arith, first, later)

-- where what does not pass stands first and is followed by what does not pass, what passes is that first one
pub one-head : {X : Type 0} (p : X → Bool) (y : X) (tail front : List X) (x : X) (behind : List X) → list_any p tail ≡ false → p x ≡ true
    → y ∷ tail ≡ front ++ x ∷ behind → (y ≡ x) × (tail ≡ behind)
one-head {X} p y tail [] x behind lacks is there = (cc, cc)
one-head {X} p y tail (z ∷ front) x behind lacks is there =
    absurd (let same : tail ≡ front ++ x ∷ behind = cc in let wrong : false ≡ true = sym lacks ∙ (ap (list_any p) same ∙ found p front x behind is) in cc)
