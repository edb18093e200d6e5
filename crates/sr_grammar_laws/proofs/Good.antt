-- What a reader owes to its rule, and that each word of the grammar keeps it.
use Rattle.std.proofs.Common.{◌≡◌, Bool, true, false, List, [], ◌∷◌, ◌++◌, ◌⊎◌, inl, inr, Option, Some, None, refl, sym, ap, subst, ◌∙◌, append_assoc}
use Rattle.std.specs.Prelude.{◌||◌, if◌then◌else◌}
use Rattle.std.proofs.lemmas.List.{append_cancel_right}
use Rattle.std.proofs.lemmas.Bool.{cond-true, cond-false, or_parts}
use Rattle.sr_grammar.specs.Tokens.{Tok}
use Rattle.sr_grammar.specs.Rules.{Rule, One, Nothing, ◌>>=◌ as ◌▸◌, ◌or◌}
use Rattle.sr_grammar_laws.specs.Reading.{Reading, Got, Fails, Reader, ◌>>=◌, and_then, nothing, taken, one, next_is, branch}

abbrev pub first : List Tok → Option Tok
first [] = None
first (t ∷ ts) = Some t

-- p reads what P spells, up to a token that P may not go on with (`more`); and it looks at one token at a time
pub record Good {A : Type 0} (p : Reader A) (P : Rule A) (more : Tok → Bool) : Type 0 where
  pub sound : (ts : List Tok) (a : A) (rest : List Tok) → p ts ≡ Got a rest → (front : List Tok) × (ts ≡ front ++ rest) × P a front
  pub complete : (a : A) (front rest : List Tok) → P a front → next_is more rest ≡ false → p (front ++ rest) ≡ Got a rest
  pub viable : (ts : List Tok) (d : Bool) (bad : List Tok) → p ts ≡ Fails d bad → (front : List Tok) × (ts ≡ front ++ bad) × (a : A) × (tail : List Tok) × P a (front ++ tail)
  pub stays_ok : (a : A) (front r r' : List Tok) → first r ≡ first r' → p (front ++ r) ≡ Got a r → p (front ++ r') ≡ Got a r'
  pub stays_err : (d : Bool) (front r r' : List Tok) → first r ≡ first r' → p (front ++ r) ≡ Fails d r → p (front ++ r') ≡ Fails d r'
  pub value : A
  pub spelling : List Tok
  pub some : P value spelling

pub bind_ok : {A B : Type 0} (r : Reading A) (f : A → Reader B) (y : B) (end : List Tok) → (r >>= f) ≡ Got y end → (x : A) × (rest : List Tok) × (r ≡ Got x rest) × (f x rest ≡ Got y end)
bind_ok (Got x rest) f y end e = (x, rest, refl, e)
bind_ok (Fails d bad) f y end e = absurd cc

pub bind_err : {A B : Type 0} (r : Reading A) (f : A → Reader B) (d : Bool) (bad : List Tok) → (r >>= f) ≡ Fails d bad → (r ≡ Fails d bad) ⊎ ((x : A) × (rest : List Tok) × (r ≡ Got x rest) × (f x rest ≡ Fails d bad))
bind_err (Got x rest) f d bad e = inr (x, rest, refl, e)
bind_err {A = A} {B = B} (Fails c ts) f d bad e = inl (let k : c ≡ d = cc in let j : ts ≡ bad = cc in rw (k, j) refl)

pub good_nothing : {A : Type 0} (b : A) (more : Tok → Bool) → Good (nothing b) (Nothing b) more
good_nothing b more = record {
  sound = λ ts a rest e. ([], (let k : ts ≡ rest = cc in k), ((let k : a ≡ b = cc in k), refl));
  complete = λ a front rest h m. rw (h.0, h.1) refl;
  viable = λ ts d bad e. absurd cc;
  stays_ok = λ a front r r' same e. let h : front ++ r ≡ r = cc in let k : front ≡ [] = append_cancel_right front [] r h in let j : b ≡ a = cc in rw (k, j) refl;
  stays_err = λ d front r r' same e. absurd cc;
  value = b;
  spelling = [];
  some = (refl, refl);
}

pub first_is : (f : Tok → Bool) (r r' : List Tok) → first r ≡ first r' → next_is f r ≡ next_is f r'
first_is f [] [] e = refl
first_is f [] (t ∷ ts) e = absurd cc
first_is f (t ∷ ts) [] e = absurd cc
first_is f (t ∷ ts) (u ∷ us) e = let k : t ≡ u = cc in ap f k

pub first_behind : (x r r' : List Tok) → first r ≡ first r' → first (x ++ r) ≡ first (x ++ r')
first_behind [] r r' e = e
first_behind (t ∷ x) r r' e = refl

pub good_one : {A : Type 0} (f : Tok → Option A) (value : A) (t : Tok) → f t ≡ Some value → Good (one f) (One f) (λ _. false)
good_one {A = A} f value t is = record {
  sound = λ ts a rest e. sound ts a rest e;
  complete = λ a front rest h m. rw (h.2) (rw h.1 refl);
  viable = λ ts d bad e. ([], failed ts d bad e, value, t ∷ [], (t, is, refl));
  stays_ok = λ a front r r' same e. stays_ok a front r r' e;
  stays_err = λ d front r r' same e. stays_err d front r r' same e;
  value = value;
  spelling = t ∷ [];
  some = (t, is, refl);
}
  where
    sound : (ts : List Tok) (a : A) (rest : List Tok) → one f ts ≡ Got a rest → (front : List Tok) × (ts ≡ front ++ rest) × One f a front
    sound [] a rest e = absurd cc
    sound (u ∷ us) a rest e = go (f u) refl e
      where
        go : (o : Option A) → f u ≡ o → taken o u us ≡ Got a rest → (front : List Tok) × (u ∷ us ≡ front ++ rest) × One f a front
        go None was e = absurd cc
        go (Some b) was e = let k : us ≡ rest = cc in let j : b ≡ a = cc in (u ∷ [], ap (λ z. u ∷ z) k, (u, (was ∙ ap (λ z. Some z) j), refl))

    failed : (ts : List Tok) (d : Bool) (bad : List Tok) → one f ts ≡ Fails d bad → ts ≡ bad
    failed [] d bad e = cc
    failed (u ∷ us) d bad e = go (f u) e
      where
        go : (o : Option A) → taken o u us ≡ Fails d bad → u ∷ us ≡ bad
        go None e = cc
        go (Some b) e = absurd cc

    stays_ok : (a : A) (front r r' : List Tok) → one f (front ++ r) ≡ Got a r → one f (front ++ r') ≡ Got a r'
    stays_ok a [] [] r' e = absurd cc
    stays_ok a [] (u ∷ us) r' e = go (f u) e
      where
        go : (o : Option A) → taken o u us ≡ Got a (u ∷ us) → one f r' ≡ Got a r'
        go None e = absurd cc
        go (Some b) e = absurd (let k : us ≡ u ∷ us = cc in let j : [] ≡ u ∷ [] = append_cancel_right [] (u ∷ []) us k in cc)
    stays_ok a (u ∷ us) r r' e = go (f u) e
      where
        go : (o : Option A) → taken o u (us ++ r) ≡ Got a r → taken o u (us ++ r') ≡ Got a r'
        go None e = absurd cc
        go (Some b) e = let k : us ++ r ≡ r = cc in let j : us ≡ [] = append_cancel_right us [] r k in let i : b ≡ a = cc in rw (j, i) refl

    stays_err : (d : Bool) (front r r' : List Tok) → first r ≡ first r' → one f (front ++ r) ≡ Fails d r → one f (front ++ r') ≡ Fails d r'
    stays_err d [] [] [] same e = e
    stays_err d [] [] (u ∷ us) same e = absurd cc
    stays_err d [] (v ∷ vs) [] same e = absurd cc
    stays_err d [] (v ∷ vs) (u ∷ us) same e = let k : v ≡ u = cc in go (f v) refl k e
      where
        go : (o : Option A) → f v ≡ o → v ≡ u → taken o v vs ≡ Fails d (v ∷ vs) → one f (u ∷ us) ≡ Fails d (u ∷ us)
        go None was k e = let j : false ≡ d = cc in rw (← k, was, j) refl
        go (Some b) was k e = absurd cc
    stays_err d (u ∷ us) r r' same e = go (f u) e
      where
        go : (o : Option A) → taken o u (us ++ r) ≡ Fails d r → taken o u (us ++ r') ≡ Fails d r'
        go None e = let k : u ∷ us ++ r ≡ r = cc in absurd (let j : u ∷ us ≡ [] = append_cancel_right (u ∷ us) [] r k in cc)
        go (Some b) e = absurd cc

-- ---- one after the other

pub good_then : {A B : Type 0} (p : Reader A) (P : Rule A) (more : Tok → Bool) (f : A → Reader B) (Q : A → Rule B) (more' : Tok → Bool)
    → Good p P more → ((a : A) → Good (f a) (Q a) more')
    → ((a : A) (x : List Tok) (b : B) (y rest : List Tok) → P a x → Q a b y → next_is more' rest ≡ false → next_is more (y ++ rest) ≡ false)
    → Good (and_then p f) (P ▸ Q) more'
good_then {A = A} {B = B} p P more f Q more' gp gf apart = record {
  sound = λ ts b end e.
      let s = bind_ok (p ts) f b end e in
      let x = gp.sound ts s.0 s.1 s.2 in
      let y = (gf s.0).sound s.1 b end s.3 in
      (x.0 ++ y.0, x.1 ∙ ap (λ z. x.0 ++ z) y.1 ∙ sym (append_assoc x.0 y.0 end), (s.0, x.0, y.0, refl, x.2, y.2));
  complete = λ b front rest h stop.
      let whole : front ++ rest ≡ h.1 ++ (h.2 ++ rest) = ap (λ z. z ++ rest) h.3 ∙ append_assoc h.1 h.2 rest in
      ap (and_then p f) whole ∙ (ap (λ r. r >>= f) (gp.complete h.0 h.1 (h.2 ++ rest) h.4 (apart h.0 h.1 b h.2 rest h.4 h.5 stop)) ∙ (gf h.0).complete b h.2 rest h.5 stop);
  viable = λ ts d bad e. elim (bind_err (p ts) f d bad e) [
    | inl k ↦ (let x = gp.viable ts d bad k in let g = gf x.2 in (x.0, x.1, g.value, x.3 ++ g.spelling, (x.2, x.0 ++ x.3, g.spelling, sym (append_assoc x.0 x.3 g.spelling), x.4, g.some)))
    | inr s ↦ (let x = gp.sound ts s.0 s.1 s.2 in let y = (gf s.0).viable s.1 d bad s.3 in
        (x.0 ++ y.0, x.1 ∙ ap (λ z. x.0 ++ z) y.1 ∙ sym (append_assoc x.0 y.0 bad), y.2, y.3, (s.0, x.0, y.0 ++ y.3, append_assoc x.0 y.0 y.3, x.2, y.4)))
  ];
  stays_ok = λ b front r r' same e.
      let s = bind_ok (p (front ++ r)) f b r e in
      let x = gp.sound (front ++ r) s.0 s.1 s.2 in
      let y = (gf s.0).sound s.1 b r s.3 in
      through s.0 front x.0 y.0 s.1 r r' same (x.1) (y.1) s.2 ∙ (gf s.0).stays_ok b y.0 r r' same (rw (← y.1) s.3);
  stays_err = λ d front r r' same e. elim (bind_err (p (front ++ r)) f d r e) [
    | inl k ↦ ap (λ z. z >>= f) (gp.stays_err d front r r' same k)
    | inr s ↦ (let x = gp.sound (front ++ r) s.0 s.1 s.2 in let y = (gf s.0).viable s.1 d r s.3 in
        through s.0 front x.0 y.0 s.1 r r' same (x.1) (y.1) s.2 ∙ (gf s.0).stays_err d y.0 r r' same (rw (← y.1) s.3))
  ];
  value = (gf gp.value).value;
  spelling = gp.spelling ++ (gf gp.value).spelling;
  some = (gp.value, gp.spelling, (gf gp.value).spelling, refl, gp.some, (gf gp.value).some);
}
  where
    through : (a : A) (front x y m r r' : List Tok) → first r ≡ first r' → front ++ r ≡ x ++ m → m ≡ y ++ r → p (front ++ r) ≡ Got a m → (p (front ++ r') >>= f) ≡ f a (y ++ r')
    through a front x y m r r' same whole part e =
        let all : front ++ r ≡ (x ++ y) ++ r = whole ∙ (ap (λ z. x ++ z) part ∙ sym (append_assoc x y r)) in
        let cut : front ≡ x ++ y = append_cancel_right front (x ++ y) r all in
        let here : front ++ r' ≡ x ++ (y ++ r') = ap (λ z. z ++ r') cut ∙ append_assoc x y r' in
        let had : p (x ++ (y ++ r)) ≡ Got a (y ++ r) = subst (λ z. p z ≡ Got a (y ++ r)) (whole ∙ ap (λ z. x ++ z) part) (e ∙ ap (λ z. Got a z) part) in
        ap (and_then p f) here ∙ ap (λ z. z >>= f) (gp.stays_ok a x (y ++ r) (y ++ r') (first_behind y r r' same) had)

-- ---- one of two, told apart by the next token

pub good_branch : {A : Type 0} (f : Tok → Bool) (p q : Reader A) (P Q : Rule A) (more : Tok → Bool)
    → Good p P more → Good q Q more
    → ((a : A) (x rest : List Tok) → P a x → next_is f (x ++ rest) ≡ true)
    → ((a : A) (x rest : List Tok) → Q a x → next_is more rest ≡ false → next_is f (x ++ rest) ≡ false)
    → Good (branch f p q) (P or Q) more
good_branch {A = A} f p q P Q more gp gq begins begins_not = record {
  sound = λ ts a rest e. sound (next_is f ts) ts a rest e;
  complete = λ a front rest h stop. elim h [
    | inl k ↦ cond-true _ _ _ (begins a front rest k) ∙ gp.complete a front rest k stop
    | inr k ↦ cond-false _ _ _ (begins_not a front rest k stop) ∙ gq.complete a front rest k stop
  ];
  viable = λ ts d bad e. viable (next_is f ts) ts d bad e;
  stays_ok = λ a front r r' same e. stays_ok (next_is f (front ++ r)) a front r r' same refl e;
  stays_err = λ d front r r' same e. stays_err (next_is f (front ++ r)) d front r r' same refl e;
  value = gp.value;
  spelling = gp.spelling;
  some = inl gp.some;
}
  where
    sound : (b : Bool) (ts : List Tok) (a : A) (rest : List Tok) → (if b then p ts else q ts) ≡ Got a rest → (front : List Tok) × (ts ≡ front ++ rest) × (P or Q) a front
    sound true ts a rest e = let x = gp.sound ts a rest e in (x.0, x.1, inl x.2)
    sound false ts a rest e = let x = gq.sound ts a rest e in (x.0, x.1, inr x.2)

    viable : (b : Bool) (ts : List Tok) (d : Bool) (bad : List Tok) → (if b then p ts else q ts) ≡ Fails d bad → (front : List Tok) × (ts ≡ front ++ bad) × (a : A) × (tail : List Tok) × (P or Q) a (front ++ tail)
    viable true ts d bad e = let x = gp.viable ts d bad e in (x.0, x.1, x.2, x.3, inl x.4)
    viable false ts d bad e = let x = gq.viable ts d bad e in (x.0, x.1, x.2, x.3, inr x.4)

    stays_ok : (b : Bool) (a : A) (front r r' : List Tok) → first r ≡ first r' → next_is f (front ++ r) ≡ b → (if b then p (front ++ r) else q (front ++ r)) ≡ Got a r → branch f p q (front ++ r') ≡ Got a r'
    stays_ok true a front r r' same was e = cond-true _ _ _ (sym (first_is f _ _ (first_behind front r r' same)) ∙ was) ∙ gp.stays_ok a front r r' same e
    stays_ok false a front r r' same was e = cond-false _ _ _ (sym (first_is f _ _ (first_behind front r r' same)) ∙ was) ∙ gq.stays_ok a front r r' same e

    stays_err : (b : Bool) (d : Bool) (front r r' : List Tok) → first r ≡ first r' → next_is f (front ++ r) ≡ b → (if b then p (front ++ r) else q (front ++ r)) ≡ Fails d r → branch f p q (front ++ r') ≡ Fails d r'
    stays_err true d front r r' same was e = cond-true _ _ _ (sym (first_is f _ _ (first_behind front r r' same)) ∙ was) ∙ gp.stays_err d front r r' same e
    stays_err false d front r r' same was e = cond-false _ _ _ (sym (first_is f _ _ (first_behind front r r' same)) ∙ was) ∙ gq.stays_err d front r r' same e

-- the limit of levels: what begins with f is not looked at
pub good_limit : {A : Type 0} (f : Tok → Bool) (q : Reader A) (Q : Rule A) (more : Tok → Bool)
    → Good q Q more
    → ((a : A) (x rest : List Tok) → Q a x → next_is more rest ≡ false → next_is f (x ++ rest) ≡ false)
    → Good (branch f (λ ts. Fails true ts) q) Q more
good_limit {A = A} f q Q more gq begins_not = record {
  sound = λ ts a rest e. sound (next_is f ts) ts a rest e;
  complete = λ a front rest k stop. cond-false _ _ _ (begins_not a front rest k stop) ∙ gq.complete a front rest k stop;
  viable = λ ts d bad e. viable (next_is f ts) ts d bad e;
  stays_ok = λ a front r r' same e. stays_ok (next_is f (front ++ r)) a front r r' same refl e;
  stays_err = λ d front r r' same e. stays_err (next_is f (front ++ r)) d front r r' same refl e;
  value = gq.value;
  spelling = gq.spelling;
  some = gq.some;
}
  where
    sound : (b : Bool) (ts : List Tok) (a : A) (rest : List Tok) → (if b then Fails true ts else q ts) ≡ Got a rest → (front : List Tok) × (ts ≡ front ++ rest) × Q a front
    sound true ts a rest e = absurd cc
    sound false ts a rest e = gq.sound ts a rest e

    viable : (b : Bool) (ts : List Tok) (d : Bool) (bad : List Tok) → (if b then Fails true ts else q ts) ≡ Fails d bad → (front : List Tok) × (ts ≡ front ++ bad) × (a : A) × (tail : List Tok) × Q a (front ++ tail)
    viable true ts d bad e = let k : ts ≡ bad = cc in ([], k, gq.value, gq.spelling, gq.some)
    viable false ts d bad e = gq.viable ts d bad e

    stays_ok : (b : Bool) (a : A) (front r r' : List Tok) → first r ≡ first r' → next_is f (front ++ r) ≡ b → (if b then Fails true (front ++ r) else q (front ++ r)) ≡ Got a r → branch f (λ ts. Fails true ts) q (front ++ r') ≡ Got a r'
    stays_ok true a front r r' same was e = absurd cc
    stays_ok false a front r r' same was e = cond-false _ _ _ (sym (first_is f _ _ (first_behind front r r' same)) ∙ was) ∙ gq.stays_ok a front r r' same e

    stays_err : (b : Bool) (d : Bool) (front r r' : List Tok) → first r ≡ first r' → next_is f (front ++ r) ≡ b → (if b then Fails true (front ++ r) else q (front ++ r)) ≡ Fails d r → branch f (λ ts. Fails true ts) q (front ++ r') ≡ Fails d r'
    stays_err true d front r r' same was e =
        let k : front ++ r ≡ r = cc in let j : front ≡ [] = append_cancel_right front [] r k in let i : true ≡ d = cc in
        cond-true _ _ _ (sym (first_is f _ _ (first_behind front r r' same)) ∙ was) ∙ rw (j, i) refl
    stays_err false d front r r' same was e = cond-false _ _ _ (sym (first_is f _ _ (first_behind front r r' same)) ∙ was) ∙ gq.stays_err d front r r' same e

-- ---- tests of the next token

abbrev pub or_test : (Tok → Bool) → (Tok → Bool) → Tok → Bool
or_test f g t = f t || g t

pub next_or : (f g : Tok → Bool) (ts : List Tok) → next_is (or_test f g) ts ≡ false → (next_is f ts ≡ false) × (next_is g ts ≡ false)
next_or f g [] e = (refl, refl)
next_or f g (t ∷ ts) e = or_parts (f t) (g t) e

pub or_next : (f g : Tok → Bool) (ts : List Tok) → next_is f ts ≡ false → next_is g ts ≡ false → next_is (or_test f g) ts ≡ false
or_next f g [] e h = refl
or_next f g (t ∷ ts) e h = rw (e, h) refl

pub next_apart : (f g : Tok → Bool) → ((t : Tok) → f t ≡ true → g t ≡ false) → (ts : List Tok) → next_is f ts ≡ true → next_is g ts ≡ false
next_apart f g h [] e = absurd cc
next_apart f g h (t ∷ ts) e = h t e
