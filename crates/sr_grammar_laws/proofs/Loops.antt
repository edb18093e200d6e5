-- Reading one item after the other, as a loop does.
use Rattle.std.proofs.Common.{◌≡◌, ℕ, zero, suc, ◌<◌, ◌≤◌, Bool, true, false, List, [], ◌∷◌, ◌++◌, length, Option, Some, None, refl, sym, ap, ◌∙◌, append_assoc, arith}
use Rattle.std.specs.Prelude.{if◌then◌else◌}
use Rattle.std.proofs.lemmas.List.{length-append}
use Rattle.std.proofs.lemmas.Bool.{cond-true}
use Rattle.sr_grammar.specs.Tokens.{Kind, Tok, is}
use Rattle.sr_grammar.specs.Words.{place_of}
use Rattle.sr_grammar.specs.Rules.{Rule}
use Rattle.sr_grammar_laws.specs.Reading.{Reading, Got, Fails, Reader, ◌>>=◌, and_then, taken, one, next_is, many_for, many}
use Rattle.sr_grammar_laws.proofs.Good.{Good, bind_ok}
use Rattle.sr_grammar_laws.proofs.Words.{Begins}

-- what is read leaves no more than there was
abbrev pub Shrinks : {A : Type 0} → Reader A → Type 0
Shrinks {A = A} p = (ts : List Tok) (a : A) (rest : List Tok) → p ts ≡ Got a rest → length rest ≤ length ts

pub shrinks : {A : Type 0} (p : Reader A) (P : Rule A) (more : Tok → Bool) → Good p P more → Shrinks p
shrinks p P more g ts a rest e = let s = g.sound ts a rest e in omega (arith, ap length s.1, length-append s.0 rest)

pub one_shrinks : {A : Type 0} (f : Tok → Option A) (ts : List Tok) (a : A) (rest : List Tok) → one f ts ≡ Got a rest → length rest < length ts
one_shrinks f [] a rest e = absurd cc
one_shrinks {A = A} f (t ∷ ts) a rest e = go (f t) e
  where
    go : (o : Option A) → taken o t ts ≡ Got a rest → length rest < suc (length ts)
    go None e = absurd cc
    go (Some b) e = let k : ts ≡ rest = cc in omega (arith, ap length k)

abbrev pub with_front : {A : Type 0} → List A → Reading (List A) → Reading (List A)
with_front front read = read >>= λ y end. Got (front ++ y) end

-- an item behind its word or mark
abbrev pub item : {A : Type 0} → Kind → List ℕ → Reader A → Reader A
item k text p = and_then (one (place_of k text)) (λ _. p)

item_shrinks : {A : Type 0} (k : Kind) (text : List ℕ) (p : Reader A) → Shrinks p → (ts : List Tok) (a : A) (rest : List Tok) → item k text p ts ≡ Got a rest → length rest < length ts
item_shrinks k text p s ts a rest e =
    let b = bind_ok (one (place_of k text) ts) (λ _. p) a rest e in
    omega (arith, one_shrinks (place_of k text) ts b.0 b.1 b.2, s b.1 a rest b.3)

enough : {A : Type 0} (f : Tok → Bool) (q : Reader A) → ((ts : List Tok) (a : A) (rest : List Tok) → q ts ≡ Got a rest → length rest < length ts)
    → (k l : ℕ) (ts : List Tok) → length ts < k → length ts < l → many_for k f q ts ≡ many_for l f q ts
enough f q s zero l ts lt lu = absurd (omega arith)
enough f q s (suc k) zero ts lt lu = absurd (omega arith)
enough {A = A} f q s (suc k) (suc l) ts lt lu = go (next_is f ts) (q ts) refl (λ rest h. enough f q s k l rest (omega (arith, h)) (omega (arith, h)))
  where
    go : (b : Bool) (r : Reading A) → q ts ≡ r → ((rest : List Tok) → length rest < length ts → many_for k f q rest ≡ many_for l f q rest)
        → (if b then (r >>= λ x rest. many_for k f q rest >>= λ y end. Got (x ∷ y) end) else Got [] ts) ≡ (if b then (r >>= λ x rest. many_for l f q rest >>= λ y end. Got (x ∷ y) end) else Got [] ts)
    go false r was ih = refl
    go true (Fails d bad) was ih = refl
    go true (Got x rest) was ih = ap (λ z. z >>= λ y end. Got (x ∷ y) end) (ih rest (s ts x rest was))

many_step : {A : Type 0} (k : Kind) (text : List ℕ) (p : Reader A) → Shrinks p → (ts : List Tok) (a : A) (rest : List Tok) → next_is (is k text) ts ≡ true → item k text p ts ≡ Got a rest
    → many (is k text) (item k text p) ts ≡ (many (is k text) (item k text p) rest >>= λ y end. Got (a ∷ y) end)
many_step k text p s ts a rest next e =
    let lt = item_shrinks k text p s ts a rest e in
    cond-true _ _ _ next ∙ rw e (ap (λ z. z >>= λ y end. Got (a ∷ y) end) (enough (is k text) (item k text p) (item_shrinks k text p s) (length ts) (suc (length rest)) rest lt (omega arith)))

-- what was read before, and what is still read, is all
pub record Going {A : Type 0} (k : Kind) (text : List ℕ) (p : Reader A) (front : List A) (ts : List Tok) (total : Reading (List A)) : Type 0 where
  pub so_far : with_front front (many (is k text) (item k text p) ts) ≡ total

pub regroup : {A : Type 0} (front : List A) (a : A) (read : Reading (List A)) → with_front front (read >>= λ y end. Got (a ∷ y) end) ≡ with_front (front ++ a ∷ []) read
regroup front a (Got y end) = ap (λ z. Got z end) (sym (append_assoc front (a ∷ []) y))
regroup front a (Fails d bad) = refl

pub goes_on : {A : Type 0} (k : Kind) (text : List ℕ) (p : Reader A) → Shrinks p → (front : List A) (ts mid : List Tok) (at : ℕ) (a : A) (rest : List Tok) (total : Reading (List A))
    → next_is (is k text) ts ≡ true → one (place_of k text) ts ≡ Got at mid → p mid ≡ Got a rest → Going k text p front ts total → Going k text p (front ++ a ∷ []) rest total
goes_on k text p s front ts mid at a rest total next e h g =
    let whole : item k text p ts ≡ Got a rest = rw e h in
    record { so_far = sym (regroup front a (many (is k text) (item k text p) rest)) ∙ ap (with_front front) (sym (many_step k text p s ts a rest next whole)) ∙ g.so_far }

-- ---- a loop that goes on by any test of the next token, and begins with nothing

-- what is read takes a token at least
abbrev pub Takes : {A : Type 0} → Reader A → Type 0
Takes {A = A} p = (ts : List Tok) (a : A) (rest : List Tok) → p ts ≡ Got a rest → length rest < length ts

pub takes : {A : Type 0} (f : Tok → Bool) (p : Reader A) (P : Rule A) (more : Tok → Bool) → Good p P more → Begins P f → Takes p
takes f p P more g begins ts a rest e =
    let s = g.sound ts a rest e in
    omega (arith, ap length s.1, length-append s.0 rest, nonempty s.0 (begins a s.0 [] s.2))
  where
    nonempty : (x : List Tok) → next_is f (x ++ []) ≡ true → 0 < length x
    nonempty [] e = absurd cc
    nonempty (t ∷ x) e = omega arith

while_step : {A : Type 0} (f : Tok → Bool) (p : Reader A) → Takes p → (ts : List Tok) (a : A) (rest : List Tok) → next_is f ts ≡ true → p ts ≡ Got a rest
    → many f p ts ≡ (many f p rest >>= λ y end. Got (a ∷ y) end)
while_step f p s ts a rest next e =
    let lt = s ts a rest e in
    cond-true _ _ _ next ∙ rw e (ap (λ z. z >>= λ y end. Got (a ∷ y) end) (enough f p s (length ts) (suc (length rest)) rest lt (omega arith)))

-- what was read before, and what is still read, is all
pub record While {A : Type 0} (f : Tok → Bool) (p : Reader A) (front : List A) (ts : List Tok) (total : Reading (List A)) : Type 0 where
  pub so_far : with_front front (many f p ts) ≡ total

pub while_on : {A : Type 0} (f : Tok → Bool) (p : Reader A) → Takes p → (front : List A) (ts : List Tok) (a : A) (rest : List Tok) (total : Reading (List A))
    → next_is f ts ≡ true → p ts ≡ Got a rest → While f p front ts total → While f p (front ++ a ∷ []) rest total
while_on f p s front ts a rest total next e g =
    record { so_far = sym (regroup front a (many f p rest)) ∙ ap (with_front front) (sym (while_step f p s ts a rest next e)) ∙ g.so_far }
