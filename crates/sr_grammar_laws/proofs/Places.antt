-- Reading looks at no place: how the words of the grammar keep that.
use Rattle.std.proofs.Common.{◌≡◌, ℕ, zero, suc, Bool, true, false, List, [], ◌∷◌, map, length, Option, Some, None, refl, ap}
use Rattle.std.specs.Prelude.{if◌then◌else◌, codes}
use Rattle.sr_grammar.specs.Tokens.{Tok, Kind, Mark, is}
use Rattle.sr_grammar.specs.Words.{place_of}
use Rattle.sr_grammar.specs.Places.{bare_token}
use Rattle.sr_grammar_laws.specs.Blind.{seen}
use Rattle.sr_grammar_laws.specs.Reading.{Reading, Got, Fails, Reader, ◌>>=◌, and_then, nothing, taken, one, next_is, branch, many_for, many}
use Rattle.sr_grammar_laws.specs.Readers.{maybe, in_parens}

-- q reads bare tokens as p reads the others, but for places
pub record Alike {A : Type 0} (s : A → A) (p q : Reader A) : Type 0 where
  pub same : (ts : List Tok) → q (map bare_token ts) ≡ seen s (p ts)

abbrev pub Blind : {A : Type 0} → (A → A) → Reader A → Type 0
Blind s p = Alike s p p

abbrev pub map_some : {A : Type 0} → (A → A) → Option A → Option A
map_some s None = None
map_some s (Some a) = Some (s a)

abbrev pub just : {A : Type 0} → A → A
just a = a

-- the place of a bare token
abbrev pub no_place : ℕ → ℕ
no_place at = 0

pub alike_nothing : {A : Type 0} (s : A → A) (a b : A) → b ≡ s a → Alike s (nothing a) (nothing b)
alike_nothing s a b e = record { same = λ ts. ap (λ z. Got z (map bare_token ts)) e }

pub blind_one : {A : Type 0} (s : A → A) (f : Tok → Option A) → ((t : Tok) → f (bare_token t) ≡ map_some s (f t)) → Blind s (one f)
blind_one {A = A} s f h = record { same = same }
  where
    take : (t : Tok) (ts : List Tok) (o p : Option A) → p ≡ map_some s o → taken p (bare_token t) (map bare_token ts) ≡ seen s (taken o t ts)
    take t ts None p e = rw e refl
    take t ts (Some a) p e = rw e refl

    same : (ts : List Tok) → one f (map bare_token ts) ≡ seen s (one f ts)
    same [] = refl
    same (t ∷ ts) = take t ts (f t) (f (bare_token t)) (h t)

-- f' of the value without places reads as f of the other does
pub alike_then : {A B : Type 0} (s : A → A) (u : B → B) (p p' : Reader A) (f f' : A → Reader B) → Alike s p p' → ((a : A) → Alike u (f a) (f' (s a))) → Alike u (and_then p f) (and_then p' f')
alike_then {A = A} s u p p' f f' hp hf = record { same = λ ts. rw (hp.same ts) (go (p ts)) }
  where
    go : (r : Reading A) → (seen s r >>= f') ≡ seen u (r >>= f)
    go (Got a rest) = (hf a).same rest
    go (Fails d bad) = refl

next_bare : (f : Tok → Bool) → ((t : Tok) → f (bare_token t) ≡ f t) → (ts : List Tok) → next_is f (map bare_token ts) ≡ next_is f ts
next_bare f h [] = refl
next_bare f h (t ∷ ts) = h t

pub blind_branch : {A : Type 0} (s : A → A) (f : Tok → Bool) (p q : Reader A) → ((t : Tok) → f (bare_token t) ≡ f t) → Blind s p → Blind s q → Blind s (branch f p q)
blind_branch s f p q h hp hq = record { same = λ ts. rw (next_bare f h ts) (go ts (next_is f ts)) }
  where
    go : (ts : List Tok) (b : Bool) → (if b then p (map bare_token ts) else q (map bare_token ts)) ≡ seen s (if b then p ts else q ts)
    go ts true = hp.same ts
    go ts false = hq.same ts

-- ---- any number

blind_many_for : {A : Type 0} (s : A → A) (f : Tok → Bool) (p : Reader A) → ((t : Tok) → f (bare_token t) ≡ f t) → Blind s p
    → (k : ℕ) (ts : List Tok) → many_for k f p (map bare_token ts) ≡ seen (map s) (many_for k f p ts)
blind_many_for s f p h hp zero ts = refl
blind_many_for {A = A} s f p h hp (suc k) ts = rw (next_bare f h ts, hp.same ts) (go (next_is f ts) (p ts) (blind_many_for s f p h hp k))
  where
    end : (x : A) (r : Reading (List A)) → (seen (map s) r >>= λ y e. Got (s x ∷ y) e) ≡ seen (map s) (r >>= λ y e. Got (x ∷ y) e)
    end x (Got y e) = refl
    end x (Fails d bad) = refl

    go : (b : Bool) (r : Reading A) → ((rest : List Tok) → many_for k f p (map bare_token rest) ≡ seen (map s) (many_for k f p rest))
        → (if b then (seen s r >>= λ x rest. many_for k f p rest >>= λ y e. Got (x ∷ y) e) else Got [] (map bare_token ts)) ≡ seen (map s) (if b then (r >>= λ x rest. many_for k f p rest >>= λ y e. Got (x ∷ y) e) else Got [] ts)
    go false r ih = refl
    go true (Fails d bad) ih = refl
    go true (Got x rest) ih = rw (ih rest) (end x (many_for k f p rest))

length-bare : (ts : List Tok) → length (map bare_token ts) ≡ length ts
length-bare [] = refl
length-bare (t ∷ ts) = ap suc (length-bare ts)

pub blind_many : {A : Type 0} (s : A → A) (f : Tok → Bool) (p : Reader A) → ((t : Tok) → f (bare_token t) ≡ f t) → Blind s p → Blind (map s) (many f p)
blind_many s f p h hp = record { same = λ ts. rw (length-bare ts) (blind_many_for s f p h hp (suc (length ts)) ts) }

-- ---- words

pub chosen-bare : {A : Type 0} (s : A → A) (b : Bool) (a : A) → (if b then Some (s a) else None) ≡ map_some s (if b then Some a else None)
chosen-bare s true a = refl
chosen-bare s false a = refl

pub blind_token : (k : Kind) (text : List ℕ) → Blind no_place (one (place_of k text))
blind_token k text = blind_one no_place (place_of k text) (λ t. chosen-bare no_place (is k text t) t.from)

-- a word or mark first, and then p
pub alike_after : {B : Type 0} (u : B → B) (k : Kind) (text : List ℕ) (f f' : ℕ → Reader B) → ((at : ℕ) → Alike u (f at) (f' 0)) → Alike u (and_then (one (place_of k text)) f) (and_then (one (place_of k text)) f')
alike_after u k text f f' h = alike_then no_place u _ _ f f' (blind_token k text) h

-- p, whose value is mapped
pub alike_map : {A B : Type 0} (s : A → A) (u : B → B) (p p' : Reader A) (f f' : A → B) → Alike s p p' → ((a : A) → f' (s a) ≡ u (f a)) → Alike u (and_then p (λ a. nothing (f a))) (and_then p' (λ a. nothing (f' a)))
alike_map s u p p' f f' hp e = alike_then s u p p' _ _ hp (λ a. alike_nothing u (f a) (f' (s a)) (e a))

pub blind_maybe : {A : Type 0} (s : A → A) (f : Tok → Bool) (p : Reader A) → ((t : Tok) → f (bare_token t) ≡ f t) → Blind s p → Blind (map_some s) (maybe f p)
blind_maybe s f p h hp = blind_branch (map_some s) f _ _ h (alike_map s (map_some s) p p _ _ hp (λ a. refl)) (alike_nothing (map_some s) None None refl)

-- one p, then any number of times the word or mark and p, and what is made of both
pub blind_list : {A B : Type 0} (s : A → A) (u : B → B) (made : A → List A → B) (k : Kind) (text : List ℕ) (p : Reader A) → Blind s p → ((a : A) (all : List A) → made (s a) (map s all) ≡ u (made a all))
    → Blind u (and_then p (λ a. and_then (many (is k text) (and_then (one (place_of k text)) (λ _. p))) (λ all. nothing (made a all))))
blind_list s u made k text p hp e =
    alike_then s u p p _ _ hp (λ a. alike_map (map s) u _ _ (made a) (made (s a)) (blind_many s (is k text) _ (λ t. refl) (alike_after s k text (λ _. p) (λ _. p) (λ at. hp))) (e a))

pub blind_parens : {A : Type 0} (s : A → A) (p : Reader A) → Blind s p → Blind s (in_parens p)
blind_parens s p hp = alike_after s Mark (codes "(") _ _ (λ at. alike_then s s p p _ _ hp (λ a. alike_after s Mark (codes ")") _ _ (λ at. alike_nothing s a (s a) refl)))
