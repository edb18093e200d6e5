-- The words of the grammar that stand on others, and which tokens begin a spelling.
use Rattle.std.proofs.Common.{◌≡◌, ℕ, Bool, true, false, List, [], ◌∷◌, ◌++◌, inl, inr, Option, Some, None, refl, append_assoc}
use Rattle.std.specs.Prelude.{◌&&◌, if◌then◌else◌, codes}
use Rattle.std.specs.Str.{bytes_eq}
use Rattle.std.proofs.lemmas.Slice.Eq.{bytes_eq-Decides}
use Rattle.std.proofs.lemmas.Bool.{and_parts}
use Rattle.sr_grammar.specs.Tokens.{Kind, Key, Named, Number, Quoted, Mark, Bad, Tok, is, is_kind, of_kind}
use Rattle.sr_grammar.specs.Words.{place_of}
use Rattle.sr_grammar.specs.Rules.{Rule, One, Nothing, ◌>>=◌ as ◌▸◌, ◌or◌, Many}
use Rattle.sr_grammar_laws.specs.Reading.{Reader, and_then, nothing, one, next_is, many}
use Rattle.sr_grammar.specs.Conditions.{MaybeOf, InParens}
use Rattle.sr_grammar_laws.specs.Readers.{maybe, in_parens}
use Rattle.sr_grammar_laws.proofs.Good.{or_test, next_or, next_apart}
use Rattle.sr_grammar_laws.proofs.Deep.{Both, both_nothing, both_one, both_then, both_branch, both_many}

abbrev pub no_more : Tok → Bool
no_more t = false

pub none_more : (ts : List Tok) → next_is no_more ts ≡ false
none_more [] = refl
none_more (t ∷ ts) = refl

-- ---- which token comes first

abbrev pub Begins : {A : Type 0} → Rule A → (Tok → Bool) → Type 0
Begins {A = A} P f = (a : A) (x rest : List Tok) → P a x → next_is f (x ++ rest) ≡ true

abbrev pub Apart : (Tok → Bool) → (Tok → Bool) → Type 0
Apart f g = (t : Tok) → f t ≡ true → g t ≡ false

pub begins_one : {A : Type 0} (g : Tok → Option A) (f : Tok → Bool) → ((t : Tok) (a : A) → g t ≡ Some a → f t ≡ true) → Begins (One g) f
begins_one g f h a x rest p = rw p.2 (h p.0 a p.1)

pub begins_then : {A B : Type 0} (P : Rule A) (Q : A → Rule B) (f : Tok → Bool) → Begins P f → Begins (P ▸ Q) f
begins_then P Q f h b z rest p = rw (p.3, append_assoc p.1 p.2 rest) (h p.0 p.1 (p.2 ++ rest) p.4)

pub begins_or : {A : Type 0} (P Q : Rule A) (f : Tok → Bool) → Begins P f → Begins Q f → Begins (P or Q) f
begins_or P Q f h k a x rest p = elim p [ inl q ↦ h a x rest q | inr q ↦ k a x rest q ]

pub begins_wide : {A : Type 0} (P : Rule A) (f g : Tok → Bool) → ((t : Tok) → f t ≡ true → g t ≡ true) → Begins P f → Begins P g
begins_wide P f g h b a x rest p = go (x ++ rest) (b a x rest p)
  where
    go : (ts : List Tok) → next_is f ts ≡ true → next_is g ts ≡ true
    go [] e = absurd cc
    go (t ∷ ts) e = h t e

-- ---- tests of tokens

pub is_kind-true : (k l : Kind) → is_kind k l ≡ true → k ≡ l
is_kind-true Key Key e = refl
is_kind-true Named Named e = refl
is_kind-true Number Number e = refl
is_kind-true Quoted Quoted e = refl
is_kind-true Mark Mark e = refl
is_kind-true Bad Bad e = refl
is_kind-true _ _ e = absurd cc

pub of_kind-apart : (k l : Kind) → is_kind k l ≡ false → Apart (of_kind k) (of_kind l)
of_kind-apart k l differ t e = rw (is_kind-true t.kind k e) differ

pub bytes_eq-true : (a b : List ℕ) → bytes_eq a b ≡ true → a ≡ b
bytes_eq-true a b e = (bytes_eq-Decides a b).0 e

pub is-apart : (k l : Kind) (a b : List ℕ) → (is_kind k l && bytes_eq a b) ≡ false → Apart (is k a) (is l b)
is-apart k l a b differ t e =
    let h = and_parts _ _ e in
    rw (is_kind-true t.kind k h.0, bytes_eq-true t.text a h.1) differ

pub is-of_kind : (k : Kind) (a : List ℕ) (t : Tok) → is k a t ≡ true → of_kind k t ≡ true
is-of_kind k a t e = (and_parts _ _ e).0

-- a test of a kind, and a word or mark of another
pub of_kind-is : (k l : Kind) (b : List ℕ) → is_kind k l ≡ false → Apart (of_kind k) (is l b)
of_kind-is k l b differ t e = rw (is_kind-true t.kind k e, differ) refl

pub chosen : {A : Type 0} (b : Bool) (x : A) (a : A) → (if b then Some x else None) ≡ Some a → b ≡ true
chosen true x a e = refl
chosen false x a e = absurd cc

pub place_of-is : (k : Kind) (text : List ℕ) (t : Tok) (a : ℕ) → place_of k text t ≡ Some a → is k text t ≡ true
place_of-is k text t a e = chosen (is k text t) t.from a e

pub begins_token : (k : Kind) (text : List ℕ) → Begins (One (place_of k text)) (is k text)
begins_token k text = begins_one (place_of k text) (is k text) (place_of-is k text)

-- ---- words

pub both_token : (k : Kind) (text : List ℕ) → place_of k text (record { kind = k; text = text; from = 0 }) ≡ Some 0 → Both (one (place_of k text)) (one (place_of k text)) (One (place_of k text)) (One (place_of k text)) no_more
both_token k text e = both_one (place_of k text) 0 (record { kind = k; text = text; from = 0 }) e

-- a word or mark first, and then p
pub both_after : {B : Type 0} (k : Kind) (text : List ℕ) (p p' : ℕ → Reader B) (P P' : ℕ → Rule B) (more : Tok → Bool) → place_of k text (record { kind = k; text = text; from = 0 }) ≡ Some 0
    → ((at : ℕ) → Both (p at) (p' at) (P at) (P' at) more) → Both (and_then (one (place_of k text)) p) (and_then (one (place_of k text)) p') (One (place_of k text) ▸ P) (One (place_of k text) ▸ P') more
both_after k text p p' P P' more e h = both_then _ _ _ _ no_more _ _ _ _ more (both_token k text e) h (λ a x b y rest u v w. none_more (y ++ rest))

-- p, whose value is mapped
pub both_map : {A B : Type 0} (p p' : Reader A) (P P' : Rule A) (more : Tok → Bool) (f : A → B) → Both p p' P P' more
    → Both (and_then p (λ a. nothing (f a))) (and_then p' (λ a. nothing (f a))) (P ▸ λ a. Nothing (f a)) (P' ▸ λ a. Nothing (f a)) more
both_map p p' P P' more f h = both_then _ _ _ _ more _ _ _ _ more h (λ a. both_nothing (f a) more) (λ a x b y rest u v w. rw v.1 w)

-- a rule goes on with fewer tokens than this
pub both_more : {A : Type 0} (p p' : Reader A) (P P' : Rule A) (more more' : Tok → Bool) → ((ts : List Tok) → next_is more' ts ≡ false → next_is more ts ≡ false) → Both p p' P P' more → Both p p' P P' more'
both_more p p' P P' more more' h b = record {
  good = record {
    sound = b.good.sound;
    complete = λ a front rest s e. b.good.complete a front rest s (h rest e);
    viable = b.good.viable;
    stays_ok = b.good.stays_ok;
    stays_err = b.good.stays_err;
    value = b.good.value;
    spelling = b.good.spelling;
    some = b.good.some;
  };
  wider = b.wider;
  got = b.got;
  fails = b.fails;
  deep = b.deep;
}

pub both_maybe : {A : Type 0} (f : Tok → Bool) (p p' : Reader A) (P P' : Rule A) (more : Tok → Bool) → Both p p' P P' more → Begins P f
    → Both (maybe f p) (maybe f p') (MaybeOf P) (MaybeOf P') (or_test f more)
both_maybe f p p' P P' more h begins =
    both_branch f _ _ _ _ _ _ _ _ (or_test f more)
    (both_more _ _ _ _ more (or_test f more) (λ ts e. (next_or f more ts e).1) (both_map p p' P P' more (λ a. Some a) h))
    (both_nothing None (or_test f more))
    (begins_then P _ f begins)
    (λ a x rest q e. rw q.1 ((next_or f more rest e).0))

-- behind an item stands the next one, or what may stand behind the list
pub many_follow : {A : Type 0} (f : Tok → Bool) (P : Rule A) (more : Tok → Bool) → Begins P f → Apart f more
    → (xs : List A) (y rest : List Tok) → Many P xs y → next_is (or_test f more) rest ≡ false → next_is more (y ++ rest) ≡ false
many_follow f P more begins apart [] y rest h stop = rw h ((next_or f more rest stop).1)
many_follow f P more begins apart (x ∷ xs) y rest h stop = rw (h.2, append_assoc h.0 h.1 rest) (next_apart f more apart _ (begins x h.0 (h.1 ++ rest) h.3))

-- one p, then any number of times the word or mark and p, and what is made of both
pub both_list : {A B : Type 0} (made : A → List A → B) (k : Kind) (text : List ℕ) (p p' : Reader A) (P P' : Rule A) (more : Tok → Bool) → place_of k text (record { kind = k; text = text; from = 0 }) ≡ Some 0
    → Both p p' P P' more → Apart (is k text) more
    → Both (and_then p (λ a. and_then (many (is k text) (and_then (one (place_of k text)) (λ _. p))) (λ all. nothing (made a all))))
    (and_then p' (λ a. and_then (many (is k text) (and_then (one (place_of k text)) (λ _. p'))) (λ all. nothing (made a all))))
    (P ▸ λ a. Many (One (place_of k text) ▸ λ _. P) ▸ λ all. Nothing (made a all))
    (P' ▸ λ a. Many (One (place_of k text) ▸ λ _. P') ▸ λ all. Nothing (made a all)) (or_test (is k text) more)
both_list {A = A} made k text p p' P P' more e h apart =
    let begins : Begins (One (place_of k text) ▸ λ _. P) (is k text) = begins_then _ _ _ (begins_token k text) in
    both_then _ _ _ _ more _ _ _ _ (or_test (is k text) more) h
    (λ a. both_map _ _ _ _ (or_test (is k text) more) (made a)
    (both_many (is k text) _ _ _ _ more (both_after k text (λ _. p) (λ _. p') (λ _. P) (λ _. P') more e (λ _. h)) begins apart))
    (λ a x b y rest u v w. rw (v.3, append_assoc v.1 v.2 rest, v.5.1) (many_follow (is k text) (One (place_of k text) ▸ λ _. P) more begins apart v.0 v.1 rest v.4 w))

pub both_parens : {A : Type 0} (p p' : Reader A) (P P' : Rule A) (more : Tok → Bool) → Both p p' P P' more → Apart (is Mark (codes ")")) more
    → Both (in_parens p) (in_parens p') (InParens P) (InParens P') no_more
both_parens p p' P P' more h apart =
    both_after Mark (codes "(") _ _ _ _ no_more refl
    (λ _. both_then _ _ _ _ more _ _ _ _ no_more h (λ a. both_after Mark (codes ")") _ _ _ _ no_more refl (λ _. both_nothing a no_more))
    (λ a x b y rest u v w. next_apart (is Mark (codes ")")) more apart _ (begins_then (One (place_of Mark (codes ")"))) (λ _. Nothing a) _ (begins_token Mark (codes ")")) b y rest v)))
