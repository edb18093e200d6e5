-- Which token does not come first in a spelling.
use Rattle.std.proofs.Common.{◌≡◌, ℕ, Bool, false, List, ◌++◌, inl, inr, Some, refl, append_assoc}
use Rattle.sr_grammar.specs.Tokens.{Kind, Tok, is}
use Rattle.sr_grammar.specs.Words.{place_of}
use Rattle.sr_grammar.specs.Rules.{Rule, One, Nothing, ◌>>=◌ as ◌▸◌, ◌or◌}
use Rattle.sr_grammar.specs.Conditions.{MaybeOf}
use Rattle.sr_grammar_laws.specs.Reading.{next_is}
use Rattle.sr_grammar_laws.proofs.Good.{next_apart}
use Rattle.sr_grammar_laws.proofs.Words.{no_more, Begins, Apart, begins_then, begins_token}

-- what begins with f does not begin with g
pub begins_not : {A : Type 0} (P : Rule A) (f g more : Tok → Bool) → Begins P f → Apart f g → (a : A) (x rest : List Tok) → P a x → next_is more rest ≡ false → next_is g (x ++ rest) ≡ false
begins_not P f g more b apart a x rest p stop = next_apart f g apart _ (b a x rest p)

pub not_apart : (f : Tok → Bool) → Apart f no_more
not_apart f t e = refl

-- no spelling of P, before what more does not take, begins with g
abbrev pub BeginsNot : {A : Type 0} → Rule A → (Tok → Bool) → (Tok → Bool) → Type 0
BeginsNot {A = A} P g more = (a : A) (x rest : List Tok) → P a x → next_is more rest ≡ false → next_is g (x ++ rest) ≡ false

pub not_or : {A : Type 0} (P Q : Rule A) (g more : Tok → Bool) → BeginsNot P g more → BeginsNot Q g more → BeginsNot (P or Q) g more
not_or P Q g more h k a x rest p stop = elim p [ inl q ↦ h a x rest q stop | inr q ↦ k a x rest q stop ]

-- a rule that begins with a word or mark does not begin with g
pub not_after : {B : Type 0} (k : Kind) (text : List ℕ) (Q : ℕ → Rule B) (g more : Tok → Bool) → Apart (is k text) g → BeginsNot (One (place_of k text) ▸ Q) g more
not_after k text Q g more apart = begins_not _ (is k text) g more (begins_then _ Q _ (begins_token k text)) apart

-- what stands behind P begins with nothing that P goes on with
pub follow : {A B : Type 0} (P : Rule A) (Q : A → Rule B) (more more' : Tok → Bool) → ((a : A) → BeginsNot (Q a) more more')
    → (a : A) (x : List Tok) (b : B) (y rest : List Tok) → P a x → Q a b y → next_is more' rest ≡ false → next_is more (y ++ rest) ≡ false
follow P Q more more' h a x b y rest p q stop = h a b y rest q stop

-- what may be absent begins with f, or is behind what more' does not take
pub not_maybe : {A : Type 0} (P : Rule A) (f g more : Tok → Bool) → Begins P f → Apart f g → ((ts : List Tok) → next_is more ts ≡ false → next_is g ts ≡ false) → BeginsNot (MaybeOf P) g more
not_maybe P f g more b apart wide a x rest p stop = elim p [
  | inl q ↦ next_apart f g apart (x ++ rest) (begins_then P (λ a. Nothing (Some a)) f b a x rest q)
  | inr q ↦ rw q.1 (wide rest stop)
]

-- P, and what is made of it
pub not_made : {A B : Type 0} (P : Rule A) (f : A → B) (g more : Tok → Bool) → BeginsNot P g more → BeginsNot (P ▸ λ a. Nothing (f a)) g more
not_made P f g more h b y rest p stop = rw (p.3, append_assoc p.1 p.2 rest, p.5.1) (h p.0 p.1 rest p.4 stop)
