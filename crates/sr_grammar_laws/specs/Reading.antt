-- Reading from left to right, up to the first token that does not fit.
use Rattle.std.specs.Prelude.{ℕ, zero, suc, Bool, false, List, [], ◌∷◌, length, Option, Some, None, if◌then◌else◌}
use Rattle.sr_grammar.specs.Tokens.{Tok}

-- A value and the tokens behind it; or where reading stops, and whether the limit of levels alone stopped it.
pub data Reading (A : Type 0) : Type 0 where
  Got : A → List Tok → Reading A
  Fails : Bool → List Tok → Reading A

abbrev pub Reader : Type 0 → Type 0
Reader A = List Tok → Reading A

infixl 10 ◌>>=◌
abbrev pub ◌>>=◌ : {A B : Type 0} → Reading A → (A → Reader B) → Reading B
(Got x rest) >>= f = f x rest
(Fails deep rest) >>= f = Fails deep rest

abbrev pub and_then : {A B : Type 0} → Reader A → (A → Reader B) → Reader B
and_then p f ts = p ts >>= f

abbrev pub nothing : {A : Type 0} → A → Reader A
nothing a ts = Got a ts

abbrev pub taken : {A : Type 0} → Option A → Tok → List Tok → Reading A
taken None t ts = Fails false (t ∷ ts)
taken (Some a) t ts = Got a ts

abbrev pub one : {A : Type 0} → (Tok → Option A) → Reader A
one f [] = Fails false []
one f (t ∷ ts) = taken (f t) t ts

-- whether the next token is such a one
abbrev pub next_is : (Tok → Bool) → List Tok → Bool
next_is f [] = false
next_is f (t ∷ ts) = f t

abbrev pub branch : {A : Type 0} → (Tok → Bool) → Reader A → Reader A → Reader A
branch f p q ts = if next_is f ts then p ts else q ts

abbrev pub many_for : {A : Type 0} → ℕ → (Tok → Bool) → Reader A → Reader (List A)
many_for zero f p ts = Got [] ts
many_for (suc k) f p ts = if next_is f ts then (p ts >>= λ x rest. many_for k f p rest >>= λ y end. Got (x ∷ y) end) else Got [] ts

-- readings of p, as long as the next token is such a one
abbrev pub many : {A : Type 0} → (Tok → Bool) → Reader A → Reader (List A)
many f p ts = many_for (suc (length ts)) f p ts
