-- What a reader of whole statements owes to the grammar.
use Rattle.std.specs.Prelude.{◌≡◌, ℕ, Bool, true, false, List, [], ◌∷◌, ◌++◌}
use Rattle.sr_grammar.specs.Tokens.{Tok}
use Rattle.sr_grammar.specs.Trees.{Tree}
use Rattle.sr_grammar.specs.Statements.{IsStatement}
use Rattle.sr_grammar.specs.Says.{Begins}
use Rattle.sr_grammar_laws.specs.Reading.{Got, Fails}
use Rattle.sr_grammar_laws.specs.Readers.{whole}

-- why a front does not go on with what stands behind it: at all, or within n levels alone
abbrev pub EndsAt : ℕ → Bool → List Tok → List Tok → Type 0
EndsAt n false front [] = (tree : Tree) → IsStatement n tree front → ⊥
EndsAt n true front [] = ⊥
EndsAt n false front (t ∷ ts) = (m : ℕ) → Begins m (front ++ t ∷ []) → ⊥
EndsAt n true front (t ∷ ts) = ((m : ℕ) × Begins m (front ++ t ∷ [])) × (Begins n (front ++ t ∷ []) → ⊥)

abbrev pub StopsAt : ℕ → Bool → List Tok → List Tok → Type 0
StopsAt n deep ts bad = (front : List Tok) × (ts ≡ front ++ bad) × Begins n front × EndsAt n deep front bad

-- What is read is spelled so, what is spelled so is read, and reading stops at the first token with which no statement goes on.
pub record IsExact (n : ℕ) : Type 0 where
  pub found : (ts rest : List Tok) (tree : Tree) → whole n ts ≡ Got tree rest → (rest ≡ []) × IsStatement n tree ts
  pub only : (ts : List Tok) (tree : Tree) → IsStatement n tree ts → whole n ts ≡ Got tree []
  pub stops : (ts bad : List Tok) (deep : Bool) → whole n ts ≡ Fails deep bad → StopsAt n deep ts bad

abbrev pub EachIsExact : Type 0
EachIsExact = (n : ℕ) → IsExact n
