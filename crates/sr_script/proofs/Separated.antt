-- Texts with a separator between two, as a loop prints them: before each stands a separator, before the first another.
use Rattle.std.proofs.Common.{◌≡◌, ℕ, List, [], ◌∷◌, ◌++◌, refl, ap, sym, append-nil}
use Rattle.sr_lines.specs.Texts.{joined}

abbrev pub behind : List ℕ → List ℕ → List (List ℕ) → List ℕ
behind first separator [] = []
behind first separator (t ∷ ts) = first ++ (t ++ behind separator separator ts)

pub joined_behind : (separator : List ℕ) (ts : List (List ℕ)) → joined separator ts ≡ behind [] separator ts
joined_behind separator [] = refl
joined_behind separator (t ∷ []) = sym (append-nil t)
joined_behind separator (t ∷ u ∷ ts) = ap (λ rest. t ++ (separator ++ rest)) (joined_behind separator (u ∷ ts))
