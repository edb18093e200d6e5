-- The first line of some bytes.
use Rattle.std.specs.Prelude.{ℕ, ◌+◌, ◌==◌, List, [], ◌∷◌, if◌then◌else◌}

-- how long the first line is, with its CR
abbrev pub first_end : List ℕ → ℕ
first_end [] = 0
first_end (b ∷ bytes) = if b == 10 then 0 else first_end bytes + 1

-- the bytes without a CR at their end
abbrev pub without_return : List ℕ → List ℕ
without_return [] = []
without_return (b ∷ []) = if b == 13 then [] else b ∷ []
without_return (b ∷ d ∷ bytes) = b ∷ without_return (d ∷ bytes)
