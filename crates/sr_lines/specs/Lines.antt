-- The lines of a file.
use Rattle.std.specs.Prelude.{ℕ, ◌==◌, ◌&&◌, Bool, false, List, [], ◌∷◌, if◌then◌else◌}

-- a byte before the first of these lines
abbrev pub before_line : ℕ → List (List ℕ) → List (List ℕ)
before_line b [] = (b ∷ []) ∷ []
before_line b (line ∷ lines) = (b ∷ line) ∷ lines

abbrev pub begins_with_feed : List ℕ → Bool
begins_with_feed [] = false
begins_with_feed (b ∷ bytes) = b == 10

-- Lines are ended by LF; the last LF may be missing; a CR right before an LF is dropped.
abbrev pub lines_of : List ℕ → List (List ℕ)
lines_of [] = []
lines_of (b ∷ bytes) =
    if b == 10 then [] ∷ lines_of bytes
    else (if b == 13 && begins_with_feed bytes then lines_of bytes else before_line b (lines_of bytes))
