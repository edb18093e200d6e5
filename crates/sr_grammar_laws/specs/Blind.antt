-- Reading looks at no place.
use Rattle.std.specs.Prelude.{◌≡◌, ℕ, List, map}
use Rattle.sr_grammar.specs.Tokens.{Tok}
use Rattle.sr_grammar.specs.Places.{bare_token, bare_tree}
use Rattle.sr_grammar_laws.specs.Reading.{Reading, Got, Fails}
use Rattle.sr_grammar_laws.specs.Readers.{whole}

-- the same reading without places, where s takes those of the value
abbrev pub seen : {A : Type 0} → (A → A) → Reading A → Reading A
seen s (Got a rest) = Got (s a) (map bare_token rest)
seen s (Fails deep rest) = Fails deep (map bare_token rest)

-- tokens without places are read as the others are, but for places
abbrev pub IsBlind : Type 0
IsBlind = (n : ℕ) (ts : List Tok) → whole n (map bare_token ts) ≡ seen bare_tree (whole n ts)
