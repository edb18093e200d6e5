-- Taking the rest of a query token by token.
use Rattle.std.proofs.Common.{◌≡◌, ◌<◌, true, false, List, [], ◌∷◌, length, drop, refl, arith}
use Rattle.sr_grammar.specs.Tokens.{Bad, Tok, of_kind}
use Rattle.sr_grammar_laws.specs.Reading.{Got, Fails, next_is}
use Rattle.sr_agg.specs.Statement.{ends, place_if_any, up_to_end}

pub goes-on : (ts : List Tok) → ends ts ≡ false → next_is (of_kind Bad) ts ≡ false → up_to_end ts ≡ up_to_end (drop 1 ts)
goes-on [] h k = absurd cc
goes-on (t ∷ ts) h k = rw (h, k) refl

pub one-less : (ts : List Tok) → ends ts ≡ false → length (drop 1 ts) < length ts
one-less [] h = absurd cc
one-less (t ∷ ts) h = omega arith

pub at-end : (ts : List Tok) → ends ts ≡ true → up_to_end ts ≡ Got (place_if_any ts) ts
at-end [] h = refl
at-end (t ∷ ts) h = rw h refl

pub at-bad : (ts : List Tok) → ends ts ≡ false → next_is (of_kind Bad) ts ≡ true → up_to_end ts ≡ Fails false ts
at-bad [] h k = absurd cc
at-bad (t ∷ ts) h k = rw (h, k) refl
