-- Where reading fails, the text is outside the grammar, at that place and for that reason.
use Rattle.std.proofs.Common.{◌≡◌, ℕ, Bool, true, false, List, [], ◌∷◌, ◌++◌, inl, inr, refl, ap}
use Rattle.std.specs.Prelude.{if◌then◌else◌}
use Rattle.sr_cell.specs.declared.fault.Why.{Why}
use Rattle.sr_cell.specs.declared.fault.Why.TheVariants.{BadToken, Grammar, Deep}
use Rattle.sr_grammar.specs.Tokens.{Bad, Tok, is_kind, of_kind, tokens_of}
use Rattle.sr_grammar.specs.Says.{most_levels, Begins, Stops, place_in, IsOutside}
use Rattle.sr_grammar_laws.specs.Reading.{Fails, next_is}
use Rattle.sr_grammar_laws.specs.Readers.{whole}
use Rattle.sr_grammar_laws.specs.Exact.{EndsAt, StopsAt}
use Rattle.sr_grammar_laws.proofs.Words.{is_kind-true}
use Rattle.sr_grammar_laws.proofs.Clean.{clean_statement, next_clean}
use Rattle.sr_grammar_laws.proofs.Top.{each_is_exact}

-- a token that goes on with a statement is one of the language
pub goes_on_clean : (n : ℕ) (front : List Tok) (t : Tok) → Begins n (front ++ t ∷ []) → t.kind ≡ Bad → ⊥
goes_on_clean n front t b bad = next_clean front t b.1 (clean_statement n b.0 _ b.2) bad

-- no token of the language, or too deep, or the grammar
abbrev pub why_of : Bool → List Tok → Why
why_of deep rest = if next_is (of_kind Bad) rest then BadToken else (if deep then Deep else Grammar)

stops_for : (deep : Bool) (front bad : List Tok) → EndsAt most_levels deep front bad → Stops (why_of deep bad) front bad
stops_for false front [] e = inr (inl (refl, e))
stops_for true front [] e = absurd e
stops_for deep front (t ∷ ts) e = go (of_kind Bad t) deep refl e
  where
    not_bad : of_kind Bad t ≡ false → t.kind ≡ Bad → ⊥
    not_bad was bad = absurd (cc (was, ap (λ k. is_kind k Bad) bad))

    go : (b d : Bool) → of_kind Bad t ≡ b → EndsAt most_levels d front (t ∷ ts) → Stops (if b then BadToken else (if d then Deep else Grammar)) front (t ∷ ts)
    go true d was e = inl (refl, is_kind-true t.kind Bad was)
    go false false was e = inr (inl (refl, (not_bad was, e)))
    go false true was e = inr (inr (refl, e))

pub outside_of : (text : List ℕ) (deep : Bool) (bad : List Tok) → whole most_levels (tokens_of text) ≡ Fails deep bad → IsOutside text (record { why = why_of deep bad; at = place_in text bad })
outside_of text deep bad e =
    let s : StopsAt most_levels deep (tokens_of text) bad = (each_is_exact most_levels).stops (tokens_of text) bad deep e in
    (s.0, bad, s.1, s.2, stops_for deep s.0 bad s.3, refl)

-- the three reasons, one by one
