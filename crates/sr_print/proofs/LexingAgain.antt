-- The text of writable tokens has these very tokens.
use Rattle.std.proofs.Common.{◌≡◌, ℕ, zero, suc, ◌+◌, ◌-◌, ◌<◌, ◌≤◌, ◌==◌, Bool, true, false, List, [], ◌∷◌, ◌++◌, length, take, drop, map, Some, None, inl, inr, refl, sym, ap, ap₂, ◌∙◌, arith, eq-eqb}
use Rattle.std.specs.Prelude.{if◌then◌else◌, ◌||◌, codes}
use Rattle.std.proofs.Math.Seq.{take-append_seam, drop-append_seam}
use Rattle.std.proofs.lemmas.Bool.{and_parts, or_cases, eqb-true}
use Rattle.std.proofs.lemmas.List.{drop-drop, length-drop, length-append}
use Rattle.sr_cell.proofs.Numbers.{lt-eqb}
use Rattle.sr_token.specs.declared.token.TokenKind.{TokenKind}
use Rattle.sr_token.specs.Tokens.{Lexeme, Found, is_blank, run, begin, first_token, tokens_within, tokens_from}
use Rattle.sr_grammar.specs.Tokens.{Tok, lexeme_seen}
use Rattle.sr_grammar.specs.Spaced.{is_close, is_open, token_text, spaced}
use Rattle.sr_grammar.specs.Places.{bare_token}
use Rattle.sr_print.specs.Writable.{is_writable, are_writable}
use Rattle.sr_print.specs.LexedAgain.{WrittenAgain}
use Rattle.sr_print.proofs.LexingRuns.{ends_token}
use Rattle.sr_print.proofs.LexingFronts.{code_of, front_again, seen_again, some_text, spaced_ends}

-- no token begins with a blank
blank_none : (b : ℕ) (bytes : List ℕ) → is_blank b ≡ true → first_token (b ∷ bytes) ≡ None
blank_none b bytes e =
    elim (or_cases (b == 32 || b == 9 || b == 13) (b == 10) e) [
      | inl x ↦ elim (or_cases (b == 32 || b == 9) (b == 13) x) [
        | inl y ↦ elim (or_cases (b == 32) (b == 9) y) [
          | inl z ↦ ap (λ x. first_token (x ∷ bytes)) (eqb-true b 32 z) ∙ space bytes
          | inr z ↦ ap (λ x. first_token (x ∷ bytes)) (eqb-true b 9 z) ∙ tab bytes
        ]
        | inr y ↦ ap (λ x. first_token (x ∷ bytes)) (eqb-true b 13 y) ∙ return bytes
      ]
      | inr x ↦ ap (λ x. first_token (x ∷ bytes)) (eqb-true b 10 x) ∙ line bytes
    ]
  where
    space : (bytes : List ℕ) → first_token (32 ∷ bytes) ≡ None
    space [] = refl
    space (c ∷ bytes) = refl

    tab : (bytes : List ℕ) → first_token (9 ∷ bytes) ≡ None
    tab [] = refl
    tab (c ∷ bytes) = refl

    return : (bytes : List ℕ) → first_token (13 ∷ bytes) ≡ None
    return [] = refl
    return (c ∷ bytes) = refl

    line : (bytes : List ℕ) → first_token (10 ∷ bytes) ≡ None
    line [] = refl
    line (c ∷ bytes) = refl

no_blanks : (bytes : List ℕ) (t : TokenKind × ℕ) → first_token bytes ≡ Some t → run is_blank bytes ≡ 0
no_blanks [] t e = refl
no_blanks (b ∷ bytes) t e = go (is_blank b) refl
  where
    go : (x : Bool) → is_blank b ≡ x → (if x then run is_blank bytes + 1 else 0) ≡ 0
    go true was = let none = blank_none b bytes was in absurd cc
    go false was = refl

one_blank : (x : Bool) (bytes : List ℕ) → run is_blank bytes ≡ 0 → run is_blank ((if x then [] else codes " ") ++ bytes) ≡ length (if x then [] else codes " ")
one_blank true bytes e = e
one_blank false bytes e = rw e refl

-- one token, and then the rest
step : (count : ℕ) (source text rest : List ℕ) (at from : ℕ) (kind : TokenKind) → begin source at ≡ from → from < length source → drop from source ≡ text ++ rest
    → first_token (text ++ rest) ≡ Some (kind, length text) → tokens_within (suc count) source at ≡ Found kind from (from + length text) text ∷ tokens_within count source (from + length text)
step count source text rest at from kind begins lt is front =
    rw (begins, lt-eqb from (length source) lt, is, front)
    (ap (λ (s : List ℕ). Found kind from (from + length text) s ∷ tokens_within count source (from + length text)) (ap (take (length text)) is ∙ take-append_seam text rest))

again : (ts : List Tok) → are_writable ts ≡ true → (count : ℕ) (source : List ℕ) (at : ℕ) (tight : Bool) → drop at source ≡ spaced tight ts → at ≤ length source → length source - at < count
    → map bare_token (map lexeme_seen (tokens_within count source at)) ≡ map bare_token ts
again ts w zero source at tight is le lt = absurd (omega arith)
again [] w (suc count) source at tight is le lt =
    let none : length source - at ≡ 0 = sym (length-drop at source) ∙ ap length is in
    let begins : begin source at ≡ length source = ap (λ z. at + run is_blank z) is ∙ omega (arith, none, le) in
    rw (eq-eqb (begin source at) (length source) begins) refl
again (t ∷ ts) w (suc count) source at tight is le lt =
    let parts = and_parts (is_writable t) (are_writable ts) w in
    let blank = if tight || is_close t then [] else codes " " in
    let text = token_text t in
    let rest = spaced (is_open t) ts in
    let ends : is_open t ≡ false → ends_token rest ≡ true = λ e. rw e (spaced_ends ts) in
    let front : first_token (text ++ rest) ≡ Some (code_of t.kind, length text) = front_again t.kind t.text rest parts.0 ends in
    let clear = no_blanks (text ++ rest) (code_of t.kind, length text) front in
    let from = at + length blank in
    let begins : begin source at ≡ from = ap (λ z. at + run is_blank z) is ∙ ap (λ z. at + z) (one_blank (tight || is_close t) (text ++ rest) clear) in
    let behind : drop from source ≡ text ++ rest = sym (drop-drop (length blank) at source) ∙ ap (drop (length blank)) is ∙ drop-append_seam blank (text ++ rest) in
    let some = some_text t.kind t.text parts.0 in
    let count_all : length source - at ≡ length blank + (length text + length rest) = sym (length-drop at source) ∙ ap length is ∙ length-append blank (text ++ rest) ∙ ap (λ z. length blank + z) (length-append text rest) in
    let next : drop (from + length text) source ≡ rest = sym (drop-drop (length text) from source) ∙ ap (drop (length text)) behind ∙ drop-append_seam text rest in
    let whole = step count source text rest at from (code_of t.kind) begins (omega (arith, some, count_all, le)) behind front in
    let after = again ts parts.1 count source (from + length text) (is_open t) next (omega (arith, some, count_all, le)) (omega (arith, some, count_all, le, lt)) in
    ap (λ (l : List Lexeme). map bare_token (map lexeme_seen l)) whole ∙ ap₂ (λ (u : Tok) (us : List Tok). u ∷ us) (seen_again t.kind t.text from parts.0) after

pub written_again : WrittenAgain
unfolding tokens_from
written_again ts w = again ts w (suc (length (spaced true ts) - 0)) (spaced true ts) 0 true refl (omega arith) (omega arith)
