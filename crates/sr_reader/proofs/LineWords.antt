-- The first token of a line, and whole lines.
use Rattle.std.proofs.Common.{◌≡◌, ℕ, ◌≤◌, Bool, true, false, List, [], ◌∷◌, length, map, refl, sym, ap, subst, arith}
use Rattle.std.specs.Prelude.{Ok, Err, ◌||◌, nat_eq, codes}
use Rattle.std.specs.List.{starts_with}
use Rattle.std.specs.Str.{IsUtf8, is_utf8}
use Rattle.std.specs.Str.Lossy.{utf8_valid_len}
use Rattle.std.proofs.lemmas.List.{length-append}
use Rattle.std.proofs.lemmas.Str.{IsUtf8-from_is_utf8, is_utf8-from_IsUtf8}
use Rattle.sr_token.specs.declared.token.TokenKind.{TokenKind}
use Rattle.sr_token.specs.Tokens.{Lexeme, Found, Bad, tokens_from}
use Rattle.sr_grammar.specs.Tokens.{Key, is, seen, lexeme_seen, tokens_of}
use Rattle.sr_lines.specs.Script.{Silent, CreateLine, is_blank, begins_create, event_of, event_line, line_of}
use Rattle.sr_lines.proofs.Parts.{faults_leave_ends}

-- ---- the first token of a line

pub begins_found : (line : List ℕ) (k : TokenKind) (from to : ℕ) (text : List ℕ) (rest : List Lexeme) (b : Bool) → tokens_from line 0 ≡ Found k from to text ∷ rest → b ≡ is Key (codes "CREATE") (seen k from text) → b ≡ begins_create (tokens_of line)
begins_found line k from to text rest b found is = subst (λ z. b ≡ begins_create (map lexeme_seen z)) (sym found) is

pub begins_none : (line : List ℕ) → tokens_from line 0 ≡ [] → false ≡ begins_create (tokens_of line)
begins_none line found = subst (λ z. false ≡ begins_create (map lexeme_seen z)) (sym found) refl

pub begins_bad : (line : List ℕ) (at : ℕ) → tokens_from line 0 ≡ Bad at ∷ [] → false ≡ begins_create (tokens_of line)
begins_bad line at found = subst (λ z. false ≡ begins_create (map lexeme_seen z)) (sym found) refl

-- ---- whole lines

pub not_text : (clients : ℕ) (line : List ℕ) (place : ℕ) → is_utf8 line ≡ false → place ≡ utf8_valid_len line → Err place ≡ line_of clients line
not_text clients line place text is = rw (text, is) refl

pub silent : (clients : ℕ) (line : List ℕ) → is_utf8 line ≡ true → (is_blank line || starts_with nat_eq line (codes "#")) ≡ true → Ok Silent ≡ line_of clients line
silent clients line text quiet = rw (text, quiet) refl

pub created : (clients : ℕ) (line : List ℕ) → is_utf8 line ≡ true → (is_blank line || starts_with nat_eq line (codes "#")) ≡ false → begins_create (tokens_of line) ≡ true → Ok (CreateLine line) ≡ line_of clients line
created clients line text loud begins = rw (text, loud, begins) refl

pub event : (clients : ℕ) (line : List ℕ) → is_utf8 line ≡ true → (is_blank line || starts_with nat_eq line (codes "#")) ≡ false → begins_create (tokens_of line) ≡ false → event_line clients line ≡ line_of clients line
event clients line text loud begins = rw (text, loud, begins) refl

pub is_text : (bytes line : List ℕ) → line ≡ bytes → IsUtf8 bytes → is_utf8 line ≡ true
is_text bytes line same text = subst (λ z. is_utf8 z ≡ true) (sym same) (is_utf8-from_IsUtf8 bytes text)

pub no_text : (bytes : List ℕ) → (IsUtf8 bytes → ⊥) → is_utf8 bytes ≡ false
no_text bytes other = by (is_utf8 bytes) refl
  where
    by : (b : Bool) → is_utf8 bytes ≡ b → is_utf8 bytes ≡ false
    by true is = absurd (other (IsUtf8-from_is_utf8 bytes is))
    by false is = is

-- what a fault leaves is no longer than the line
pub left_within : (clients : ℕ) (line rest : List ℕ) → Err rest ≡ event_of clients line → length rest ≤ length line
left_within clients line rest is =
    let end = faults_leave_ends clients line rest (sym is) in
    omega (arith, ap length end.1, length-append end.0 rest)
