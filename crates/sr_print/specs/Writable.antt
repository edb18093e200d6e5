-- Tokens that stand for themselves when they are written out.
use Rattle.std.specs.Prelude.{ℕ, ◌==◌, ◌&&◌, ◌||◌, not, Bool, true, false, List, [], ◌∷◌, length, nat_le, codes, bytes_eq}
use Rattle.std.specs.Char.{is_ascii_lowercase, is_ascii_digit}
use Rattle.std.specs.List.{list_all, list_any}
use Rattle.sr_grammar.specs.Tokens.{Kind, Key, Named, Number, Quoted, Mark, Bad, Tok, is_reserved, upper}

-- a small letter or _
abbrev pub begins_name : ℕ → Bool
begins_name b = is_ascii_lowercase b || b == 95

abbrev pub goes_on_name : ℕ → Bool
goes_on_name b = begins_name b || is_ascii_digit b

abbrev pub begins_as_name : List ℕ → Bool
begins_as_name [] = false
begins_as_name (b ∷ bytes) = begins_name b

-- a name, as a token has it: of at most 64 bytes, in small letters, and no reserved word
abbrev pub is_name : List ℕ → Bool
is_name text = begins_as_name text && (list_all goes_on_name text && (nat_le (length text) 64 && not (is_reserved (upper text))))

-- one to 18 digits
abbrev pub is_digits : List ℕ → Bool
is_digits text = nat_le 1 (length text) && (list_all is_ascii_digit text && nat_le (length text) 18)

abbrev pub marks : List (List ℕ)
marks =
    codes "(" ∷ codes ")" ∷ codes "," ∷ codes ";" ∷ codes "." ∷ codes "*" ∷ codes "-"
    ∷ codes "=" ∷ codes "<" ∷ codes ">" ∷ codes "<=" ∷ codes ">=" ∷ codes "<>" ∷ codes "!=" ∷ []

abbrev pub is_writable_as : Kind → List ℕ → Bool
is_writable_as Key text = is_reserved text
is_writable_as Named text = is_name text
is_writable_as Number text = is_digits text
is_writable_as Quoted text = true
is_writable_as Mark text = list_any (bytes_eq text) marks
is_writable_as Bad text = false

abbrev pub is_writable : Tok → Bool
is_writable t = is_writable_as t.kind t.text

abbrev pub are_writable : List Tok → Bool
are_writable ts = list_all is_writable ts
