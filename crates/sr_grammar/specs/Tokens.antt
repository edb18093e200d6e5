-- Tokens, as the grammar sees them.
use Rattle.std.specs.Prelude.{ℕ, ◌==◌, ◌&&◌, Bool, true, false, List, [], ◌∷◌, map, codes, bytes_eq, if◌then◌else◌}
use Rattle.std.specs.Char.{to_ascii_uppercase, to_ascii_lowercase}
use Rattle.std.specs.List.{list_any}
use Rattle.sr_token.specs.declared.token.TokenKind.{TokenKind}
use Rattle.sr_token.specs.declared.token.TokenKind.TheVariants as token
use Rattle.sr_token.specs.Tokens.{Lexeme, Found, Bad as None_there, tokens_from}

-- Key is a reserved word, Named any other word, Bad what is no token
pub data Kind : Type 0 where
  Key : Kind
  Named : Kind
  Number : Kind
  Quoted : Kind
  Mark : Kind
  Bad : Kind

-- what a token says, and the byte where it begins
pub record Tok : Type 0 where
  pub kind : Kind
  pub text : List ℕ
  pub from : ℕ

abbrev pub is_kind : Kind → Kind → Bool
is_kind Key Key = true
is_kind Named Named = true
is_kind Number Number = true
is_kind Quoted Quoted = true
is_kind Mark Mark = true
is_kind Bad Bad = true
is_kind _ _ = false

abbrev pub of_kind : Kind → Tok → Bool
of_kind kind t = is_kind t.kind kind

-- this very word or mark
abbrev pub is : Kind → List ℕ → Tok → Bool
is kind text t = is_kind t.kind kind && bytes_eq t.text text

abbrev pub reserved : List (List ℕ)
reserved =
    codes "AND" ∷ codes "BETWEEN" ∷ codes "CHECK" ∷ codes "CREATE" ∷ codes "DELETE" ∷ codes "FROM" ∷ codes "IN" ∷ codes "INNER" ∷ codes "INSERT"
    ∷ codes "INT" ∷ codes "INTEGER" ∷ codes "INTO" ∷ codes "IS" ∷ codes "JOIN" ∷ codes "KEY" ∷ codes "LIKE" ∷ codes "NOT" ∷ codes "NULL" ∷ codes "ON"
    ∷ codes "OR"
    ∷ codes "PRIMARY" ∷ codes "SELECT" ∷ codes "SET" ∷ codes "TABLE" ∷ codes "TEXT" ∷ codes "UPDATE" ∷ codes "VALUES" ∷ codes "WHERE" ∷ []

abbrev pub is_reserved : List ℕ → Bool
is_reserved word = list_any (bytes_eq word) reserved

abbrev pub upper : List ℕ → List ℕ
upper word = map to_ascii_uppercase word

abbrev pub lower : List ℕ → List ℕ
lower word = map to_ascii_lowercase word

-- what stands up to the last quote (39), a doubled quote being one
abbrev pub up_to_quote : List ℕ → List ℕ
up_to_quote [] = []
up_to_quote (b ∷ []) = []
up_to_quote (b ∷ c ∷ s) = if b == 39 then 39 ∷ up_to_quote s else b ∷ up_to_quote (c ∷ s)

-- the text of a token in quotes
abbrev pub unquoted : List ℕ → List ℕ
unquoted [] = []
unquoted (b ∷ s) = up_to_quote s

-- Words are compared without regard to case: a reserved word is kept in upper case, a name in lower case.
abbrev pub word_seen : ℕ → List ℕ → Tok
word_seen from text =
    if is_reserved (upper text) then record { kind = Key; text = upper text; from = from }
    else record { kind = Named; text = lower text; from = from }

abbrev pub seen : TokenKind → ℕ → List ℕ → Tok
seen token.Word from text = word_seen from text
seen token.Number from text = record { kind = Number; text = text; from = from }
seen token.Quoted from text = record { kind = Quoted; text = unquoted text; from = from }
seen token.Mark from text = record { kind = Mark; text = text; from = from }

abbrev pub lexeme_seen : Lexeme → Tok
lexeme_seen (Found kind from to text) = seen kind from text
lexeme_seen (None_there at) = record { kind = Bad; text = []; from = at }

-- all tokens of a text, up to the first place where none begins
abbrev pub tokens_of : List ℕ → List Tok
tokens_of text = map lexeme_seen (tokens_from text 0)
