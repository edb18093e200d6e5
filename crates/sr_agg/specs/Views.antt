-- What a cursor has left, and what reading from it owes to a reader of the grammar.
use Rattle.std.specs.Prelude.{◌≡◌, ℕ, List, [], ◌∷◌, map, Option, Some, None, Result, Ok, Err, true, false}
use Rattle.std.specs.Str.{IsCharBoundary}
use Rattle.sr_token.specs.Tokens.{Lexeme}
use Rattle.sr_grammar.specs.Tokens.{Mark, Bad, Tok, is, seen, lexeme_seen}
use Rattle.sr_grammar.specs.Words as words
use Rattle.sr_grammar.specs.Words.{place_of}
use Rattle.sr_grammar_laws.specs.Reading.{Got, Fails, Reader, next_is, one}
use Rattle.sr_agg.specs.declared.cursor.Next.{Next}
use Rattle.sr_agg.specs.declared.cursor.Next.TheVariants as next
use Rattle.sr_agg.specs.declared.cursor.Seen.{Seen}
use Rattle.sr_agg.specs.declared.cursor.Word.{Word}
use Rattle.sr_agg.specs.declared.stop.Stop.{Stop}
use Rattle.sr_agg.specs.declared.stop.Stop.TheVariants as stop

abbrev pub token_seen : Seen → Tok
token_seen t = seen t.kind t.place t.text.now

-- the next token in front of those behind it; nothing stands behind a place where none begins
abbrev pub in_front : Next → List Tok → List Tok
in_front (next.Token t) behind = token_seen t ∷ behind
in_front (next.Bad at) behind = record { kind = Bad; text = []; from = at } ∷ []
in_front next.End behind = []

-- the next two tokens, and those behind them
abbrev pub left_seen : Next → Next → List Lexeme → List Tok
left_seen first second behind = in_front first (in_front second (map lexeme_seen behind))

abbrev pub word_of : Word → words.Word
word_of word = record { text = word.text; place = word.place }

-- What a call returned, seen by view, and what it left, is what reading gives; or memory ran out.
abbrev pub Reads : {X Y : Type 0} → (X → Y) → Reader Y → List Tok → Result X Stop → List Tok → Type 0
Reads view reader old (Ok x) new = reader old ≡ Got (view x) new
Reads view reader old (Err stop.Grammar) new = reader old ≡ Fails false new
Reads view reader old (Err stop.Memory) new = Unit {0}

-- this mark was read, if it came next
abbrev pub MayRead : List ℕ → List Tok → Option ℕ → List Tok → Type 0
MayRead text old None new = (next_is (is Mark text) old ≡ false) × (new ≡ old)
MayRead text old (Some at) new = (next_is (is Mark text) old ≡ true) × (one (place_of Mark text) old ≡ Got at new)

-- a text may be cut there
abbrev pub MayCut : List ℕ → Option ℕ → Type 0
MayCut text None = Unit {0}
MayCut text (Some place) = IsCharBoundary text place
