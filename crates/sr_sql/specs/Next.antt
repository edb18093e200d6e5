-- The tokens that a cursor has left.
use Rattle.std.specs.Prelude.{List, [], ◌∷◌, map}
use Rattle.sr_token.specs.Tokens.{Lexeme}
use Rattle.sr_token.specs.Texts.{IsTextOf}
use Rattle.sr_grammar.specs.Tokens.{Bad, Tok, seen, lexeme_seen}
use Rattle.sr_grammar.specs.Words as words
use Rattle.sr_sql.specs.declared.cursor.Item.{Item}
use Rattle.sr_sql.specs.declared.cursor.Next.{Next}
use Rattle.sr_sql.specs.declared.cursor.Next.TheVariants as next
use Rattle.sr_sql.specs.declared.cursor.Word.{Word}

abbrev pub item_seen : Item → Tok
item_seen item = seen item.kind item.place item.text.now

-- the next token, and those behind it
abbrev pub left_seen : Next → List Lexeme → List Tok
left_seen (next.Item item) behind = item_seen item ∷ map lexeme_seen behind
left_seen (next.Bad at) behind = record { kind = Bad; text = []; from = at } ∷ []
left_seen next.End behind = []

abbrev pub IsNext : Next → Type 0
IsNext (next.Item item) = IsTextOf item.kind item.text.now
IsNext (next.Bad at) = Unit {0}
IsNext next.End = Unit {0}

abbrev pub word_of : Word → words.Word
word_of word = record { text = word.text; place = word.place }
