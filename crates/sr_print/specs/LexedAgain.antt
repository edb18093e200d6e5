-- Tokens are written out so that they are read again.
use Rattle.std.specs.Prelude.{◌≡◌, ℕ, ◌||◌, Bool, true, List, map, IsTrue}
use Rattle.std.specs.List.{list_all}
use Rattle.sr_grammar.specs.Tokens.{Bad, Tok, tokens_of, of_kind}
use Rattle.sr_grammar.specs.Spaced.{spaced}
use Rattle.sr_grammar.specs.Places.{bare_token}
use Rattle.sr_print.specs.Writable.{is_writable, are_writable}

-- the text of writable tokens has these very tokens, but for places
abbrev pub WrittenAgain : Type 0
WrittenAgain = (ts : List Tok) → IsTrue (are_writable ts) → map bare_token (tokens_of (spaced true ts)) ≡ map bare_token ts

abbrev pub is_writable_or_bad : Tok → Bool
is_writable_or_bad t = is_writable t || of_kind Bad t

-- what a text has as tokens is writable, up to a place where no token begins
abbrev pub LexedAreWritable : Type 0
LexedAreWritable = (text : List ℕ) → IsTrue (list_all is_writable_or_bad (tokens_of text))
