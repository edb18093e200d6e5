-- Loads, word by word.
use Rattle.std.proofs.Common.{List, ◌++◌, Option, Some, None}
use Rattle.sr_words.specs.declared.command.LoadWord.{LoadWord}

-- these loads, and behind them those that the rest says
abbrev pub behind : List LoadWord → Option (List LoadWord) → Option (List LoadWord)
behind loads None = None
behind loads (Some rest) = Some (loads ++ rest)
