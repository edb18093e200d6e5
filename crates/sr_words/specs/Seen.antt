-- What the code sees of words.
use Rattle.std.specs.Prelude.{ℕ, List}
use Rattle.sr_words.specs.declared.command.LoadWord.{LoadWord}

abbrev pub load_of : List ℕ → List ℕ → LoadWord
load_of table file = record { table = table; file = file }
