-- The lines of a client's script, as words.
use Rattle.std.specs.Prelude.{ℕ, ◌+◌, Bool, true, false, List, [], ◌∷◌, ◌++◌, Result, Ok}
use Rattle.std.specs.List.{list_all}
use Rattle.std.specs.Option.{is_some}
use Rattle.sr_cell.specs.Clients.{most_clients}
use Rattle.sr_lines.specs.Lines.{lines_of}
use Rattle.sr_lines.specs.Script.{Words, QuerySql, Line, EventLine, line_of}
use Rattle.sr_setup.specs.ClientFiles.{doer_of}

-- the words of a line, with its number; a blank line and a comment have none
abbrev pub words_at : ℕ → Result Line ℕ → List (ℕ × Words)
words_at n (Ok (EventLine words)) = (n, words) ∷ []
words_at n other = []

-- those of these lines, of which the first has this number
abbrev pub words_from : ℕ → List (List ℕ) → List (ℕ × Words)
words_from n [] = []
words_from n (line ∷ lines) = words_at n (line_of most_clients line) ++ words_from (n + 1) lines

-- those of a script
abbrev pub words_in : List ℕ → List (ℕ × Words)
words_in script = words_from 1 (lines_of script)

-- A client does all of them by itself.
abbrev pub are_own : List (ℕ × Words) → Bool
are_own lines = list_all (λ line. is_some (doer_of line.1)) lines

abbrev pub is_query : Words → Bool
is_query (QuerySql client sql) = true
is_query other = false
