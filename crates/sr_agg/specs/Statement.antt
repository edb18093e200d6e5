-- What a text says as an aggregate: what is told, of the rows of which query, in which groups.
use Rattle.std.specs.Prelude.{ℕ, ◌||◌, ◌&&◌, Bool, true, false, List, [], ◌∷◌, length, nat_lt, bytes_eq, Option, Some, None, Result, Ok, Err, codes, if◌then◌else◌}
use Rattle.std.specs.Option.{option_map}
use Rattle.sr_cell.specs.declared.fault.Fault.{Fault}
use Rattle.sr_cell.specs.declared.fault.Why.TheVariants.{LongText, Grammar}
use Rattle.sr_grammar.specs.declared.statement.Name.{Name}
use Rattle.sr_grammar.specs.Tokens.{Named, Mark, Bad, Tok, is, of_kind, tokens_of}
use Rattle.sr_grammar.specs.Words.{Word, place_of, name_of, reference_of}
use Rattle.sr_grammar_laws.specs.Reading.{Reading, Got, Fails, Reader, and_then as ◌>>=◌, nothing, one, branch}
use Rattle.sr_grammar_laws.specs.Readers.{key, mark, maybe, list, reference, end}
use Rattle.sr_sql.specs.Refusals.{fault_at}
use Rattle.sr_agg.specs.declared.item.Function.{Function}
use Rattle.sr_agg.specs.declared.item.Function.TheVariants.{Count, Sum, Min, Max}
use Rattle.sr_agg.specs.declared.statement.Listed.{Listed}
use Rattle.sr_agg.specs.declared.statement.Listed.TheVariants.{Plain, Rows, Of}
use Rattle.sr_agg.specs.declared.statement.Aggregate.{Aggregate}

-- ---- what is listed

-- these words name functions; they are reserved nowhere
abbrev pub function_named : List ℕ → Option Function
function_named word =
    if bytes_eq word (codes "count") then Some Count else
    if bytes_eq word (codes "sum") then Some Sum else
    if bytes_eq word (codes "min") then Some Min else
    if bytes_eq word (codes "max") then Some Max else None

-- COUNT alone may have a * in place of a column
abbrev pub may_be_all : Function → Tok → Bool
may_be_all Count t = is Mark (codes "*") t
may_be_all _ t = false

abbrev pub called : Function → ℕ → Reader Listed
called function place = branch (may_be_all function) (do
  _ ← mark (codes "*")
  nothing Rows)
    (do
      name ← reference
      nothing (Of function place name))

-- behind a word: "(" ("*" | reference) ")", if the word names a function
abbrev pub call : Word → Reader Listed
call word = by (function_named word.text)
  where
    by : Option Function → Reader Listed
    by None = λ ts. Fails false ts
    by (Some function) = do
      _ ← mark (codes "(")
      listed ← called function word.place
      _ ← mark (codes ")")
      nothing listed

-- behind a word: the column of that name, or one of the table of that name
abbrev pub reference_behind : Word → Reader Name
reference_behind word = do
  column ← maybe (is Mark (codes ".")) (do
    _ ← mark (codes ".")
    one name_of)
  nothing (reference_of word column)

abbrev pub plain : Word → Reader Listed
plain word = do
  name ← reference_behind word
  nothing (Plain name)

-- A word is a function only in front of a parenthesis; else it begins a reference.
unfoldable pub item : Reader Listed
item = do
  word ← one name_of
  branch (is Mark (codes "(")) (call word) (plain word)

-- ---- the rest of the query

abbrev pub is_none : List Tok → Bool
is_none [] = true
is_none (t ∷ ts) = false

-- The rest of a query ends before the first GROUP, before the closing semicolon, and at the end.
abbrev pub ends : List Tok → Bool
ends [] = true
ends (t ∷ ts) = is Named (codes "group") t || (is Mark (codes ";") t && is_none ts)

abbrev pub place_if_any : List Tok → Option ℕ
place_if_any [] = None
place_if_any (t ∷ ts) = Some t.from

-- the tokens up to there, none of which is bad; what is read is where they end, if not at the end of the text
abbrev pub up_to_end : Reader (Option ℕ)
up_to_end [] = Got None []
up_to_end (t ∷ ts) = if ends (t ∷ ts) then Got (Some t.from) (t ∷ ts) else (if of_kind Bad t then Fails false (t ∷ ts) else up_to_end ts)

-- at least one token, and all up to there
unfoldable pub rest : Reader (Option ℕ)
rest ts = if ends ts then Fails false ts else up_to_end ts

-- the name that comes next, if one does
abbrev pub name_ahead : List Tok → Option Word
name_ahead [] = None
name_ahead (t ∷ ts) = name_of t

-- the name of the query's first table, where a name stands there; nothing is taken
abbrev pub table_ahead : Reader (Option (List ℕ))
table_ahead ts = Got (option_map (λ (word : Word). word.text) (name_ahead ts)) ts

-- GROUP BY reference {"," reference}
unfoldable pub grouping : Reader (Option (List Name))
grouping = maybe (is Named (codes "group")) (do
  _ ← one (place_of Named (codes "group"))
  _ ← one (place_of Named (codes "by"))
  list Mark (codes ",") reference)

-- ---- the whole

-- SELECT item {"," item} FROM rest [GROUP BY reference {"," reference}] [";"]
unfoldable pub aggregate : Reader Aggregate
aggregate = do
  _ ← key (codes "SELECT")
  items ← list Mark (codes ",") item
  from ← key (codes "FROM")
  table ← table_ahead
  until ← rest
  groups ← grouping
  _ ← maybe (is Mark (codes ";")) (mark (codes ";"))
  nothing (record { items = items; from = from; table = table; until = until; groups = groups })

unfoldable pub whole : Reader Aggregate
whole = do
  a ← aggregate
  end a

abbrev pub of_reading : List ℕ → Reading Aggregate → Result Aggregate Fault
of_reading text (Got a ts) = Ok a
of_reading text (Fails deep ts) = Err (fault_at Grammar text ts)

-- What a text is as an aggregate; or its first fault: that it is too long, or where it leaves the grammar.
abbrev pub outer : List ℕ → Result Aggregate Fault
outer text = if nat_lt 65536 (length text) then Err (record { why = LongText; at = 65536 }) else of_reading text (whole (tokens_of text))
