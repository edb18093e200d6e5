-- What a line of the code stands for.
use Rattle.std.specs.Prelude.{ℕ, List, Result, Ok, Err}
use denote.Ref.{Bor}
use Rattle.sr_reader.specs.declared.words.Words.{Words}
use Rattle.sr_reader.specs.declared.words.Words.TheVariants as words
use Rattle.sr_reader.specs.declared.line.Line.{Line}
use Rattle.sr_reader.specs.declared.line.Line.TheVariants as code
use Rattle.sr_lines.specs.Script as script

abbrev pub words_seen : Words → script.Words
words_seen (words.Exec sql) = script.ExecSql sql.now
words_seen (words.Query client sql) = script.QuerySql client sql.now
words_seen (words.Write client sql) = script.WriteSql client sql.now
words_seen (words.Explain client sql) = script.ExplainSql client sql.now
words_seen (words.Push client) = script.PushTo client
words_seen (words.ToServer client) = script.ToServer client
words_seen (words.ToClient client) = script.ToClient client
words_seen (words.Settle client) = script.Settle client
words_seen (words.Evict client place) = script.Evict client place
words_seen (words.Cut client) = script.Cut client
words_seen (words.Resume client) = script.Resume client

abbrev pub line_seen : Line → script.Line
line_seen code.Silent = script.Silent
line_seen (code.Create sql) = script.CreateLine sql.now
line_seen (code.Event said) = script.EventLine (words_seen said)

-- what was read of an event, made into its words; or what is left of the line
abbrev pub made_of : {A : Type 0} → (A → script.Words) → Result A (Bor (List ℕ)) → script.Reading
made_of made (Ok read) = Ok (made read)
made_of made (Err rest) = Err rest.now

abbrev pub reading_seen : Result Words (Bor (List ℕ)) → script.Reading
reading_seen reading = made_of words_seen reading

-- the line, or the place of its fault
abbrev pub read_seen : Result Line ℕ → Result script.Line ℕ
read_seen (Ok line) = Ok (line_seen line)
read_seen (Err place) = Err place
