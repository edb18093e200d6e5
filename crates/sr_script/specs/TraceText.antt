-- The text of a trace.
use Rattle.std.specs.Prelude.{ℕ, Bool, true, false, List, [], ◌∷◌, ◌++◌, ◌+◌, map, flat_map, Option, Some, None, decimal, codes, if◌then◌else◌}
use Rattle.sr_cell.specs.declared.cause.Cause.{Cause}
use Rattle.sr_cell.specs.declared.cause.Cause.TheVariants as cause
use Rattle.sr_cell.specs.declared.fault.Fault.{Fault}
use Rattle.sr_cell.specs.declared.fault.Why.{Why}
use Rattle.sr_cell.specs.declared.fault.Why.TheVariants.{LongText, BadToken, Grammar, Deep, UnknownTable, UnknownColumn, Ambiguous, WrongType, OutOfDomain, NotKeyJoin, Repeated, WrongCount, Mixed, TooWide, TooManyTables, NotAWrite, NotAQuery, DuplicateKey, DomainCell, LongCell, KeyChange, TableFull, TooManyChanges, DuplicateName, TooManyColumns, NoKey, BadDomain, BadHeader, BadRecord, BadNumber, BadUtf8, BadNull, NullCell}
use Rattle.sr_cell.specs.declared.table.Column.{Column}
use Rattle.sr_cell.specs.declared.table.Table.{Table}
use Rattle.sr_cell.specs.Columns.{table_at}
use Rattle.sr_cell.specs.Attrs.{has_column}
use Rattle.sr_box.specs.declared.span.Span.{Span}
use Rattle.sr_box.specs.declared.span.Span.TheVariants.{Full, Nums, Strs, Null}
use Rattle.sr_box.specs.Points.{Rect}
use Rattle.sr_lines.specs.Texts.{joined, words, number_text, bytes_text, cell_text}
use Rattle.sr_script.specs.declared.line.TraceLine.{TraceLine}
use Rattle.sr_script.specs.declared.line.TraceLine.TheVariants as line
use Rattle.sr_script.specs.declared.line.FailKind.{FailKind}
use Rattle.sr_script.specs.declared.line.FailKind.TheVariants as fail
use Rattle.sr_script.specs.declared.line.RequestKind.{RequestKind}
use Rattle.sr_script.specs.declared.line.RequestKind.TheVariants as kind

abbrev pub bound_text : Option (List ℕ) → List ℕ
bound_text None = []
bound_text (Some hi) = bytes_text hi

-- the column's name and the ends of its span, or null, where the span is not Full
abbrev pub span_text : Column → Span → List (List ℕ)
span_text c Full = []
span_text c (Nums lo hi) = (c.name ++ (codes " " ++ (number_text lo ++ (codes ".." ++ number_text hi)))) ∷ []
span_text c (Strs lo hi) = (c.name ++ (codes " " ++ (bytes_text lo ++ (codes ".." ++ bound_text hi)))) ∷ []
span_text c Null = (c.name ++ (codes " " ++ codes "null")) ∷ []

abbrev pub spans_text : List Column → Rect → List (List ℕ)
spans_text [] r = []
spans_text (c ∷ cs) [] = []
spans_text (c ∷ cs) (s ∷ r) = span_text c s ++ spans_text cs r

abbrev pub rect_text : List Column → Rect → List ℕ
rect_text columns r = codes "{" ++ (joined (codes ", ") (spans_text columns r) ++ codes "}")

abbrev pub rects_text : List Column → List Rect → List ℕ
rects_text columns rects = words (map (rect_text columns) rects)

-- the names of the columns of a set; c is the number of the first column
abbrev pub names_from : ℕ → ℕ → List Column → List (List ℕ)
names_from c attrs [] = []
names_from c attrs (column ∷ columns) = if has_column attrs c then column.name ∷ names_from (c + 1) attrs columns else names_from (c + 1) attrs columns

abbrev pub attrs_text : List Column → ℕ → List ℕ
attrs_text columns attrs = codes "(" ++ (joined (codes ",") (names_from 0 attrs columns) ++ codes ")")

abbrev pub why_text : Why → List ℕ
why_text LongText = codes "long-text"
why_text BadToken = codes "bad-token"
why_text Grammar = codes "grammar"
why_text Deep = codes "deep"
why_text UnknownTable = codes "unknown-table"
why_text UnknownColumn = codes "unknown-column"
why_text Ambiguous = codes "ambiguous"
why_text WrongType = codes "wrong-type"
why_text OutOfDomain = codes "out-of-domain"
why_text NotKeyJoin = codes "not-key-join"
why_text Repeated = codes "repeated"
why_text WrongCount = codes "wrong-count"
why_text Mixed = codes "mixed"
why_text TooWide = codes "too-wide"
why_text TooManyTables = codes "too-many-tables"
why_text NotAWrite = codes "not-a-write"
why_text NotAQuery = codes "not-a-query"
why_text DuplicateKey = codes "duplicate-key"
why_text DomainCell = codes "domain-cell"
why_text LongCell = codes "long-cell"
why_text KeyChange = codes "key-change"
why_text TableFull = codes "table-full"
why_text TooManyChanges = codes "too-many-changes"
why_text DuplicateName = codes "duplicate-name"
why_text TooManyColumns = codes "too-many-columns"
why_text NoKey = codes "no-key"
why_text BadDomain = codes "bad-domain"
why_text BadHeader = codes "bad-header"
why_text BadRecord = codes "bad-record"
why_text BadNumber = codes "bad-number"
why_text BadUtf8 = codes "bad-utf8"
why_text BadNull = codes "bad-null"
why_text NullCell = codes "null-cell"

abbrev pub fault_words : Fault → List (List ℕ)
fault_words fault = why_text fault.why ∷ decimal fault.at ∷ []

abbrev pub cause_text : Cause → List ℕ
cause_text cause.Rows = codes "rows"
cause_text cause.Regions = codes "regions"
cause_text cause.Pieces = codes "pieces"
cause_text cause.Absorbed = codes "absorbed"
cause_text cause.Asked = codes "asked"
cause_text cause.Lapsed = codes "lapsed"
cause_text cause.Fresh = codes "fresh"

-- what a cut ended
abbrev pub fail_text : FailKind → List ℕ
fail_text fail.Query = codes "query"
fail_text fail.Write = codes "write"
fail_text fail.Resume = codes "resume"

abbrev pub kind_text : RequestKind → List ℕ
kind_text kind.Hello = codes "hello"
kind_text kind.Resume = codes "resume"
kind_text kind.Ask = codes "ask"
kind_text kind.Write = codes "write"

abbrev pub mode_text : Bool → List ℕ
mode_text true = codes "fresh"
mode_text false = codes "more"

-- whether the server still knew what the client has
abbrev pub kept_text : Bool → List ℕ
kept_text true = codes "kept"
kept_text false = codes "fresh"

abbrev pub name_of : List Table → ℕ → List ℕ
name_of schema t = (table_at schema t).name

abbrev pub attrs_of : List Table → ℕ → ℕ → List ℕ
attrs_of schema t attrs = attrs_text (table_at schema t).columns attrs

abbrev pub rects_of : List Table → ℕ → List Rect → List ℕ
rects_of schema t rects = rects_text (table_at schema t).columns rects

-- the words of a line, without the number of its event
abbrev pub line_words : List Table → TraceLine → List (List ℕ)
line_words schema (line.Answer n q v rows) = codes "answer" ∷ decimal n ∷ decimal q ∷ decimal v ∷ decimal rows ∷ []
line_words schema (line.Row row) = codes "row" ∷ joined (codes ", ") (map cell_text row) ∷ []
line_words schema (line.Held n t attrs rects) =
    codes "held" ∷ decimal n ∷ name_of schema t ∷ attrs_of schema t attrs ∷ rects_of schema t rects ∷ []
line_words schema (line.Drop n why t attrs stamp rects) =
    codes "drop" ∷ decimal n ∷ cause_text why ∷ name_of schema t ∷ attrs_of schema t attrs ∷ decimal stamp ∷ rects_of schema t rects ∷ []
line_words schema (line.Ask n k fresh parts) = codes "ask" ∷ decimal n ∷ decimal k ∷ mode_text fresh ∷ decimal parts ∷ []
line_words schema (line.Part t attrs rects) = codes "part" ∷ name_of schema t ∷ attrs_of schema t attrs ∷ rects_of schema t rects ∷ []
line_words schema (line.Fail n what k) = codes "fail" ∷ decimal n ∷ fail_text what ∷ decimal k ∷ []
line_words schema line.Pieces = codes "pieces" ∷ []
line_words schema (line.Need t attrs) = codes "need" ∷ name_of schema t ∷ attrs_of schema t attrs ∷ []
line_words schema (line.Probe t attrs stamp rects) =
    codes "probe" ∷ name_of schema t ∷ attrs_of schema t attrs ∷ decimal stamp ∷ rects_of schema t rects ∷ []
line_words schema (line.Rest t attrs rects) = codes "rest" ∷ name_of schema t ∷ attrs_of schema t attrs ∷ rects_of schema t rects ∷ []
line_words schema (line.Victim place t attrs stamp rows) =
    codes "victim" ∷ decimal place ∷ name_of schema t ∷ attrs_of schema t attrs ∷ decimal stamp ∷ decimal rows ∷ []
line_words schema (line.ExecVersion v) = codes "exec" ∷ codes "version" ∷ decimal v ∷ []
line_words schema (line.ExecRefused fault) = codes "exec" ∷ codes "refused" ∷ fault_words fault
line_words schema (line.QueryAnswered n q) = codes "query" ∷ decimal n ∷ codes "answered" ∷ decimal q ∷ []
line_words schema (line.QueryAsked n k) = codes "query" ∷ decimal n ∷ codes "asked" ∷ decimal k ∷ []
line_words schema (line.QuerySql n fault) = codes "query" ∷ decimal n ∷ codes "sql" ∷ fault_words fault
line_words schema (line.QueryBusy n k) = codes "query" ∷ decimal n ∷ codes "busy" ∷ decimal k ∷ []
line_words schema (line.QueryDown n x) = codes "query" ∷ decimal n ∷ codes "down" ∷ decimal x ∷ []
line_words schema (line.WriteSent n k) = codes "write" ∷ decimal n ∷ codes "sent" ∷ decimal k ∷ []
line_words schema (line.WriteSql n fault) = codes "write" ∷ decimal n ∷ codes "sql" ∷ fault_words fault
line_words schema (line.WriteBusy n k) = codes "write" ∷ decimal n ∷ codes "busy" ∷ decimal k ∷ []
line_words schema (line.WriteDown n x) = codes "write" ∷ decimal n ∷ codes "down" ∷ decimal x ∷ []
line_words schema (line.PushSent n frames) = codes "push" ∷ decimal n ∷ codes "sent" ∷ decimal frames ∷ []
line_words schema (line.PushClosed n) = codes "push" ∷ decimal n ∷ codes "closed" ∷ []
line_words schema (line.ServerEmpty n) = codes "toserver" ∷ decimal n ∷ codes "empty" ∷ []
line_words schema (line.ServerTook n request frames) = codes "toserver" ∷ decimal n ∷ kind_text request ∷ decimal frames ∷ []
line_words schema (line.ClientEmpty n) = codes "toclient" ∷ decimal n ∷ codes "empty" ∷ []
line_words schema (line.ClientLaid n) = codes "toclient" ∷ decimal n ∷ codes "laid" ∷ []
line_words schema (line.ClientApplied n v) = codes "toclient" ∷ decimal n ∷ codes "applied" ∷ decimal v ∷ []
line_words schema (line.ClientAnswered n) = codes "toclient" ∷ decimal n ∷ codes "answered" ∷ []
line_words schema (line.ClientAsked n k) = codes "toclient" ∷ decimal n ∷ codes "asked" ∷ decimal k ∷ []
line_words schema (line.ClientWritten n k v) = codes "toclient" ∷ decimal n ∷ codes "written" ∷ decimal k ∷ decimal v ∷ []
line_words schema (line.ClientRefused n k fault) =
    codes "toclient" ∷ decimal n ∷ codes "refused" ∷ decimal k ∷ fault_words fault
line_words schema (line.ClientForgot n v) = codes "toclient" ∷ decimal n ∷ codes "forgot" ∷ decimal v ∷ []
line_words schema (line.ClientWelcome n v kept) = codes "toclient" ∷ decimal n ∷ codes "welcome" ∷ decimal v ∷ kept_text kept ∷ []
line_words schema (line.Settled n frames) = codes "settle" ∷ decimal n ∷ decimal frames ∷ []
line_words schema (line.EvictDropped n) = codes "evict" ∷ decimal n ∷ codes "dropped" ∷ []
line_words schema (line.EvictBusy n k) = codes "evict" ∷ decimal n ∷ codes "busy" ∷ decimal k ∷ []
line_words schema (line.EvictNone n count) = codes "evict" ∷ decimal n ∷ codes "none" ∷ decimal count ∷ []
line_words schema (line.Explained n v) = codes "explain" ∷ decimal n ∷ decimal v ∷ []
line_words schema (line.ExplainSql n fault) = codes "explain" ∷ decimal n ∷ codes "sql" ∷ fault_words fault
line_words schema (line.CutDone n x) = codes "cut" ∷ decimal n ∷ decimal x ∷ []
line_words schema (line.CutAlready n x) = codes "cut" ∷ decimal n ∷ codes "already" ∷ decimal x ∷ []
line_words schema (line.ResumeSent n k) = codes "resume" ∷ decimal n ∷ codes "sent" ∷ decimal k ∷ []
line_words schema (line.ResumeUp n) = codes "resume" ∷ decimal n ∷ codes "up" ∷ []

-- words with one blank between two, and the end of the line
abbrev pub ended : List (List ℕ) → List ℕ
ended [] = codes "\n"
ended (w ∷ []) = w ++ codes "\n"
ended (w ∷ u ∷ ws) = w ++ (codes " " ++ ended (u ∷ ws))

-- the text of a line, with the number of its event
unfoldable pub line_text : List Table → ℕ → TraceLine → List ℕ
line_text schema number line = decimal number ++ (codes " " ++ ended (line_words schema line))

-- the text of numbered lines
abbrev pub trace_text : List Table → List (ℕ × TraceLine) → List ℕ
trace_text schema lines = flat_map (λ numbered. line_text schema numbered.0 numbered.1) lines
