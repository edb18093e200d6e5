-- What is true of a client's run over an honest link.
use Rattle.std.specs.Prelude.{◌≡◌, ℕ, List, [], ◌∷◌, ◌++◌}
use Rattle.sr_answers.specs.Texts.{AllSaid}
use Rattle.sr_calls.specs.ClientEnds.{End}
use Rattle.sr_calls.specs.Runs.{new_past}
use Rattle.sr_calls.specs.Started.{AreTrueAt}
use Rattle.sr_cell.specs.declared.table.Table.{Table}
use Rattle.sr_dial.specs.Calls.{Call, all_done}
use Rattle.sr_dial.specs.Following.{Ahead}
use Rattle.sr_dial_laws.specs.Honest.{IsHonest, IsTrue}
use Rattle.sr_dial.specs.declared.ending.Ending.{Ending}
use Rattle.sr_io.specs.Told.{Linking, Writing}
use Rattle.sr_keyset.specs.Laws as keyset
use Rattle.sr_keyset.specs.Lines.{words_in}
use Rattle.sr_links.specs.Honest.{Input, Server, server_at_last}
use Rattle.sr_report.specs.Laws as report
use Rattle.sr_words.specs.declared.command.ClientKind.TheVariants as kind
use Rattle.sr_words.specs.declared.command.ClientWords.{ClientWords}
use Rattle.sr_cli.specs.Client.{Ends}
use Rattle.sr_cli.specs.Image.{Warms, past_of_start}
use Rattle.sr_cli.specs.Kinds.{AsksLines}

-- the calls of a run
abbrev pub calls_of : {Steady : Type 0} {schema script : List ℕ} {words : ClientWords} {ending : Ending} {old new : Linking} {before after : Writing}
    → Ends Steady schema script words ending old new before after → List (Call End)
calls_of {Steady} {schema} {script} {words} {ending} {old} {new} {before} {after} ends = ends.ran.run.ran.run.ran.earlier ++ ends.ran.run.ran.run.ran.last ∷ []

-- Of each kind each step of it is true: an answer has the rows of its query on the server's tables at the version that it names.
abbrev pub RunsAreTrue : {H : Type 0} → (H → Type 0) → Type 0
RunsAreTrue {H} IsSteady = (host : H) (schema script : List ℕ) (words : ClientWords) (ending : Ending) (old new : Linking) (before after : Writing)
    (s : Server) (pieces : List (List Input)) → (ends : Ends (IsSteady host) schema script words ending old new before after)
    → IsHonest ends.tables s pieces (calls_of ends)
    → IsTrue (server_at_last s pieces).database words.limits new_past (calls_of ends) ending

-- Each text that `semi` writes for a join tells the rows of the join that a line of its script asks, on the server's tables at the version
-- that it names.
abbrev pub JoinsAreRight : {H : Type 0} → (H → Type 0) → Type 0
JoinsAreRight {H} IsSteady = (host : H) (schema script : List ℕ) (words : ClientWords) (ending : Ending) (old new : Linking) (before after : Writing)
    (s : Server) (pieces : List (List Input)) → words.kind ≡ kind.Semi
    → (ends : Ends (IsSteady host) schema script words ending old new before after) → IsHonest ends.tables s pieces (calls_of ends)
    → AllSaid (keyset.IsRightText ends.tables (server_at_last s pieces).database (words_in script)) (all_done (calls_of ends))

-- Each text that `report` writes for an aggregate says what it tells of the server's tables at the version that it names, or why it is refused.
abbrev pub GroupsAreRight : {H : Type 0} → (H → Type 0) → Type 0
GroupsAreRight {H} IsSteady = (host : H) (schema script : List ℕ) (words : ClientWords) (ending : Ending) (old new : Linking) (before after : Writing)
    (s : Server) (pieces : List (List Input)) → words.kind ≡ kind.Report
    → (ends : Ends (IsSteady host) schema script words ending old new before after) → IsHonest ends.tables s pieces (calls_of ends)
    → AllSaid (report.IsRightText ends.tables (server_at_last s pieces).database words.id script) (all_done (calls_of ends))

-- So is each step of a run of `warm`, where its image is true of the server before the first frame: its version is one of the server's, and
-- each part has just the rows there that lie in its rects.
abbrev pub WarmRunsAreTrue : {H : Type 0} → (H → Type 0) → Type 0
WarmRunsAreTrue {H} IsSteady =
    (host : H) (schema script : List ℕ) (words : ClientWords) (tables : List Table) (ahead : Ahead) (bytes : List ℕ) (ending : Ending)
    (old new : Linking) (before after : Writing) (s : Server) (pieces : List (List Input))
    → AsksLines words.id schema script tables ahead → (warms : Warms (IsSteady host) words tables ahead bytes ending old new before after)
    → AreTrueAt s.database warms.starts.image.version warms.starts.image.kept
    → IsHonest tables s pieces (warms.ran.to.run.ran.earlier ++ warms.ran.to.run.ran.last ∷ [])
    → IsTrue (server_at_last s pieces).database words.limits (past_of_start warms.starts)
    (warms.ran.to.run.ran.earlier ++ warms.ran.to.run.ran.last ∷ []) ending
