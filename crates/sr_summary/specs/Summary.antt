-- What a trace comes to, and the summary of a script.
use Rattle.std.specs.Prelude.{◌≡◌, ℕ, ◌++◌, Bool, true, List, [], ◌∷◌, length, count_by, codes, decimal}
use Rattle.std.specs.Str.{bytes_eq}
use Rattle.sr_lines.specs.Lines.{lines_of}
use Rattle.sr_lines.specs.Script.{part_of, behind}
use Rattle.sr_policy.specs.declared.policy.Policy.TheVariants.{Distance}
use Rattle.sr_session.specs.Scenes.{Scene}
use Rattle.sr_session.specs.Sessions.{newest}
use Rattle.sr_world.specs.Replay.{Trace}
use Rattle.sr_world.specs.declared.world.Options.{Options}
use Rattle.sr_summary.specs.declared.summary.Counts.{Counts}

-- ---- lines that are counted

-- the second word of the line is this one
abbrev pub has_second : List ℕ → List ℕ → Bool
has_second word line = bytes_eq (part_of (behind line)) word

-- how many lines have this second word
abbrev pub count_of : List ℕ → List ℕ → ℕ
count_of word text = count_by (has_second word) (lines_of text)

abbrev pub counts_of : List ℕ → Counts
counts_of trace = record {
  lines = length (lines_of trace);
  queries = count_of (codes "query") trace;
  answers = count_of (codes "answer") trace;
  rows = count_of (codes "row") trace;
  asks = count_of (codes "ask") trace;
  drops = count_of (codes "drop") trace;
}

-- ---- the summary

-- a word and its number, in front of further lines
abbrev pub entry : List ℕ → ℕ → List ℕ → List ℕ
entry word number rest = word ++ (codes " " ++ (decimal number ++ ((10 ∷ []) ++ rest)))

abbrev pub last_lines : ℕ → ℕ → ℕ → List ℕ
last_lines asks drops version = entry (codes "asks") asks (entry (codes "drops") drops (entry (codes "version") version []))

-- seven lines
abbrev pub summary_text : Counts → ℕ → List ℕ
summary_text counts version =
    entry (codes "lines") counts.lines
    (entry (codes "queries") counts.queries
    (entry (codes "answers") counts.answers
    (entry (codes "rows") counts.rows
    (last_lines counts.asks counts.drops version))))

-- All is delivered at once to one client, which keeps at most 100 rows and 16 regions, by distance; the log keeps 1,000 changes.
abbrev pub the_options : Options
the_options = record { eager = true; limits = record { rows = 100; regions = 16; policy = Distance }; log = 1000; clients = 1 }

-- a trace of a whole run of the script, and the server's last version
abbrev pub Traces : List ℕ → List ℕ → ℕ → Type 0
Traces script trace version = (last : Scene) × Trace the_options script [] [] trace last × (version ≡ newest last.database)

-- what the summary says of a trace of the script
abbrev pub Summarizes : List ℕ → List ℕ → Type 0
Summarizes script text = (trace : List ℕ) × (version : ℕ) × Traces script trace version × (text ≡ summary_text (counts_of trace) version)
