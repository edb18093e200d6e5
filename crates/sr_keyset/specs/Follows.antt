-- Which plan is ahead of the code.
use Rattle.std.specs.Prelude.{ℕ, ◌+◌, ◌*◌, ◌≡◌, true, List, length, map, Option, Some, None}
use Rattle.std.specs.Option.{is_some}
use Rattle.std.specs.Vec.Iter.{into_iter_items}
use Rattle.sr_cell.specs.declared.table.Table.{Table}
use Rattle.sr_dial.specs.Calls.{Task, Say}
use Rattle.sr_dial.specs.Following.{Ahead, ahead_of}
use Rattle.sr_dial.specs.Jobs.{Gives, IsJob, number_of}
use Rattle.sr_dial.specs.declared.parts.Answer.{Answer}
use Rattle.sr_dial.specs.declared.plans.Job.{Job}
use Rattle.sr_keyset.specs.declared.jobs.Going.{Going}
use Rattle.sr_keyset.specs.declared.jobs.Handed.{Handed}
use Rattle.sr_keyset.specs.declared.key_sets.KeySets.{KeySets}
use Rattle.sr_keyset.specs.declared.lines.TextLine.{TextLine}
use Rattle.sr_keyset.specs.Lines.{are_own, words_in}
use Rattle.sr_keyset.specs.Plans.{AreSaid, Join, Said, behind_text, key_set_plan, line_plan, query_plan, runs, sides_if}
use Rattle.sr_lines.specs.Script.{Words}
use Rattle.sr_plan.specs.Plans.{Plan, Next}
use Rattle.sr_reader.specs.LineSeen.{words_seen}
use Rattle.sr_semi.specs.Laws.{texts_left}
use Rattle.sr_semi.specs.Seen.{sides_in, stage_in}
use Rattle.sr_setup.specs.ClientFiles.{doer_of}

-- the words of a line, with its number
abbrev pub line_seen : TextLine → ℕ × Words
line_seen line = (line.number, words_seen line.words)

-- the join that is under way
abbrev pub join_of : List Table → Said → Going → Plan Task Answer → Join
join_of schema said g rest = record { number = g.number; client = g.client; sides = sides_in g.semi; own = runs schema said g.sql.now; rest = rest }

-- what is ahead: behind a text of the join that is under way, what comes of its answer; else the rest
abbrev pub ahead_by : List Table → Said → Option Going → Plan Task Answer → Ahead
ahead_by schema said None rest answer = rest
ahead_by schema said (Some g) rest answer = behind_text schema said (texts_left (stage_in g.semi)) (join_of schema said g rest) (stage_in g.semi) answer

-- The next task of the plan is handed out, and what is ahead of the code then is what follows it.
pub record Hands (schema : List Table) (said : Said) (rest plan : Plan Task Answer) (h : Handed) : Type 0 where
  pub task : Task
  pub further : Ahead
  pub is : IsJob schema h.job task
  pub plan_is : plan ≡ Next (number_of h.job) task further
  pub goes : (answer : Option Answer) → ahead_of task further answer ≡ ahead_by schema said h.going rest answer

-- A text is run as a query of the line of this number, while this join is under way.
pub record HandsText (schema : List Table) (number : ℕ) (text : List ℕ) (going : Option Going) (h : Handed) : Type 0 where
  pub number_is : number_of h.job ≡ number
  pub is : (said : Said) → AreSaid said → IsJob schema h.job (runs schema said text)
  pub going_is : h.going ≡ going

-- A text is written for it, and no join is under way.
pub record HandsSay (number : ℕ) (text : List ℕ) (h : Handed) : Type 0 where
  pub number_is : number_of h.job ≡ number
  pub is : (schema : List Table) → IsJob schema h.job (Say text)
  pub going_is : h.going ≡ None

-- a client does by itself what the line asks
abbrev pub IsOwn : TextLine → Type 0
IsOwn line = is_some (doer_of (words_seen line.words)) ≡ true

-- So it is of a query, whatever comes behind it; of a line; and of an answer to a text of the join that is under way.
abbrev pub HandsQuery : List Table → ℕ → ℕ → List ℕ → Handed → Type 0
HandsQuery schema number client sql h =
    (said : Said) (rest : Plan Task Answer) → AreSaid said
    → Hands schema said rest (query_plan schema said number client sql (sides_if schema (said sql)) rest) h

abbrev pub HandsLine : List Table → TextLine → Handed → Type 0
HandsLine schema line h =
    (said : Said) (rest : Plan Task Answer) → AreSaid said → IsOwn line
    → Hands schema said rest (line_plan schema said line.number (words_seen line.words) rest) h

abbrev pub HandsOn : List Table → Going → Answer → Handed → Type 0
HandsOn schema g a h = (said : Said) (rest : Plan Task Answer) → AreSaid said → Hands schema said rest (ahead_by schema said (Some g) rest (Some a)) h

-- the words that are left, and what they ask
abbrev pub lines_left : KeySets → List (ℕ × Words)
lines_left k = map line_seen (into_iter_items k.lines)

abbrev pub lines_plan : Said → KeySets → Plan Task Answer
lines_plan said k = key_set_plan k.tables said (lines_left k)

-- By what texts say, this is ahead of the code, over tables of this schema.
pub record Follows (schema : List Table) (k : KeySets) (ahead : Ahead) : Type 0 where
  pub schema_is : k.tables ≡ schema
  pub said : Said
  pub says : AreSaid said
  pub own : are_own (lines_left k) ≡ true
  pub ahead_is : (answer : Option Answer) → ahead answer ≡ ahead_by schema said k.going (lines_plan said k) answer

-- ---- jobs

-- What is handed out is the next of the lines; or it comes of an answer to a text of the join that is under way.
abbrev pub GivesLine : KeySets → Option Job → KeySets → Type 0
GivesLine k job new = (said : Said) → AreSaid said → are_own (lines_left k) ≡ true → Gives Follows k.tables job (lines_plan said k) new

abbrev pub GivesOn : KeySets → Going → Answer → Option Job → KeySets → Type 0
GivesOn k g a job new =
    (said : Said) → AreSaid said → are_own (lines_left k) ≡ true → Gives Follows k.tables job (ahead_by k.tables said (Some g) (lines_plan said k) (Some a)) new

-- Ahead is the plan of a script.
abbrev pub FollowsScript : List Table → List ℕ → KeySets → Type 0
FollowsScript schema script k = (said : Said) → AreSaid said → Follows schema k (λ answer. key_set_plan schema said (words_in script))

-- how many jobs may follow for the join that is under way: the texts that may still be named, and one more
abbrev pub jobs_of : Option Going → ℕ
jobs_of None = 0
jobs_of (Some g) = texts_left (stage_in g.semi) + 1

-- how many jobs the lines may come to
abbrev pub jobs_of_lines : KeySets → ℕ
jobs_of_lines k = 4 * length (lines_left k)

-- how many jobs may still be handed out: at most four for each line
abbrev pub jobs_left : KeySets → ℕ
jobs_left k = jobs_of_lines k + jobs_of k.going
