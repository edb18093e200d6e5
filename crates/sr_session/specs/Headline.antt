-- The headline: what holds of every client in each scene of each run, and at each event.
use Rattle.std.specs.Prelude.{ℕ, zero, suc, ◌≤◌, ◌↔◌, ◌⊎◌, Bool, true, false, List, [], ◌∷◌, length, slice_get, ◌≡◌, Option, Some, None, Ok, IsTrue}
use Rattle.std.specs.List.{All}
use Rattle.sr_cell.specs.declared.table.Table.{Table}
use Rattle.sr_cell.specs.Attrs.{has_column, includes}
use Rattle.sr_cell.specs.Cells.{Row}
use Rattle.sr_cell.specs.Columns.{is_point, table_at}
use Rattle.sr_box.specs.Points.{Rect, in_any, HasNoPoint}
use Rattle.sr_message.specs.declared.message.AskPart.{AskPart}
use Rattle.sr_message.specs.declared.message.Message.TheVariants.{Ask}
use Rattle.sr_message.specs.Sizes.{most_rects, count_asked}
use Rattle.sr_model.specs.Queries.{Part, Query, points_of, rows_of}
use Rattle.sr_model.specs.Statements.{Tables}
use Rattle.sr_policy.specs.declared.policy.Limits.{Limits}
use Rattle.sr_history.specs.declared.mark.Mark.{Mark}
use Rattle.sr_history.specs.Marks.{with_marks}
use Rattle.sr_history.specs.Rests.{Asks, rest_of}
use Rattle.sr_history.specs.Classes.{Numbered, Class, AreClasses, in_class}
use Rattle.sr_region.specs.Applied.{AreTables}
use Rattle.sr_session.specs.Sessions.{newest, tables_of}
use Rattle.sr_session.specs.Walks.{AskOut}
use Rattle.sr_session.specs.Clients.{Client, Pair}
use Rattle.sr_session.specs.Rules.{Answered, AskSent, Basis, Outcome, next_query, sent_of}
use Rattle.sr_session.specs.Laws.{HasTables}
use Rattle.sr_session.specs.Scenes.{Did, Event, Exec, Happens, QueryOf, Report, Runs, Scene, ToServer, basis_of, client_of, first_scene, pair_at}

-- Some events of any clients, in any order, lead to this scene from one in which nothing has happened: it is a scene of a run.
pub record IsReached (s : Scene) : Type 0 where
  pub limits : Limits
  pub schema : List Table
  pub log_limit : ℕ
  pub tables : Tables
  pub clients : ℕ
  pub events : List Event
  pub reports : List Report
  pub runs : Runs (first_scene limits schema log_limit tables clients) events reports s

-- the client's query of that number; they are numbered from 1
abbrev pub query_at : Client → ℕ → Option Numbered
query_at c zero = None
query_at c (suc n) = slice_get c.queries n

-- The query that an event is about has this number and this meaning: that of a text has the next number, and what the text says; else
-- it is the one of that number, which was asked and not answered.
abbrev pub IsAbout : Event → Client → ℕ → Query → Type 0
IsAbout (QueryOf n text) c number q = (text ≡ Ok q) × (number ≡ next_query c)
IsAbout event c number q = query_at c number ≡ Some (record { query = q; answered = false })

-- ---- answers

-- The answer to the query of that number is the query's rows on the tables of the version that it names, which is the client's version
-- then.
pub record IsRightAnswer (s new : Scene) (event : Event) (number version : ℕ) (rows : List Row) : Type 0 where
  pub old : Pair
  pub after : Pair
  pub old_is : pair_at s (client_of event) ≡ Some old
  pub after_is : pair_at new (client_of event) ≡ Some after
  pub query : Query
  pub about : IsAbout event old.client number query
  pub answered : query_at after.client number ≡ Some (record { query = query; answered = true })
  pub rows_are : rows ≡ rows_of query (tables_of new.database version)
  pub version_is : version ≡ after.client.version

-- Wherever in a run a query is answered, the answer is the query's rows on the tables of the version that it names.
abbrev pub AnswersAreRight : Type 0
AnswersAreRight = (s new : Scene) (event : Event) (number version : ℕ) (rows : List Row) (marks : List Mark)
    → IsReached s → Happens s event (Did (Answered number version rows marks)) new → IsRightAnswer s new event number version rows

-- A query keeps its number and its meaning, whatever happens to any client.
abbrev pub QueriesKeepTheirNumbers : Type 0
QueriesKeepTheirNumbers = (s new : Scene) (event : Event) (report : Report) (n number : ℕ) (old after : Pair) (q : Numbered)
    → IsReached s → Happens s event report new → pair_at s n ≡ Some old → pair_at new n ≡ Some after → query_at old.client number ≡ Some q
    → (done : Bool) × (query_at after.client number ≡ Some (record { query = q.query; answered = done }))

-- ---- versions

-- Wherever in a run something happens, each client's version after it is not below that before, nor above the newest.
abbrev pub VersionsNeverFall : Type 0
VersionsNeverFall = (s new : Scene) (event : Event) (report : Report) (n : ℕ) (old after : Pair)
    → IsReached s → Happens s event report new → pair_at s n ≡ Some old → pair_at new n ≡ Some after
    → (old.client.version ≤ after.client.version) × (after.client.version ≤ newest new.database)

-- So the version that an answer names is not below the client's version before, nor above the newest.
abbrev pub AnswersNeverFall : Type 0
AnswersNeverFall = (s new : Scene) (event : Event) (number version : ℕ) (rows : List Row) (marks : List Mark) (old : Pair)
    → IsReached s → Happens s event (Did (Answered number version rows marks)) new → pair_at s (client_of event) ≡ Some old
    → (old.client.version ≤ version) × (version ≤ newest new.database)

-- ---- asks

-- The ask asks the uncovered points of the query that it is for, by the marks that are left once the drops of the outcome are made, in
-- at most so many rects, and is the only message on its way to the server.
pub record AsksTheUncovered (s new : Scene) (event : Event) (drops : List Mark) (request : ℕ) (fresh : Bool) (parts : List AskPart) : Type 0 where
  pub old : Pair
  pub after : Pair
  pub old_is : pair_at s (client_of event) ≡ Some old
  pub after_is : pair_at new (client_of event) ≡ Some after
  pub number : ℕ
  pub query : Query
  pub about : IsAbout event old.client number query
  pub out : after.client.out ≡ Some (AskOut request number query fresh parts)
  pub marks : after.client.marks ≡ with_marks old.client.marks drops
  pub asks : Asks s.database.schema (with_marks old.client.marks drops) query.parts parts
  pub few : count_asked parts ≤ most_rects
  pub sent : after.connection.to_server ≡ Ask request fresh parts ∷ []

-- Wherever in a run something is asked, just what is not covered is asked.
abbrev pub AnAskAsksTheUncovered : Type 0
AnAskAsksTheUncovered = (s new : Scene) (event : Event) (drops : List Mark) (request : ℕ) (fresh : Bool) (parts : List AskPart)
    → IsReached s → Happens s event (Did (AskSent drops request fresh parts)) new → AsksTheUncovered s new event drops request fresh parts

-- ---- asks, point by point

-- a class of what is held has the point, and all columns that the part needs
abbrev pub HasClassFor : List Mark → List Numbered → Part → Row → Type 0
HasClassFor marks queries part p =
    (k : Class) × (k.table ≡ part.table) × IsTrue (includes k.attrs part.need) × IsTrue (in_class marks queries k p)

-- the point is one of the part's that no held class with all needed columns has
abbrev pub IsUncovered : List Mark → List Numbered → Part → Row → Type 0
IsUncovered marks queries part p = IsTrue (points_of part p) × (HasClassFor marks queries part p → ⊥)

-- these are the rects of some entry of the ask, which is of the part's table and has all columns that the part needs
pub record AreAskedFor (asks : List AskPart) (part : Part) (rects : List Rect) : Type 0 where
  pub place : ℕ
  pub ask : AskPart
  pub there : slice_get asks place ≡ Some ask
  pub table : ask.table ≡ part.table
  pub columns : (c : ℕ) → IsTrue (has_column part.need c) → IsTrue (has_column ask.attrs c)
  pub rects_are : ask.rects ≡ rects

-- For a part some rects are asked, or none; a point of its table is in them just where it is an uncovered one of the part.
pub record IsAskedJust (schema : List Table) (marks : List Mark) (queries : List Numbered) (asks : List AskPart) (part : Part)
    : Type 0 where
  pub rects : List Rect
  pub asked : (rects ≡ []) ⊎ AreAskedFor asks part rects
  pub just : (p : Row) → IsTrue (is_point (table_at schema part.table).columns p) → IsTrue (in_any rects p) ↔ IsUncovered marks queries part p

-- a point that is asked is an uncovered one of some part
pub record IsOfSomePart (marks : List Mark) (queries : List Numbered) (parts : List Part) (ask : AskPart) (p : Row) : Type 0 where
  pub place : ℕ
  pub part : Part
  pub there : slice_get parts place ≡ Some part
  pub table : part.table ≡ ask.table
  pub uncovered : IsUncovered marks queries part p

-- What is asked, point by point: for each part just its uncovered points, and nothing else.
pub record AreAskedByPoints (schema : List Table) (marks : List Mark) (queries : List Numbered) (parts : List Part) (asks : List AskPart) : Type 0 where
  pub each : (place : ℕ) (part : Part) → slice_get parts place ≡ Some part → IsAskedJust schema marks queries asks part
  pub nothing_else : (place : ℕ) (ask : AskPart) (p : Row) → slice_get asks place ≡ Some ask
      → IsTrue (is_point (table_at schema ask.table).columns p) → IsTrue (in_any ask.rects p) → IsOfSomePart marks queries parts ask p

-- An ask of the rest of a query asks a point of a part just where no held class with all needed columns has it.
abbrev pub AsksByPoints : Type 0
AsksByPoints = (schema : List Table) (marks : List Mark) (queries : List Numbered) (parts : List Part) (asks : List AskPart)
    → Asks schema marks parts asks → AreAskedByPoints schema marks queries parts asks

-- ---- covered queries

-- each point of each part of the query is covered
abbrev pub IsCovered : List Table → List Mark → Query → Type 0
IsCovered schema marks q = All (λ part. HasNoPoint (table_at schema part.table).columns (rest_of marks part)) q.parts

-- no message is sent, and both queues are as they were
pub record IsSilent (new : Scene) (n : ℕ) (old : Pair) (o : Outcome) : Type 0 where
  pub sends : sent_of o ≡ []
  pub after : Pair
  pub after_is : pair_at new n ≡ Some after
  pub connection : after.connection ≡ old.connection

-- A query of which each point is covered sends nothing.
abbrev pub ACoveredQuerySendsNothing : Type 0
ACoveredQuerySendsNothing = (s new : Scene) (n : ℕ) (q : Query) (o : Outcome) (old : Pair)
    → Happens s (QueryOf n (Ok q)) (Did o) new → pair_at s n ≡ Some old → IsCovered s.database.schema old.client.marks q
    → IsSilent new n old o

-- Where no request is out, such a query is answered at once, at the client's version.
abbrev pub ACoveredQueryIsAnswered : Type 0
ACoveredQueryIsAnswered = (s new : Scene) (n : ℕ) (q : Query) (o : Outcome) (old : Pair)
    → Happens s (QueryOf n (Ok q)) (Did o) new → pair_at s n ≡ Some old → IsCovered s.database.schema old.client.marks q
    → old.client.out ≡ None
    → (marks : List Mark)
    × (o ≡ Answered (next_query old.client) old.client.version (rows_of q (tables_of s.database old.client.version)) marks)

-- ---- budgets

-- At its version the client keeps no more rows than may be kept, and it holds no more classes.
pub record KeepsToBudgets (b : Basis) (c : Client) : Type 0 where
  pub rows : b.count c.version c.marks ≤ b.limits.rows
  pub classes : List Class
  pub are : AreClasses b.schema c.marks c.queries classes
  pub few : length classes ≤ b.limits.regions

-- In each scene of each run, where the tables are of the schema, no client has more rows or classes than its budgets.
abbrev pub CachesKeepToTheirBudgets : Type 0
CachesKeepToTheirBudgets = (s : Scene) → IsReached s → HasTables s.database → All (λ pair. KeepsToBudgets (basis_of s) pair.client) s.pairs

-- the tables that a statement makes in the event, if it makes any, are of the schema
abbrev pub GivesTables : List Table → Event → Type 0
GivesTables schema (Exec (Ok tables)) = AreTables schema tables
GivesTables schema (ToServer client (Ok tables)) = AreTables schema tables
GivesTables schema event = Unit {0}

-- So are those of all versions, where the first ones are and each statement makes such.
abbrev pub TablesStayOfTheSchema : Type 0
TablesStayOfTheSchema = (limits : Limits) (schema : List Table) (log_limit : ℕ) (tables : Tables) (clients : ℕ) (events : List Event)
    (reports : List Report) (last : Scene) → AreTables schema tables → All (GivesTables schema) events
    → Runs (first_scene limits schema log_limit tables clients) events reports last → HasTables last.database
