-- What is true over an honest link.
use Rattle.std.specs.Prelude.{true, false, ◌≤◌, List, [], ◌∷◌, ◌≡◌, Some, None, Ok}
use Rattle.std.specs.List.{list_all}
use Rattle.sr_cell.specs.declared.table.Table.{Table}
use Rattle.sr_message.specs.Sizes.{most_rects, count_asked}
use Rattle.sr_model.specs.Queries.{Query, rows_of}
use Rattle.sr_model.specs.Statements.{Tables}
use Rattle.sr_policy.specs.declared.policy.Limits.{Limits}
use Rattle.sr_history.specs.Marks.{with_marks}
use Rattle.sr_history.specs.Rests.{Asks}
use Rattle.sr_query.specs.Bound.{is_table}
use Rattle.sr_session.specs.Sessions.{Database, newest, tables_of}
use Rattle.sr_session.specs.Clients.{Client}
use Rattle.sr_session.specs.Laws.{IsSound, OutAsksKeys}
use Rattle.sr_session.specs.Misfits.{misfit}
use Rattle.sr_session.specs.Rules.{Outcome, Answered, AskSent, sent_of}
use Rattle.sr_session.specs.Headline.{IsCovered, KeepsToBudgets}
use Rattle.sr_session.specs.Bases.{basis_of}
pub use Rattle.sr_links.specs.Queried.{query_out, query_of}
use Rattle.sr_links.specs.Outs.{LeavesOut, AreTakings, AllAnswer}
use Rattle.sr_links.specs.Steps.{Step, Standing, Deed, Queried, Took, AreRuled, past_after}
use Rattle.sr_links.specs.Honest.{Server, Input, Talk, Explains, Rests, IsTalk, AreTalks, IsHonest, steps_in, steps_of, server_after, server_at_last, has_cut, AreClosedBehind}

-- An answer has the rows of its query on the tables of the version that it names.
abbrev pub IsTrueAnswer : Database → Deed → Client → Outcome → Type 0
IsTrueAnswer db deed c (Answered number version rows marks) =
    (q : Query) × (query_of deed c ≡ Some q) × (version ≤ newest db) × (rows ≡ rows_of q (tables_of db version))
IsTrueAnswer db deed c other = Unit {0}

-- A message that is taken is none that must be refused.
abbrev pub FitsIf : Database → Client → Deed → Type 0
FitsIf db c (Took m) = misfit db.schema c.out c.laid c.version m ≡ None
FitsIf db c other = Unit {0}

-- An ask asks what is not covered of its query, by the marks that are left once the drops are made, in at most so many rects.
abbrev pub IsTrueAsk : Database → Deed → Client → Outcome → Type 0
IsTrueAsk db deed c (AskSent drops request fresh parts) =
    (q : Query) × (query_of deed c ≡ Some q) × Asks db.schema (with_marks c.marks drops) q.parts parts × (count_asked parts ≤ most_rects)
IsTrueAsk db deed c other = Unit {0}

-- A query of which each point is covered sends nothing.
abbrev pub IsSilentIfCovered : Database → Deed → Client → Outcome → Type 0
IsSilentIfCovered db (Queried (Ok q)) c o = IsCovered db.schema c.marks q → sent_of o ≡ []
IsSilentIfCovered db deed c o = Unit {0}

-- What is true of a step, by the server's versions: a message that it takes is none that must be refused; an answer has the rows of its
-- query; an ask asks just what is not covered, and is out; a covered query sends nothing; and the client then keeps to its budgets.
pub record IsTrueStep {C : Type 0} (db : Database) (limits : Limits) (c : Client) (step : Step C) : Type 0 where
  pub fits : FitsIf db c step.deed
  pub answer : IsTrueAnswer db step.deed c step.outcome
  pub ask : IsTrueAsk db step.deed c step.outcome
  pub out : LeavesOut step.deed c step.outcome step.past
  pub silent : IsSilentIfCovered db step.deed c step.outcome
  pub budgets : KeepsToBudgets (basis_of db limits) step.past

abbrev pub AreTrueSteps : {C : Type 0} → Database → Limits → Client → List (Step C) → Type 0
AreTrueSteps {C} db limits c [] = Unit {0}
AreTrueSteps {C} db limits c (step ∷ steps) = IsTrueStep db limits c step × AreTrueSteps db limits step.past steps

-- Code that has an ask out asks the key of each of its parts.
abbrev pub AsksKeys : {C : Type 0} → Standing C → Type 0
AsksKeys {C} IsOf = (schema : List Table) (code : C) (c : Client) (tables : Tables) → IsOf schema code c tables → OutAsksKeys schema c.out

-- Over an honest link each step of a client that keeps to its budgets is true, over any number of connections and whatever versions came
-- meanwhile: wherever the session is closed, or if it never is, for a client that keeps to its rules over any link.
abbrev pub AnswersAreTrue : {C : Type 0} → Standing C → Type 0
AnswersAreTrue {C} IsOf = (limits : Limits) (s : Server) (code : C) (c : Client) (talks : List (Talk C)) (pieces : List (List Input)) → AsksKeys IsOf
    → IsSound s.database → list_all is_table s.database.schema ≡ true → IsSound (server_at_last s pieces).database
    → Rests IsOf s.database code c → KeepsToBudgets (basis_of s.database limits) c
    → AreTalks IsOf limits code c talks → AreRuled c (steps_of talks) → IsHonest s pieces talks
    → AreTrueSteps (server_at_last s pieces).database limits c (steps_of talks)

-- So it is for any client where no session is open at first, and it is closed behind each connection and nowhere else.
abbrev pub ServedAnswersAreTrue : {C : Type 0} → Standing C → Type 0
ServedAnswersAreTrue {C} IsOf = (limits : Limits) (s : Server) (code : C) (c : Client) (talks : List (Talk C)) (pieces : List (List Input)) → AsksKeys IsOf
    → s.session ≡ None → AreClosedBehind pieces
    → IsSound s.database → list_all is_table s.database.schema ≡ true → IsSound (server_at_last s pieces).database
    → Rests IsOf s.database code c → KeepsToBudgets (basis_of s.database limits) c → AreTalks IsOf limits code c talks → IsHonest s pieces talks
    → AreTrueSteps (server_at_last s pieces).database limits c (steps_of talks)

-- Where the server has no session before, is never cut off, took all requests of a talk, and all came that it sent, no request is out
-- at the end.
abbrev pub WholeTalksEndFree : {C : Type 0} → Standing C → Type 0
WholeTalksEndFree {C} IsOf = (limits : Limits) (s : Server) (code : C) (c : Client) (talk : Talk C) (inputs : List Input) → AsksKeys IsOf
    → s.session ≡ None → has_cut inputs ≡ false → IsSound s.database → list_all is_table s.database.schema ≡ true → IsSound (server_after s inputs).database
    → Rests IsOf s.database code c → IsTalk IsOf limits code c talk → (explains : Explains s inputs (steps_in talk))
    → explains.frames.rest ≡ [] → explains.given.rest ≡ [] → (past_after c (steps_in talk)).out ≡ None

-- Behind each step the client has the rows of its version, which is one of the database.
abbrev pub HaveRows : {C : Type 0} → Standing C → Database → List (Step C) → Type 0
HaveRows {C} IsOf db [] = Unit {0}
HaveRows {C} IsOf db (step ∷ steps) =
    ((step.past.version ≤ newest db) × IsOf db.schema step.code step.past (tables_of db step.past.version)) × HaveRows IsOf db steps

-- Over an honest link that is so behind each step of a client that keeps to its rules over any link: what it says then of what it has is
-- said of the server's versions.
abbrev pub ClientsHaveTheRows : {C : Type 0} → Standing C → Type 0
ClientsHaveTheRows {C} IsOf = (limits : Limits) (s : Server) (code : C) (c : Client) (talks : List (Talk C)) (pieces : List (List Input)) → AsksKeys IsOf
    → IsSound s.database → list_all is_table s.database.schema ≡ true → IsSound (server_at_last s pieces).database → Rests IsOf s.database code c
    → AreTalks IsOf limits code c talks → AreRuled c (steps_of talks) → IsHonest s pieces talks
    → HaveRows IsOf (server_at_last s pieces).database (steps_of talks)

-- So it is for any client where no session is open at first, and it is closed behind each connection and nowhere else.
abbrev pub ServedClientsHaveTheRows : {C : Type 0} → Standing C → Type 0
ServedClientsHaveTheRows {C} IsOf = (limits : Limits) (s : Server) (code : C) (c : Client) (talks : List (Talk C)) (pieces : List (List Input)) → AsksKeys IsOf
    → s.session ≡ None → AreClosedBehind pieces → IsSound s.database → list_all is_table s.database.schema ≡ true → IsSound (server_at_last s pieces).database
    → Rests IsOf s.database code c → AreTalks IsOf limits code c talks → IsHonest s pieces talks
    → HaveRows IsOf (server_at_last s pieces).database (steps_of talks)

-- A line queries while nothing is out, and messages are taken behind it: each answer among these steps is that of the line's query.
abbrev pub LinesAnswerTheirQueries : {C : Type 0} → Standing C → Type 0
LinesAnswerTheirQueries {C} IsOf = (db : Database) (limits : Limits) (c : Client) (q : Query) (first : Step C) (others : List (Step C))
    → c.out ≡ None → first.deed ≡ Queried (Ok q) → AreTakings others → AreTrueSteps db limits c (first ∷ others) → AllAnswer db q (first ∷ others)
