-- What is out behind a step, and which query the answers of a line answer.
use Rattle.std.specs.Prelude.{ℕ, ◌≤◌, List, [], ◌∷◌, ◌≡◌, Some, None}
use Rattle.sr_model.specs.Queries.{Query, rows_of}
use Rattle.sr_session.specs.Sessions.{Database, newest, tables_of}
use Rattle.sr_session.specs.Walks.{AskOut, WriteOut, ResumeOut}
use Rattle.sr_session.specs.Clients.{Client}
use Rattle.sr_session.specs.Rules.{Outcome, Answered, AskSent, WriteSent, ResumeSent, WriteDone, WriteRefused, Welcomed, CutDone}
use Rattle.sr_links.specs.Queried.{query_of}
use Rattle.sr_links.specs.Steps.{Deed, Took, Step}

-- What is sent is out then: an ask is of the query that it asks for. What ends a request leaves none out, and all else what was out.
abbrev pub LeavesOut : Deed → Client → Outcome → Client → Type 0
LeavesOut deed c (AskSent drops request fresh parts) next =
    (number : ℕ) × (q : Query) × (query_of deed c ≡ Some q) × (next.out ≡ Some (AskOut request number q fresh parts))
LeavesOut deed c (WriteSent request sql) next = next.out ≡ Some (WriteOut request)
LeavesOut deed c (ResumeSent message) next = (number : ℕ) × (next.out ≡ Some (ResumeOut number))
LeavesOut deed c (Answered query version rows marks) next = next.out ≡ None
LeavesOut deed c (WriteDone request version drops) next = next.out ≡ None
LeavesOut deed c (WriteRefused request fault drops) next = next.out ≡ None
LeavesOut deed c (Welcomed version kept drops) next = next.out ≡ None
LeavesOut deed c (CutDone cut ended) next = next.out ≡ None
LeavesOut deed c other next = next.out ≡ c.out

-- ---- the answers of a line

-- an answer has the rows of this query on the tables of the version that it names
abbrev pub AnswersQuery : Database → Query → Outcome → Type 0
AnswersQuery db q (Answered number version rows marks) = (version ≤ newest db) × (rows ≡ rows_of q (tables_of db version))
AnswersQuery db q other = Unit {0}

abbrev pub AllAnswer : {C : Type 0} → Database → Query → List (Step C) → Type 0
AllAnswer {C} db q [] = Unit {0}
AllAnswer {C} db q (step ∷ steps) = AnswersQuery db q step.outcome × AllAnswer db q steps

-- a message is taken
abbrev pub IsTaking : Deed → Type 0
IsTaking (Took m) = Unit {0}
IsTaking other = ⊥

abbrev pub AreTakings : {C : Type 0} → List (Step C) → Type 0
AreTakings {C} [] = Unit {0}
AreTakings {C} (step ∷ steps) = IsTaking step.deed × AreTakings steps
