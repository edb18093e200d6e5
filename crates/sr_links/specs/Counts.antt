-- How many messages a client takes for one request over an honest link.
use Rattle.std.specs.Prelude.{ℕ, true, ◌+◌, ◌≤◌, List, [], ◌∷◌, length, ◌≡◌}
use Rattle.std.specs.List.{list_all}
use Rattle.sr_message.specs.declared.message.Message.{Message}
use Rattle.sr_message.specs.declared.message.Message.TheVariants.{Ask}
use Rattle.sr_model.specs.Queries.{rows_at}
use Rattle.sr_policy.specs.declared.policy.Limits.{Limits}
use Rattle.sr_query.specs.Bound.{is_table}
use Rattle.sr_session.specs.Clients.{Client}
use Rattle.sr_session.specs.Laws.{IsSound}
use Rattle.sr_session.specs.Rules.{sent_of}
use Rattle.sr_session.specs.Sessions.{Database, newest, tables_of}
use Rattle.sr_links.specs.Answers.{AsksKeys}
use Rattle.sr_links.specs.Honest.{Server, Input, Talk, Rests, AreTalks, IsHonest, server_at_last, steps_of}
use Rattle.sr_links.specs.Steps.{Step, Standing, Deed, Took, AreRuled}

-- no table has more rows than that
abbrev pub HasFewRows : Database → Type 0
HasFewRows db = (v : ℕ) → v ≤ newest db → (t : ℕ) → length (rows_at (tables_of db v) t) ≤ 65536

-- an ask has at most four parts
abbrev pub IsShortAsk : Message → Type 0
IsShortAsk (Ask number fresh parts) = length parts ≤ 4
IsShortAsk m = Unit {0}

abbrev pub AreShortAsks : List Message → Type 0
AreShortAsks [] = Unit {0}
AreShortAsks (m ∷ ms) = IsShortAsk m × AreShortAsks ms

-- so has each ask of these steps
abbrev pub AskFew : {C : Type 0} → List (Step C) → Type 0
AskFew {C} [] = Unit {0}
AskFew {C} (step ∷ steps) = AreShortAsks (sent_of step.outcome) × AskFew steps

-- Before a message is taken, so few were laid by that with it they are at most one frame's answer: where the log keeps at most 500,000
-- changes, a notice for each or one Lapse, 256 messages of rows for each of four parts, and one more.
abbrev pub LaysFew : Deed → Client → Type 0
LaysFew (Took m) c = length c.laid + 1 ≤ 501026
LaysFew other c = Unit {0}

abbrev pub LayFew : {C : Type 0} → Client → List (Step C) → Type 0
LayFew {C} c [] = Unit {0}
LayFew {C} c (step ∷ steps) = LaysFew step.deed c × LayFew step.past steps

-- So it is over an honest link, wherever the session is closed, whose server keeps at most 500,000 changes in its log and has tables of at
-- most 65,536 rows, for a client that keeps to its rules over any link, and asks at most four parts at once.
abbrev pub FewAreLaid : {C : Type 0} → Standing C → Type 0
FewAreLaid {C} IsOf = (limits : Limits) (s : Server) (code : C) (c : Client) (talks : List (Talk C)) (pieces : List (List Input)) → AsksKeys IsOf
    → IsSound s.database → list_all is_table s.database.schema ≡ true → IsSound (server_at_last s pieces).database
    → s.database.log_limit ≤ 500000 → HasFewRows (server_at_last s pieces).database → AskFew (steps_of talks)
    → Rests IsOf s.database code c → AreTalks IsOf limits code c talks → AreRuled c (steps_of talks) → IsHonest s pieces talks
    → LayFew c (steps_of talks)
