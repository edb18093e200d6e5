-- The worked example as a whole run.
use Rattle.std.proofs.Common.{◌≡◌, ℕ, Bool, true, false, List, [], ◌∷◌, refl, lit≤}
use Rattle.std.specs.Prelude.{IsTrue, Ok, Some, None, codes, map, filter, take, ◌==◌}
use Rattle.sr_cell.specs.Cells.{Row}
use Rattle.sr_box.specs.Points.{AreSame}
use Rattle.sr_message.specs.declared.message.Message.TheVariants.{Ask, Lapse}
use Rattle.sr_model.specs.Changes.{changes}
use Rattle.sr_model.specs.Statements.{Tables}
use Rattle.sr_cell.specs.declared.cause.Cause.TheVariants.{Lapsed}
use Rattle.sr_history.specs.declared.mark.Mark.TheVariants.{Held}
use Rattle.sr_history.specs.Marks.{HoldsNothing}
use Rattle.sr_script.specs.declared.line.RequestKind.TheVariants as kind
use Rattle.sr_script.specs.declared.line.TraceLine.{TraceLine}
use Rattle.sr_script.specs.declared.line.TraceLine.TheVariants as line
use Rattle.sr_session.specs.Sessions.{Session}
use Rattle.sr_session.specs.Clients.{Client, Connection, from_query}
use Rattle.sr_session.specs.Rules.{Holds, answers, as_it_is, asks_once_more, lays, query_asks, renewed, with_ask}
use Rattle.sr_session.specs.Scenes.{Scene, client_took, executed, new_pair, pushed, queried, server_took}
use Rattle.sr_runs.specs.Example.{ages, default_limits, employee, employees, events, lines, query, row, schema, start}
use Rattle.sr_lines.specs.Events.{DoPush, DoQuery}
use Rattle.sr_runs.specs.Scripts.{gives_nothing, is_exec, is_push, is_query, is_to_client, is_to_server}
use Rattle.sr_runs.specs.Runs.{Runs, Settles, Steps, acts, alone, delivers, does, does_settle, ends, goes_on, is_quiet}
use Rattle.sr_runs.proofs.ExampleRests.{ask, first-asks, held_1, lapsed, second-asks, whole-asks}
use Rattle.sr_runs.proofs.ExampleClasses.{absorbs_1, absorbs_2, asked_1, budgets_1, budgets_2, drops_all}

pub nothing_held : HoldsNothing schema []
nothing_held table attrs q h = refl

something_held : HoldsNothing schema held_1 → IsTrue false
something_held none = let k : true ≡ false = none 0 3 (employee 1 35 (codes "ann") 3) refl in absurd (cc)

same-self : (a : Row → Bool) → AreSame employees.columns a a
same-self a q h = refl

pub holds_1 : Holds schema (ask 30 40) (Held 0 3 (ages 30 40))
holds_1 = (refl, refl, refl, same-self _)

holds_2 : Holds schema (ask 35 50) (Held 0 3 (ages 35 50))
holds_2 = (refl, refl, refl, same-self _)

-- ---- the scenes

abbrev pub versions : List Tables
versions =
    ([] ∷ [] ∷ []) ∷ ((employee 1 35 (codes "ann") 3 ∷ employee 2 45 (codes "bob") 3 ∷ []) ∷ [] ∷ [])
    ∷ ((employee 1 35 (codes "ann") 3 ∷ employee 2 45 (codes "bob") 3 ∷ employee 3 33 (codes "cy") 4 ∷ []) ∷ [] ∷ [])
    ∷ ((employee 1 35 (codes "ann") 3 ∷ employee 2 46 (codes "bob") 3 ∷ employee 3 33 (codes "cy") 4 ∷ []) ∷ [] ∷ [])
    ∷ ((employee 1 35 (codes "ann") 3 ∷ employee 2 47 (codes "bob") 3 ∷ employee 3 33 (codes "cy") 4 ∷ []) ∷ [] ∷ [])
    ∷ ((employee 1 35 (codes "ann") 3 ∷ employee 2 48 (codes "bob") 3 ∷ employee 3 33 (codes "cy") 4 ∷ []) ∷ [] ∷ []) ∷ []

-- the first so many versions, and the one client
abbrev pub scene : ℕ → Client → Connection → Scene
scene count c l = record {
  database = record { schema = schema; log_limit = 2; versions = take count versions };
  limits = default_limits;
  pairs = record { client = c; connection = l } ∷ [];
}

abbrev pub new_one : Client
new_one = new_pair.client

abbrev pub asking : Client
asking = with_ask new_one (query 30 40) true (ask 30 40 ∷ [])

abbrev pub first_sent : Connection
first_sent = record { to_server = Ask 1 true (ask 30 40 ∷ []) ∷ []; to_client = []; session = Some (record { wire = 2; subscription = []; upto = 0 }) }

abbrev pub filled : Client
filled = record { marks = held_1; queries = asked_1 ∷ []; counted_from = from_query 0; version = 2; next_request = 2; out = None; laid = []; cut = false; cuts = 0 }

abbrev pub session_2 : Session
session_2 = record { wire = 2; subscription = record { table = 0; attrs = 3; rects = ages 30 40 } ∷ []; upto = 2 }

abbrev pub served : Connection
served = record { to_server = []; to_client = []; session = Some session_2 }

abbrev asking_more : Client
asking_more = with_ask filled (query 35 50) false (ask 41 50 ∷ [])

abbrev second_sent : Connection
second_sent = record { to_server = Ask 2 false (ask 41 50 ∷ []) ∷ []; to_client = []; session = Some session_2 }

abbrev told_lapse : Connection
told_lapse = record { to_server = Ask 2 false (ask 41 50 ∷ []) ∷ []; to_client = Lapse 5 ∷ []; session = Some (record { wire = 2; subscription = []; upto = 5 }) }

abbrev lines_at : ℕ → List TraceLine
lines_at n = map (λ numbered. numbered.1) (filter (λ numbered. numbered.0 == n) lines)

-- ---- the steps

first_query : Steps false (scene 3 new_one new_pair.connection) (DoQuery 1 (Ok (query 30 40))) (lines_at 5) (scene 3 asking first_sent)
first_query =
    alone _ _ _ _ (does _ _ _ (acts _ _ _ _ (is_query 1 (Ok (query 30 40)))
    (queried 1 (Ok (query 30 40)) _ _ _ refl (query_asks (query 30 40) [] new_one (ask 30 40) [] true refl as_it_is refl first-asks (lit≤ tt) (λ h. nothing_held, λ h. refl)))))

first_settle : Settles 1 (scene 3 asking first_sent) 3 (take 7 (lines_at 6)) (scene 3 filled served)
first_settle =
    delivers _ _ _ (line.ServerTook 1 kind.Ask 2 ∷ []) _ 2 _ _ refl refl
    (acts _ _ _ _ (is_to_server 1 _ _ refl (gives_nothing _ refl)) (server_took 1 _ _ _ _ refl refl))
    (delivers _ _ _ (line.ClientLaid 1 ∷ []) _ 1 _ _ refl refl (acts _ _ _ _ (is_to_client 1) (client_took 1 _ _ _ _ _ refl refl (lays _ _ refl tt refl)))
    (delivers _ _ _ (line.Answer 1 1 2 2 ∷ line.Row (row 1 35) ∷ line.Row (row 3 33) ∷ line.Held 1 0 3 (ages 30 40) ∷ line.ClientAnswered 1 ∷ []) _ 0 _ _ refl refl
    (acts _ _ _ _ (is_to_client 1) (client_took 1 _ _ _ _ _ refl refl
    (answers 1 1 (query 30 40) true (ask 30 40 ∷ []) 2 (row 1 35 ∷ row 3 33 ∷ []) (Held 0 3 (ages 30 40) ∷ []) _ refl refl (lit≤ tt) refl
    (renewed (Held 0 3 (ages 30 40) ∷ []) (record { held = Held 0 3 (ages 30 40) ∷ []; absorbed = []; drops = []; holds = (holds_1, tt); absorbs = absorbs_1; budgets = budgets_1 _ (lit≤ tt); all = refl })))))
    (is_quiet _ _ refl refl)))

second_query : Steps false (scene 3 filled served) (DoQuery 1 (Ok (query 35 50))) (lines_at 7) (scene 3 asking_more second_sent)
second_query =
    alone _ _ _ _ (does _ _ _ (acts _ _ _ _ (is_query 1 (Ok (query 35 50)))
    (queried 1 (Ok (query 35 50)) _ _ _ refl (query_asks (query 35 50) [] filled (ask 41 50) [] false refl as_it_is refl second-asks (lit≤ tt) (λ h. absurd (cc), λ h. something_held h)))))

-- the log has dropped version 3, of which the client would have to be told
push : Steps false (scene 6 asking_more second_sent) (DoPush 1) (lines_at 11) (scene 6 asking_more told_lapse)
unfolding changes
push = alone _ _ _ _ (does _ _ _ (acts _ _ _ _ (is_push 1) (pushed 1 _ _ refl refl)))

second_settle : (last : Scene) × Settles 1 (scene 6 asking_more told_lapse) 7 (take 14 (lines_at 12)) last
unfolding changes
second_settle = (
  _,
  delivers _ _ _ (line.ServerTook 1 kind.Ask 2 ∷ []) _ 6 _ _ refl refl
      (acts _ _ _ _ (is_to_server 1 _ _ refl (gives_nothing _ refl)) (server_took 1 _ _ _ _ refl refl))
      (delivers _ _ _ (line.ClientLaid 1 ∷ []) _ 5 _ _ refl refl (acts _ _ _ _ (is_to_client 1) (client_took 1 _ _ _ _ _ refl refl (lays _ _ refl tt tt)))
      (delivers _ _ _ (line.ClientLaid 1 ∷ []) _ 4 _ _ refl refl (acts _ _ _ _ (is_to_client 1) (client_took 1 _ _ _ _ _ refl refl (lays _ _ refl tt refl)))
      (delivers _ _ _ (line.Drop 1 Lapsed 0 3 1 (ages 30 40) ∷ line.Ask 1 3 true 1 ∷ line.Part 0 3 (ages 35 50) ∷ line.ClientAsked 1 3 ∷ []) _ 3 _ _ refl refl
      (acts _ _ _ _ (is_to_client 1) (client_took 1 _ _ _ _ _ refl refl
      (asks_once_more 2 2 (query 35 50) false (ask 41 50 ∷ []) 5 (lapsed ∷ []) (ask 35 50 ∷ []) refl refl (lit≤ tt) drops_all whole-asks (lit≤ tt))))
      (delivers _ _ _ (line.ServerTook 1 kind.Ask 2 ∷ []) _ 2 _ _ refl refl
      (acts _ _ _ _ (is_to_server 1 _ _ refl (gives_nothing _ refl)) (server_took 1 _ _ _ _ refl refl))
      (delivers _ _ _ (line.ClientLaid 1 ∷ []) _ 1 _ _ refl refl (acts _ _ _ _ (is_to_client 1) (client_took 1 _ _ _ _ _ refl refl (lays _ _ refl tt refl)))
      (delivers _ _ _ (line.Answer 1 2 5 2 ∷ line.Row (row 1 35) ∷ line.Row (row 2 48) ∷ line.Held 1 0 3 (ages 35 50) ∷ line.ClientAnswered 1 ∷ []) _ 0 _ _ refl refl
      (acts _ _ _ _ (is_to_client 1) (client_took 1 _ _ _ _ _ refl refl
      (answers 3 2 (query 35 50) true (ask 35 50 ∷ []) 5 (row 1 35 ∷ row 2 48 ∷ []) (Held 0 3 (ages 35 50) ∷ []) _ refl refl (lit≤ tt) refl
      (renewed (Held 0 3 (ages 35 50) ∷ []) (record { held = Held 0 3 (ages 35 50) ∷ []; absorbed = []; drops = []; holds = (holds_2, tt); absorbs = absorbs_2; budgets = budgets_2 _ (lit≤ tt); all = refl })))))
      (is_quiet _ _ refl refl))))))),
)

pub runs : (last : Scene) × Runs false start events lines last
runs = (
  second_settle.0,
  goes_on _ 3 _ (lines_at 3) (scene 2 new_one new_pair.connection) _ _ _ (alone _ _ _ _ (does _ _ _ (acts _ _ _ _ (is_exec _) (executed _))))
      (goes_on _ 4 _ (lines_at 4) (scene 3 new_one new_pair.connection) _ _ _ (alone _ _ _ _ (does _ _ _ (acts _ _ _ _ (is_exec _) (executed _))))
      (goes_on _ 5 _ (lines_at 5) (scene 3 asking first_sent) _ _ _ first_query
      (goes_on _ 6 _ (lines_at 6) (scene 3 filled served) _ _ _ (alone _ _ _ _ (does_settle 1 3 (take 7 (lines_at 6)) _ first_settle))
      (goes_on _ 7 _ (lines_at 7) (scene 3 asking_more second_sent) _ _ _ second_query
      (goes_on _ 8 _ (lines_at 8) (scene 4 asking_more second_sent) _ _ _ (alone _ _ _ _ (does _ _ _ (acts _ _ _ _ (is_exec _) (executed _))))
      (goes_on _ 9 _ (lines_at 9) (scene 5 asking_more second_sent) _ _ _ (alone _ _ _ _ (does _ _ _ (acts _ _ _ _ (is_exec _) (executed _))))
      (goes_on _ 10 _ (lines_at 10) (scene 6 asking_more second_sent) _ _ _ (alone _ _ _ _ (does _ _ _ (acts _ _ _ _ (is_exec _) (executed _))))
      (goes_on _ 11 _ (lines_at 11) (scene 6 asking_more told_lapse) _ _ _ push
      (goes_on _ 12 _ (lines_at 12) _ _ _ _ (alone _ _ _ _ (does_settle 1 7 (take 14 (lines_at 12)) _ second_settle.1)) (ends _)))))))))),
)
