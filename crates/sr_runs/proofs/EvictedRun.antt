-- The example of an evicted class as a whole run.
use Rattle.std.proofs.Common.{ℕ, true, List, [], ◌∷◌, refl, lit≤}
use Rattle.std.specs.Prelude.{Ok, None, false, map, filter, take, drop, ◌==◌}
use Rattle.sr_message.specs.declared.message.Message.TheVariants.{Ask}
use Rattle.sr_model.specs.Changes.{changes}
use Rattle.sr_history.specs.declared.mark.Mark.TheVariants.{Held}
use Rattle.sr_script.specs.declared.line.RequestKind.TheVariants as kind
use Rattle.sr_script.specs.declared.line.TraceLine.{TraceLine}
use Rattle.sr_script.specs.declared.line.TraceLine.TheVariants as line
use Rattle.sr_session.specs.Clients.{Client, Connection, from_query}
use Rattle.sr_session.specs.Rules.{answers, as_it_is, evicts, evicts_none, lays, query_asks, renewed, with_ask}
use Rattle.sr_session.specs.Scenes.{Scene, client_took, evicted, executed, new_pair, queried, server_took}
use Rattle.sr_runs.specs.Example.{ages, default_limits, query, row, schema}
use Rattle.sr_runs.specs.EvictedClass.{evicting_events, evicting_lines, evicting_start}
use Rattle.sr_lines.specs.Events.{DoEvict, DoQuery}
use Rattle.sr_runs.specs.Scripts.{gives_nothing, is_evict, is_exec, is_query, is_to_client, is_to_server}
use Rattle.sr_runs.specs.Runs.{AllSettle, Runs, Settles, Steps, acts, delivers, does, eagerly, ends, goes_on, is_quiet, no_client, one_more}
use Rattle.sr_runs.proofs.ExampleRests.{ask, first-asks}
use Rattle.sr_runs.proofs.ExampleClasses.{absorbs_1, asked_1, budgets_1, class}
use Rattle.sr_runs.proofs.ExampleRun.{asking, filled, first_sent, holds_1, new_one, nothing_held, served, versions}
use Rattle.sr_runs.proofs.EvictedClasses.{absorbs-again, again-asks, budgets-again, classes, drops, held_nothing, holds_nothing}
use Rattle.sr_runs.proofs.EvictedClasses.{evicted as evicted_mark}

-- the first so many versions, and the one client
abbrev scene : ℕ → Client → Connection → Scene
scene count c l = record {
  database = record { schema = schema; log_limit = 100000; versions = take count versions };
  limits = default_limits;
  pairs = record { client = c; connection = l } ∷ [];
}

abbrev dropped : Client
dropped = record { marks = held_nothing; queries = asked_1 ∷ []; counted_from = from_query 0; version = 2; next_request = 2; out = None; laid = []; cut = false; cuts = 0 }

abbrev asking_again : Client
asking_again = with_ask dropped (query 30 40) true (ask 30 40 ∷ [])

abbrev sent_again : Connection
sent_again = record { to_server = Ask 2 true (ask 30 40 ∷ []) ∷ []; to_client = []; session = served.session }

abbrev lines_at : ℕ → List TraceLine
lines_at n = map (λ numbered. numbered.1) (filter (λ numbered. numbered.0 == n) evicting_lines)

-- nothing is left to deliver
quiet : (count : ℕ) (c : Client) → AllSettle 1 1 (scene count c new_pair.connection) [] (scene count c new_pair.connection)
quiet count c = one_more 1 0 _ 0 [] _ [] _ (is_quiet _ _ refl refl) (no_client _ _)

quiet-served : (c : Client) → AllSettle 1 1 (scene 3 c served) [] (scene 3 c served)
quiet-served c = one_more 1 0 _ 0 [] _ [] _ (is_quiet _ _ refl refl) (no_client _ _)

first_settle : Settles 1 (scene 3 asking first_sent) 3 (drop 3 (lines_at 5)) (scene 3 filled served)
first_settle =
    delivers _ _ _ (line.ServerTook 1 kind.Ask 2 ∷ []) _ 2 _ _ refl refl
    (acts _ _ _ _ (is_to_server 1 _ _ refl (gives_nothing _ refl)) (server_took 1 _ _ _ _ refl refl))
    (delivers _ _ _ (line.ClientLaid 1 ∷ []) _ 1 _ _ refl refl (acts _ _ _ _ (is_to_client 1) (client_took 1 _ _ _ _ _ refl refl (lays _ _ refl tt refl)))
    (delivers _ _ _ (line.Answer 1 1 2 2 ∷ line.Row (row 1 35) ∷ line.Row (row 3 33) ∷ line.Held 1 0 3 (ages 30 40) ∷ line.ClientAnswered 1 ∷ []) _ 0 _ _ refl refl
    (acts _ _ _ _ (is_to_client 1) (client_took 1 _ _ _ _ _ refl refl
    (answers 1 1 (query 30 40) true (ask 30 40 ∷ []) 2 (row 1 35 ∷ row 3 33 ∷ []) (Held 0 3 (ages 30 40) ∷ []) _ refl refl (lit≤ tt) refl
    (renewed (Held 0 3 (ages 30 40) ∷ []) (record { held = Held 0 3 (ages 30 40) ∷ []; absorbed = []; drops = []; holds = (holds_1, tt); absorbs = absorbs_1; budgets = budgets_1 _ (lit≤ tt); all = refl })))))
    (is_quiet _ _ refl refl)))

first_query : Steps true (scene 3 new_one new_pair.connection) (DoQuery 1 (Ok (query 30 40))) (lines_at 5) (scene 3 filled served)
first_query =
    eagerly _ _ (take 3 (lines_at 5)) (scene 3 asking first_sent) (drop 3 (lines_at 5)) _ (does _ _ _ (acts _ _ _ _ (is_query 1 (Ok (query 30 40)))
    (queried 1 (Ok (query 30 40)) _ _ _ refl (query_asks (query 30 40) [] new_one (ask 30 40) [] true refl as_it_is refl first-asks (lit≤ tt) (λ h. nothing_held, λ h. refl)))))
    (one_more 1 0 _ 3 (drop 3 (lines_at 5)) _ [] _ first_settle (no_client _ _))

no_class : Steps true (scene 3 filled served) (DoEvict 1 1) (lines_at 6) (scene 3 filled served)
no_class = eagerly _ _ (lines_at 6) (scene 3 filled served) [] _ (does _ _ _ (acts _ _ _ _ (is_evict 1 1) (evicted 1 1 _ _ _ refl (evicts_none (class 1 ∷ []) refl classes (lit≤ tt))))) (quiet-served filled)

one_class : Steps true (scene 3 filled served) (DoEvict 1 0) (lines_at 7) (scene 3 dropped served)
one_class =
    eagerly _ _ (lines_at 7) (scene 3 dropped served) [] _ (does _ _ _ (acts _ _ _ _ (is_evict 1 0) (evicted 1 0 _ _ _ refl (evicts (class 1 ∷ []) (class 1) evicted_mark refl classes refl drops))))
    (quiet-served dropped)

second_settle : (last : Scene) × Settles 1 (scene 3 asking_again sent_again) 3 (drop 3 (lines_at 8)) last
unfolding changes
second_settle = (
  _,
  delivers _ _ _ (line.ServerTook 1 kind.Ask 2 ∷ []) _ 2 _ _ refl refl
      (acts _ _ _ _ (is_to_server 1 _ _ refl (gives_nothing _ refl)) (server_took 1 _ _ _ _ refl refl))
      (delivers _ _ _ (line.ClientLaid 1 ∷ []) _ 1 _ _ refl refl (acts _ _ _ _ (is_to_client 1) (client_took 1 _ _ _ _ _ refl refl (lays _ _ refl tt refl)))
      (delivers _ _ _ (line.Answer 1 2 2 2 ∷ line.Row (row 1 35) ∷ line.Row (row 3 33) ∷ line.Held 1 0 3 (ages 30 40) ∷ line.ClientAnswered 1 ∷ []) _ 0 _ _ refl refl
      (acts _ _ _ _ (is_to_client 1) (client_took 1 _ _ _ _ _ refl refl
      (answers 2 2 (query 30 40) true (ask 30 40 ∷ []) 2 (row 1 35 ∷ row 3 33 ∷ []) (Held 0 3 (ages 30 40) ∷ []) _ refl refl (lit≤ tt) refl
      (renewed (Held 0 3 (ages 30 40) ∷ []) (record { held = Held 0 3 (ages 30 40) ∷ []; absorbed = []; drops = []; holds = (holds_1, tt); absorbs = absorbs-again; budgets = budgets-again _ (lit≤ tt); all = refl })))))
      (is_quiet _ _ refl refl))),
)

second_query : Steps true (scene 3 dropped served) (DoQuery 1 (Ok (query 30 40))) (lines_at 8) second_settle.0
second_query =
    eagerly _ _ (take 3 (lines_at 8)) (scene 3 asking_again sent_again) (drop 3 (lines_at 8)) _ (does _ _ _ (acts _ _ _ _ (is_query 1 (Ok (query 30 40)))
    (queried 1 (Ok (query 30 40)) _ _ _ refl (query_asks (query 30 40) [] dropped (ask 30 40) [] true refl as_it_is refl again-asks (lit≤ tt) (λ h. holds_nothing, λ h. refl)))))
    (one_more 1 0 _ 3 (drop 3 (lines_at 8)) _ [] _ second_settle.1 (no_client _ _))

pub evicting_runs : (last : Scene) × Runs true evicting_start evicting_events evicting_lines last
evicting_runs = (
  second_settle.0,
  goes_on _ 3 _ (lines_at 3) (scene 2 new_one new_pair.connection) _ _ _ (eagerly _ _ (lines_at 3) (scene 2 new_one new_pair.connection) [] _ (does _ _ _ (acts _ _ _ _ (is_exec _) (executed _))) (quiet 2 new_one))
      (goes_on _ 4 _ (lines_at 4) (scene 3 new_one new_pair.connection) _ _ _ (eagerly _ _ (lines_at 4) (scene 3 new_one new_pair.connection) [] _ (does _ _ _ (acts _ _ _ _ (is_exec _) (executed _))) (quiet 3 new_one))
      (goes_on _ 5 _ (lines_at 5) (scene 3 filled served) _ _ _ first_query
      (goes_on _ 6 _ (lines_at 6) (scene 3 filled served) _ _ _ no_class
      (goes_on _ 7 _ (lines_at 7) (scene 3 dropped served) _ _ _ one_class
      (goes_on _ 8 _ (lines_at 8) _ _ _ _ second_query (ends _)))))),
)
