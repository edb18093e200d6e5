-- A worked example with eager delivery: a class is dropped by the user, and then asked again.
use Rattle.std.specs.Prelude.{ℕ, true, List, [], ◌∷◌, ◌++◌, Ok, codes, take}
use Rattle.sr_cell.specs.declared.cause.Cause.TheVariants.{Asked}
use Rattle.sr_script.specs.declared.line.RequestKind.TheVariants as kind
use Rattle.sr_script.specs.declared.line.TraceLine.{TraceLine}
use Rattle.sr_script.specs.declared.line.TraceLine.TheVariants as line
use Rattle.sr_session.specs.Scenes.{Scene, first_scene}
use Rattle.sr_runs.specs.Example.{ages, default_limits, events, query, row, schema}
use Rattle.sr_lines.specs.Events.{DoEvict, DoQuery, ScriptEvent}

abbrev pub evicting_trace : List ℕ
evicting_trace = codes "3 exec version 1\n4 exec version 2\n5 ask 1 1 fresh 1\n5 part emp (id,age) {age 30..40}\n5 query 1 asked 1\n5 toserver 1 ask 2\n5 toclient 1 laid\n5 answer 1 1 2 2\n5 row 1, 35\n5 row 3, 33\n5 held 1 emp (id,age) {age 30..40}\n5 toclient 1 answered\n6 evict 1 none 1\n7 drop 1 asked emp (id,age) 1 {age 30..40}\n7 evict 1 dropped\n8 ask 1 2 fresh 1\n8 part emp (id,age) {age 30..40}\n8 query 1 asked 2\n8 toserver 1 ask 2\n8 toclient 1 laid\n8 answer 1 2 2 2\n8 row 1, 35\n8 row 3, 33\n8 held 1 emp (id,age) {age 30..40}\n8 toclient 1 answered\n"

-- the two statements and the first query of the other example, two evictions, and the query again
abbrev pub evicting_events : List (ℕ × ScriptEvent)
evicting_events = take 3 events ++ ((6, DoEvict 1 1) ∷ (7, DoEvict 1 0) ∷ (8, DoQuery 1 (Ok (query 30 40))) ∷ [])

abbrev pub evicting_lines : List (ℕ × TraceLine)
evicting_lines =
    (3, line.ExecVersion 1) ∷ (4, line.ExecVersion 2)
    ∷ (5, line.Ask 1 1 true 1) ∷ (5, line.Part 0 3 (ages 30 40)) ∷ (5, line.QueryAsked 1 1) ∷ (5, line.ServerTook 1 kind.Ask 2) ∷ (5, line.ClientLaid 1)
    ∷ (5, line.Answer 1 1 2 2) ∷ (5, line.Row (row 1 35)) ∷ (5, line.Row (row 3 33)) ∷ (5, line.Held 1 0 3 (ages 30 40)) ∷ (5, line.ClientAnswered 1)
    ∷ (6, line.EvictNone 1 1) ∷ (7, line.Drop 1 Asked 0 3 1 (ages 30 40)) ∷ (7, line.EvictDropped 1)
    ∷ (8, line.Ask 1 2 true 1) ∷ (8, line.Part 0 3 (ages 30 40)) ∷ (8, line.QueryAsked 1 2) ∷ (8, line.ServerTook 1 kind.Ask 2) ∷ (8, line.ClientLaid 1)
    ∷ (8, line.Answer 1 2 2 2) ∷ (8, line.Row (row 1 35)) ∷ (8, line.Row (row 3 33)) ∷ (8, line.Held 1 0 3 (ages 30 40)) ∷ (8, line.ClientAnswered 1) ∷ []

-- one client, no rows yet, and a log of a hundred thousand changes
abbrev pub evicting_start : Scene
evicting_start = first_scene default_limits schema 100000 ([] ∷ [] ∷ []) 1
