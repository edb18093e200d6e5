-- A worked example: the log drops a version of which a client would have to be told while its ask is on its way, so the whole is asked
-- once more.
use Rattle.std.specs.Prelude.{ℕ, pos, true, false, List, [], ◌∷◌, Some, Ok, codes}
use Rattle.sr_cell.specs.declared.cause.Cause.TheVariants.{Lapsed}
use Rattle.sr_cell.specs.declared.cell.Cell.TheVariants.{Num, Str}
use Rattle.sr_cell.specs.declared.table.Kind.TheVariants.{Num as Numbers, Str as Texts}
use Rattle.sr_cell.specs.declared.table.Table.{Table}
use Rattle.sr_cell.specs.Cells.{Row}
use Rattle.sr_box.specs.declared.span.Span.TheVariants.{Full, Nums}
use Rattle.sr_box.specs.Points.{Rect}
use Rattle.sr_model.specs.Conditions.{Tests, And, none, more, Between, Eq}
use Rattle.sr_model.specs.Queries.{Part, Query}
use Rattle.sr_model.specs.Statements.{Insert, Update}
use Rattle.sr_policy.specs.declared.policy.Limits.{Limits}
use Rattle.sr_policy.specs.declared.policy.Policy.TheVariants.{Recency}
use Rattle.sr_script.specs.declared.line.RequestKind.TheVariants as kind
use Rattle.sr_script.specs.declared.line.TraceLine.{TraceLine}
use Rattle.sr_script.specs.declared.line.TraceLine.TheVariants as line
use Rattle.sr_session.specs.Scenes.{Scene, first_scene}
use Rattle.sr_lines.specs.Events.{DoExec, DoPush, DoQuery, DoSettle, ScriptEvent}

abbrev pub trace : List ℕ
trace = codes "3 exec version 1\n4 exec version 2\n5 ask 1 1 fresh 1\n5 part emp (id,age) {age 30..40}\n5 query 1 asked 1\n6 toserver 1 ask 2\n6 toclient 1 laid\n6 answer 1 1 2 2\n6 row 1, 35\n6 row 3, 33\n6 held 1 emp (id,age) {age 30..40}\n6 toclient 1 answered\n6 settle 1 3\n7 ask 1 2 more 1\n7 part emp (id,age) {age 41..50}\n7 query 1 asked 2\n8 exec version 3\n9 exec version 4\n10 exec version 5\n11 push 1 sent 1\n12 toserver 1 ask 2\n12 toclient 1 laid\n12 toclient 1 laid\n12 drop 1 lapsed emp (id,age) 1 {age 30..40}\n12 ask 1 3 fresh 1\n12 part emp (id,age) {age 35..50}\n12 toclient 1 asked 3\n12 toserver 1 ask 2\n12 toclient 1 laid\n12 answer 1 2 5 2\n12 row 1, 35\n12 row 2, 48\n12 held 1 emp (id,age) {age 35..50}\n12 toclient 1 answered\n12 settle 1 7\n"

-- the tables of employees and of departments
abbrev pub employees : Table
employees = record {
  name = codes "emp";
  columns = record { name = codes "id"; kind = Numbers; lo = pos 0; hi = pos 9999; nullable = false }
      ∷ record { name = codes "age"; kind = Numbers; lo = pos 0; hi = pos 150; nullable = false }
      ∷ record { name = codes "name"; kind = Texts; lo = pos 0; hi = pos 0; nullable = false }
      ∷ record { name = codes "dept"; kind = Numbers; lo = pos 0; hi = pos 99; nullable = false } ∷ [];
  key = 0;
}

abbrev pub departments : Table
departments = record {
  name = codes "dept";
  columns = record { name = codes "no"; kind = Numbers; lo = pos 0; hi = pos 99; nullable = false }
      ∷ record { name = codes "title"; kind = Texts; lo = pos 0; hi = pos 0; nullable = false } ∷ [];
  key = 0;
}

abbrev pub schema : List Table
schema = employees ∷ departments ∷ []

abbrev pub employee : ℕ → ℕ → List ℕ → ℕ → Row
employee id age name dept = Num (pos id) ∷ Num (pos age) ∷ Str name ∷ Num (pos dept) ∷ []

-- what a query gives of an employee
abbrev pub row : ℕ → ℕ → Row
row id age = Num (pos id) ∷ Num (pos age) ∷ []

-- the employees of these ages
abbrev pub part : ℕ → ℕ → Part
part low high = record { table = 0; need = 3; condition = And (more (Tests 1 (Between (Num (pos low)) (Num (pos high)))) none) }

abbrev pub query : ℕ → ℕ → Query
query low high = record { parts = part low high ∷ []; joins = []; outputs = record { part = 0; column = 0 } ∷ record { part = 0; column = 1 } ∷ [] }

abbrev pub ages : ℕ → ℕ → List Rect
ages low high = (Full ∷ Nums (pos low) (pos high) ∷ Full ∷ Full ∷ []) ∷ []

-- the second employee's age is set
abbrev pub aged : ℕ → ScriptEvent
aged age = DoExec (Ok (Update 0 (record { column = 1; value = Num (pos age) } ∷ []) (Some (Tests 0 (Eq (Num (pos 2)))))))

-- an event stands with the number of its line in the script
abbrev pub events : List (ℕ × ScriptEvent)
events =
    (3, DoExec (Ok (Insert 0 (employee 1 35 (codes "ann") 3 ∷ employee 2 45 (codes "bob") 3 ∷ []))))
    ∷ (4, DoExec (Ok (Insert 0 (employee 3 33 (codes "cy") 4 ∷ [])))) ∷ (5, DoQuery 1 (Ok (query 30 40))) ∷ (6, DoSettle 1) ∷ (7, DoQuery 1 (Ok (query 35 50)))
    ∷ (8, aged 46) ∷ (9, aged 47) ∷ (10, aged 48) ∷ (11, DoPush 1) ∷ (12, DoSettle 1) ∷ []

abbrev pub lines : List (ℕ × TraceLine)
lines =
    (3, line.ExecVersion 1) ∷ (4, line.ExecVersion 2)
    ∷ (5, line.Ask 1 1 true 1) ∷ (5, line.Part 0 3 (ages 30 40)) ∷ (5, line.QueryAsked 1 1)
    ∷ (6, line.ServerTook 1 kind.Ask 2) ∷ (6, line.ClientLaid 1) ∷ (6, line.Answer 1 1 2 2) ∷ (6, line.Row (row 1 35)) ∷ (6, line.Row (row 3 33))
    ∷ (6, line.Held 1 0 3 (ages 30 40)) ∷ (6, line.ClientAnswered 1) ∷ (6, line.Settled 1 3)
    ∷ (7, line.Ask 1 2 false 1) ∷ (7, line.Part 0 3 (ages 41 50)) ∷ (7, line.QueryAsked 1 2)
    ∷ (8, line.ExecVersion 3) ∷ (9, line.ExecVersion 4) ∷ (10, line.ExecVersion 5) ∷ (11, line.PushSent 1 1)
    ∷ (12, line.ServerTook 1 kind.Ask 2) ∷ (12, line.ClientLaid 1) ∷ (12, line.ClientLaid 1) ∷ (12, line.Drop 1 Lapsed 0 3 1 (ages 30 40))
    ∷ (12, line.Ask 1 3 true 1) ∷ (12, line.Part 0 3 (ages 35 50)) ∷ (12, line.ClientAsked 1 3)
    ∷ (12, line.ServerTook 1 kind.Ask 2) ∷ (12, line.ClientLaid 1) ∷ (12, line.Answer 1 2 5 2) ∷ (12, line.Row (row 1 35)) ∷ (12, line.Row (row 2 48))
    ∷ (12, line.Held 1 0 3 (ages 35 50)) ∷ (12, line.ClientAnswered 1) ∷ (12, line.Settled 1 7) ∷ []

-- what a client may keep where nothing else is said
abbrev pub default_limits : Limits
default_limits = record { rows = 10000; regions = 64; policy = Recency }

-- one client, no rows yet, and a log of two changes
abbrev pub start : Scene
start = first_scene default_limits schema 2 ([] ∷ [] ∷ []) 1
