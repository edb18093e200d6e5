-- How many queries are run for a line.
use Rattle.std.proofs.Common.{◌≡◌, ℕ, zero, suc, ◌+◌, ◌<◌, ◌≤◌, ◌*◌, Bool, true, false, List, [], ◌∷◌, ◌++◌, Some, None, refl, sym, subst, arith, if◌then◌else◌}
use Rattle.std.specs.Prelude.{◌==◌, Option, Result, Ok, Err}
use Rattle.std.proofs.lemmas.Bool.{eqb-true}
use Rattle.sr_cell.specs.declared.table.Table.{Table}
use Rattle.sr_cell.specs.Clients.{most_clients}
use Rattle.sr_dial.specs.Calls.{Task, Do, Explain, one_if}
use Rattle.sr_dial.specs.Following.{Ahead}
use Rattle.sr_dial.specs.declared.parts.Answer.{Answer}
use Rattle.sr_keyset.specs.Laws.{FewQueries, is_query_task, queries_of}
use Rattle.sr_keyset.specs.Lines.{words_at, words_from, words_in}
use Rattle.sr_keyset.specs.Plans.{Join, Said, asked_by, behind_text, does, key_set_plan, line_plan, query_plan, runs, sides_if}
use Rattle.sr_lines.specs.Lines.{lines_of}
use Rattle.sr_lines.specs.Script.{Line, Silent, CreateLine, EventLine, Words, ExecSql, QuerySql, WriteSql, ExplainSql, PushTo, ToServer, ToClient, Settle, Evict, Cut, Resume, line_of}
use Rattle.sr_links.specs.Steps.{Wrote, Evicted, WasCut, Resumed}
use Rattle.sr_plan.specs.Laws.{tasks_done}
use Rattle.sr_plan.specs.Plans.{Plan, Over, Next, Did, Began, WentOn, Passed, Stage, GoBy, IsNext, begun, behind, left, stage_of}
use Rattle.sr_semi.specs.declared.stage.Next as semi
use Rattle.sr_semi.specs.declared.stage.Next.TheVariants.{Run, Joined, Plain}
use Rattle.sr_semi.specs.declared.stage.Stage as stages
use Rattle.sr_semi.specs.declared.stage.Stage.TheVariants.{Left}
use Rattle.sr_semi.specs.Going.{step_of}
use Rattle.sr_semi.specs.Sides.{Sides}

-- ---- what is left of a count

-- one, where it is a query of that line
abbrev cost : ℕ → ℕ → Task → ℕ
cost n number task = if number == n then one_if (is_query_task task) else 0

-- whatever the answers are, at most so many queries are run for that line
abbrev Most : ℕ → ℕ → Plan Task Answer → Type 0
Most n k Over = Unit {0}
Most n k (Next number task ahead) = (rest : ℕ) × (cost n number task + rest ≤ k) × ((answer : Option Answer) → Most n rest (ahead answer))

most-next : (n k : ℕ) (plan : Plan Task Answer) (t : ℕ × Task) → Most n k plan → IsNext plan t → (rest : ℕ) × (cost n t.0 t.1 + rest ≤ k) × ((answer : Option Answer) → Most n rest (behind plan answer))
most-next n k Over t most next = absurd next
most-next n k (Next number task ahead) t (rest, few, more) next = (rest, subst (λ (x : ℕ × Task). cost n x.0 x.1 + rest ≤ k) (sym next) few, more)

most-done : (n k : ℕ) (s : Stage Task Answer) (ds : List (Did Task Answer)) → ((answer : Option Answer) → Most n k (s.ahead answer)) → GoBy s ds → queries_of n (tasks_done ds) ≤ k
most-done n k s [] most goes = omega arith
most-done n k s (Began t answer ∷ ds) most (due, goes) =
    let one = most-next n k (left s) t (most s.answer) due in
    let more = most-done n one.0 (stage_of s (Began t answer)) ds one.2 goes in
    let few = one.1 in
    omega (arith, more, few)
most-done n k s (WentOn answer ∷ ds) most (due, goes) = most-done n k (stage_of s (WentOn answer)) ds most goes
most-done n k s (Passed t ∷ ds) most (due, goes) =
    let one = most-next n k (left s) t (most s.answer) due in
    let more = most-done n one.0 (stage_of s (Passed t)) ds (λ answer. one.2 None) goes in
    let few = one.1 in
    omega (arith, more, few)

most-more : (n k m : ℕ) (plan : Plan Task Answer) → k ≤ m → Most n k plan → Most n m plan
most-more n k m Over less most = tt
most-more n k m (Next number task ahead) less (rest, few, more) = (rest, omega (arith, less, few), more)

-- ---- a line

-- so many more: one for the line's last query, and one for each text
abbrev with_texts : ℕ → ℕ → ℕ → ℕ
with_texts zero one k = one + k
with_texts (suc texts) one k = one + with_texts texts one k

at-least : (texts one k : ℕ) → k ≤ with_texts texts one k
at-least zero one k = omega arith
at-least (suc texts) one k = let more = at-least texts one k in omega (arith, more)

module _ (schema : List Table) (said : Said) (n : ℕ) where
  abbrev one_of : ℕ → ℕ
  one_of number = if number == n then 1 else 0

  module _ (j : Join) (k : ℕ) (own : cost n j.number j.own ≤ one_of j.number) (rest : Most n k j.rest) where
    does-most : (next : semi.Next) (further : Ahead) (m : ℕ) → k ≤ m → ((answer : Option Answer) → Most n m (further answer)) → Most n (one_of j.number + m) (does schema said j next further)
    does-most (Run text) further m less more = (m, omega arith, more)
    does-most (Joined version keys rows) further m less more = (k, by (j.number == n), λ answer. rest)
      where
        by : (b : Bool) → (if b then 0 else 0) + k ≤ (if b then 1 else 0) + m
        by true = omega (arith, less)
        by false = omega (arith, less)
    does-most Plain further m less more = (k, omega (arith, own, less), λ answer. rest)

    behind-most : (texts : ℕ) (stage : stages.Stage) (answer : Option Answer) → Most n (with_texts texts (one_of j.number) k) (behind_text schema said texts j stage answer)
    behind-most texts stage None = most-more n k (with_texts texts (one_of j.number) k) j.rest (at-least texts (one_of j.number) k) rest
    behind-most zero stage (Some a) = does-most (step_of j.sides stage a.version a.rows).next (λ answer. j.rest) k (omega arith) (λ answer. rest)
    behind-most (suc texts) stage (Some a) =
        does-most (step_of j.sides stage a.version a.rows).next (behind_text schema said texts j (step_of j.sides stage a.version a.rows).stage) (with_texts texts (one_of j.number) k)
        (at-least texts (one_of j.number) k) (behind-most texts (step_of j.sides stage a.version a.rows).stage)

  -- a task that is done once, whatever comes of it
  once : (number k : ℕ) (task : Task) (rest : Plan Task Answer) → Most n k rest → Most n (4 * one_of number + k) (Next number task (λ answer. rest))
  once number k task rest most = (k, by (number == n) (is_query_task task), λ answer. most)
    where
      by : (b c : Bool) → (if b then one_if c else 0) + k ≤ 4 * (if b then 1 else 0) + k
      by true true = omega arith
      by true false = omega arith
      by false c = omega arith

  query-most : (number client : ℕ) (sql : List ℕ) (sides : Option Sides) (k : ℕ) (rest : Plan Task Answer) → Most n k rest → Most n (4 * one_of number + k) (query_plan schema said number client sql sides rest)
  query-most number client sql None k rest most = once number k (runs schema said sql) rest most
  query-most number client sql (Some sides) k rest most =
      (with_texts 2 (one_of number) k, omega arith, behind-most (record { number = number; client = client; sides = sides; own = runs schema said sql; rest = rest }) k (omega arith) most 2 Left)

  line-most : (number : ℕ) (words : Words) (k : ℕ) (rest : Plan Task Answer) → Most n k rest → Most n (4 * one_of number + k) (line_plan schema said number words rest)
  line-most number (QuerySql client sql) k rest most = query-most number client sql (sides_if schema (said sql)) k rest most
  line-most number (WriteSql client sql) k rest most = once number k (Do (Wrote sql)) rest most
  line-most number (ExplainSql client sql) k rest most = once number k (Explain (asked_by schema (said sql))) rest most
  line-most number (Evict client place) k rest most = once number k (Do (Evicted place)) rest most
  line-most number (Cut client) k rest most = once number k (Do WasCut) rest most
  line-most number (Resume client) k rest most = once number k (Do Resumed) rest most
  line-most number (ExecSql sql) k rest most = most-more n k (4 * one_of number + k) rest (omega arith) most
  line-most number (PushTo client) k rest most = most-more n k (4 * one_of number + k) rest (omega arith) most
  line-most number (ToServer client) k rest most = most-more n k (4 * one_of number + k) rest (omega arith) most
  line-most number (ToClient client) k rest most = most-more n k (4 * one_of number + k) rest (omega arith) most
  line-most number (Settle client) k rest most = most-more n k (4 * one_of number + k) rest (omega arith) most

  -- ---- lines

  -- how many lines have that number
  abbrev times : List (ℕ × Words) → ℕ
  times [] = 0
  times (line ∷ lines) = one_of line.0 + times lines

  lines-most : (lines : List (ℕ × Words)) → Most n (4 * times lines) (key_set_plan schema said lines)
  lines-most [] = tt
  lines-most (line ∷ lines) =
      let one = line-most line.0 line.1 (4 * times lines) (key_set_plan schema said lines) (lines-most lines) in
      most-more n (4 * one_of line.0 + 4 * times lines) (4 * times (line ∷ lines)) (line_plan schema said line.0 line.1 (key_set_plan schema said lines)) (omega arith) one

  times-append : (xs ys : List (ℕ × Words)) → times (xs ++ ys) ≡ times xs + times ys
  times-append [] ys = omega arith
  times-append (x ∷ xs) ys = let more = times-append xs ys in omega (arith, more)

  times-at : (m : ℕ) (r : Result Line ℕ) → times (words_at m r) ≤ one_of m
  times-at m (Ok Silent) = omega arith
  times-at m (Ok (CreateLine sql)) = omega arith
  times-at m (Ok (EventLine words)) = omega arith
  times-at m (Err place) = omega arith

  none-later : (m : ℕ) (lines : List (List ℕ)) → n < m → times (words_from m lines) ≤ 0
  none-later m [] less = omega arith
  none-later m (line ∷ lines) less =
      let here = times-at m (line_of most_clients line) in
      let more = none-later (m + 1) lines (omega (arith, less)) in
      let both = times-append (words_at m (line_of most_clients line)) (words_from (m + 1) lines) in
      let other : one_of m ≤ 0 = by (m == n) refl in
      omega (arith, here, more, both, other)
    where
      by : (b : Bool) → (m == n) ≡ b → (if b then 1 else 0) ≤ 0
      by true is = absurd (let same = eqb-true m n is in omega (arith, same, less))
      by false is = omega arith

  once-from : (m : ℕ) (lines : List (List ℕ)) → times (words_from m lines) ≤ 1
  once-from m [] = omega arith
  once-from m (line ∷ lines) =
      let here = times-at m (line_of most_clients line) in
      let both = times-append (words_at m (line_of most_clients line)) (words_from (m + 1) lines) in
      let rest = by (m == n) refl (once-from (m + 1) lines) in
      omega (arith, here, both, rest)
    where
      by : (b : Bool) → (m == n) ≡ b → times (words_from (m + 1) lines) ≤ 1 → (if b then 1 else 0) + times (words_from (m + 1) lines) ≤ 1
      by true is more = let same = eqb-true m n is in let none = none-later (m + 1) lines (omega (arith, same)) in omega (arith, none)
      by false is more = omega (arith, more)

-- a resume is no query
resumes : (k : ℕ) (first : Bool) → (if first then 0 else 0) + k ≤ k
resumes k true = omega arith
resumes k false = omega arith

pub few-queries : FewQueries
few-queries id schema script tables ahead ds n asks goes =
    let most = lines-most tables asks.said n (words_in script) in
    let few = once-from tables asks.said n 1 (lines_of script) in
    let four : Most n 4 (key_set_plan tables asks.said (words_in script)) = most-more n (4 * times tables asks.said n (words_in script)) 4 (key_set_plan tables asks.said (words_in script)) (omega (arith, few)) most in
    let ahead_four : (answer : Option Answer) → Most n 4 (ahead answer) = λ answer. subst (λ (p : Plan Task Answer). Most n 4 p) (sym (asks.ahead_is answer)) four in
    most-done n 4 (begun (Next 0 (Do Resumed) ahead)) ds (λ answer. (4, resumes 4 (0 == n), ahead_four)) goes
