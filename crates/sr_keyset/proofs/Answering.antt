-- What is written is right, as long as each answer is.
use Rattle.std.proofs.Common.{◌≡◌, ℕ, zero, suc, Bool, true, false, List, [], ◌∷◌, ◌++◌, length, Some, None, refl, sym, ap, subst, ◌∙◌, if◌then◌else◌}
use Rattle.std.specs.Prelude.{◌==◌, ◌≤◌, ◌&&◌, Option, Result, Ok, Err, IfSome}
use Rattle.std.specs.List.{AllByRecursion, Contains}
use Rattle.std.proofs.lemmas.Bool.{and_parts, eqb-true}
use Rattle.std.proofs.lemmas.List.Elements.{All-contains_itself, recursion_from_All}
use Rattle.sr_cell.specs.declared.cell.Cell.{Cell}
use Rattle.sr_cell.specs.declared.fault.Fault.{Fault}
use Rattle.sr_cell.specs.declared.table.Table.{Table}
use Rattle.sr_cell.specs.Cells.{Row}
use Rattle.sr_dial.specs.Calls.{Task, Do}
use Rattle.sr_dial.specs.Following.{Ahead}
use Rattle.sr_dial.specs.declared.parts.Answer.{Answer}
use Rattle.sr_grammar.specs.Says.{Says}
use Rattle.sr_grammar.specs.Trees.{Statement}
use Rattle.sr_answers.specs.Answers.{IsTold}
use Rattle.sr_answers.specs.Texts.{SaysSuch}
use Rattle.sr_keyset.specs.Laws.{IsRightText, WhatIsWrittenIsRight}
use Rattle.sr_keyset.specs.Plans.{AreSaid, Join, Said, asked_by, behind_text, does, key_set_plan, line_plan, query_plan, runs, sides_by, sides_if}
use Rattle.sr_keyset.specs.Told.{semi_text}
use Rattle.sr_lines.specs.Script.{Words, ExecSql, QuerySql, WriteSql, ExplainSql, PushTo, ToServer, ToClient, Settle, Evict, Cut, Resume}
use Rattle.sr_links.specs.Steps.{Queried}
use Rattle.sr_model.specs.Queries.{Query}
use Rattle.sr_model.specs.Statements.{Tables}
use Rattle.sr_plan.specs.Plans.{AllTasksIf, Plan}
use Rattle.sr_query.specs.Binding.{bound_query}
use Rattle.sr_semi.specs.declared.stage.Next as semi
use Rattle.sr_semi.specs.declared.stage.Next.TheVariants.{Run, Joined, Plain}
use Rattle.sr_semi.specs.declared.stage.Stage.{Stage}
use Rattle.sr_semi.specs.declared.stage.Stage.TheVariants.{Left, Right, LeftAgain, Over}
use Rattle.sr_semi.specs.declared.stage.Step.{Step}
use Rattle.sr_semi.specs.Answers.{AllAnswer, Answers, IsAnswer, IsRight, IsSchema, TheyFit, nexts, stage_behind}
use Rattle.sr_semi.specs.Answers as given
use Rattle.sr_semi.specs.Going.{behind_left, ends_with, is_read, joins, step_of}
use Rattle.sr_semi.specs.Keys.{all_have, at_most, most_keys, values_at}
use Rattle.sr_semi.specs.Sides.{Sides, left_place, right_text, sides_of}
use Rattle.sr_semi.proofs.Whole.{joined-is-answer}
use Rattle.sr_session.specs.Sessions.{Database, newest, tables_of}

-- ---- which text a stage named

abbrev Names : Sides → Stage → List ℕ → Type 0
Names s Left text = text ≡ s.left.text
Names s (Right first keys lefts) text = text ≡ right_text s.right keys
Names s (LeftAgain second keys rights) text = text ≡ s.left.text
Names s Over text = ⊥

abbrev NamesNext : Sides → Step → Type 0
NamesNext s step = (text : List ℕ) → step.next ≡ Run text → Names s step.stage text

names-right : (read : Bool) (s : Sides) (version : ℕ) (keys : List Cell) (rows : List Row)
    → NamesNext s (if read then record { next = Run (right_text s.right keys); stage = Right version keys rows } else ends_with Plain)
names-right true s version keys rows text is = cc
names-right false s version keys rows text is = absurd cc

names-left : (s : Sides) (version : ℕ) (rows : List Row) (keys : Option (List Cell)) → NamesNext s (behind_left s version rows keys)
names-left s version rows None text is = absurd cc
names-left s version rows (Some []) text is = absurd cc
names-left s version rows (Some (k ∷ keys)) text is = names-right (is_read (right_text s.right (k ∷ keys))) s version (k ∷ keys) rows text is

names-again : (one : Bool) (s : Sides) (version : ℕ) (keys : List Cell) (lefts rows : List Row)
    → NamesNext s (if one then joins s version keys lefts rows else record { next = Run s.left.text; stage = LeftAgain version keys rows })
names-again true s version keys lefts rows text is = absurd cc
names-again false s version keys lefts rows text is = cc

names-none : (one : Bool) (s : Sides) (version : ℕ) (keys : List Cell) (rights rows : List Row) → NamesNext s (if one then joins s version keys rows rights else ends_with Plain)
names-none true s version keys rights rows text is = absurd cc
names-none false s version keys rights rows text is = absurd cc

names : (s : Sides) (stage : Stage) (version : ℕ) (rows : List Row) → NamesNext s (step_of s stage version rows)
names s Left version rows text is = names-left s version rows (at_most (most_keys s.right.width) (values_at (left_place s) rows)) text is
names s (Right first keys lefts) version rows text is = names-again (version == first) s version keys lefts rows text is
names s (LeftAgain second keys rights) version rows text is = names-none (version == second && all_have (left_place s) keys rows) s version keys rights rows text is
names s Over version rows text is = absurd cc

-- ---- the version of what is joined

-- what is joined is of this version
abbrev IsOfVersion : ℕ → semi.Next → Type 0
IsOfVersion version (Run text) = Unit {0}
IsOfVersion version (Joined named keys rows) = named ≡ version
IsOfVersion version Plain = Unit {0}

of-right : (read : Bool) (s : Sides) (version : ℕ) (keys : List Cell) (rows : List Row)
    → IsOfVersion version (if read then record { next = Run (right_text s.right keys); stage = Right version keys rows } else ends_with Plain).next
of-right true s version keys rows = tt
of-right false s version keys rows = tt

of-left : (s : Sides) (version : ℕ) (rows : List Row) (keys : Option (List Cell)) → IsOfVersion version (behind_left s version rows keys).next
of-left s version rows None = tt
of-left s version rows (Some []) = refl
of-left s version rows (Some (k ∷ keys)) = of-right (is_read (right_text s.right (k ∷ keys))) s version (k ∷ keys) rows

of-joins : (one : Bool) (s : Sides) (version : ℕ) (keys : List Cell) (lefts rights : List Row) (other : Step) → IsOfVersion version other.next
    → IsOfVersion version (if one then joins s version keys lefts rights else other).next
of-joins true s version keys lefts rights other of = refl
of-joins false s version keys lefts rights other of = of

of-version : (s : Sides) (stage : Stage) (version : ℕ) (rows : List Row) → IsOfVersion version (step_of s stage version rows).next
of-version s Left version rows = of-left s version rows (at_most (most_keys s.right.width) (values_at (left_place s) rows))
of-version s (Right first keys lefts) version rows = of-joins (version == first) s version keys lefts rows (record { next = Run s.left.text; stage = LeftAgain version keys rows }) tt
of-version s (LeftAgain second keys rights) version rows = of-joins (version == second && all_have (left_place s) keys rows) s version keys rows rights (ends_with Plain) tt
of-version s Over version rows = tt

-- ---- answers so far

abbrev seen : Answer → given.Answer
seen a = record { version = a.version; rows = a.rows }

-- the stage behind these answers
abbrev stage_by : Sides → Stage → List given.Answer → Stage
stage_by s stage [] = stage
stage_by s stage (a ∷ more) = stage_by s (stage_behind s stage a) more

module _ (schema : List Table) (at : ℕ → Tables) (s : Sides) where
  one-more : (stage : Stage) (front : List given.Answer) (a : given.Answer) → AllAnswer schema at s stage front → Answers schema at s (stage_by s stage front) a → AllAnswer schema at s stage (front ++ a ∷ [])
  one-more stage [] a all answer = (answer, tt)
  one-more stage (b ∷ front) a (first, others) answer = (first, one-more (stage_behind s stage b) front a others answer)

  more-stage : (stage : Stage) (front : List given.Answer) (a : given.Answer) → stage_by s stage (front ++ a ∷ []) ≡ stage_behind s (stage_by s stage front) a
  more-stage stage [] a = refl
  more-stage stage (b ∷ front) a = more-stage (stage_behind s stage b) front a

  last-next : (P : semi.Next → Type 0) (stage : Stage) (front : List given.Answer) (a : given.Answer) → AllByRecursion P (nexts s stage (front ++ a ∷ [])) → P (step_of s (stage_by s stage front) a.version a.rows).next
  last-next P stage [] a all = all.0
  last-next P stage (b ∷ front) a all = last-next P (stage_behind s stage b) front a all.1

-- ---- a line's join

-- what is known of a join, whose line is one of these
record Knows (schema : List Table) (said : Said) (all : List (ℕ × Words)) (j : Join) : Type 0 where
  sql : List ℕ
  s : Statement
  q : Query
  line : Contains all (j.number, QuerySql j.client sql)
  says : Says sql (Ok s)
  said_is : said sql ≡ Ok s
  bound : bound_query schema s ≡ Ok q
  two : length q.parts ≡ 2
  sides : j.sides ≡ sides_of schema s q
  own : j.own ≡ runs schema said sql

module _ (schema : List Table) (said : Said) (db : Database) (all : List (ℕ × Words)) (says : AreSaid said) (sch : IsSchema schema) (fit : (version : ℕ) → TheyFit schema (tables_of db version)) where
  abbrev Right_plan : Plan Task Answer → Type 0
  Right_plan plan = AllTasksIf (IsTold db) (SaysSuch (IsRightText schema db all)) plan

  abbrev at : ℕ → Tables
  at version = tables_of db version

  -- an answer of a text has the rows that the text asks
  is-answer : (text : List ℕ) (a : Answer) → IsTold db (runs schema said text) a → IsAnswer schema (at a.version) text a.rows
  is-answer text a told = go (said text) refl (asked_by schema (said text)) refl told
    where
      go : (r : Result Statement Fault) → said text ≡ r → (b : Result Query Fault) → asked_by schema r ≡ b → IsTold db (Do (Queried b)) a → IsAnswer schema (at a.version) text a.rows
      go (Ok s) is (Ok q) bound told = (s, q, record { says = subst (Says text) is (says text); bound = bound }, told.1)
      go (Ok s) is (Err f) bound rows = absurd rows
      go (Err f) is (Ok q) bound rows = absurd cc
      go (Err f) is (Err g) bound rows = absurd rows

  -- and it is one of the versions
  within : (text : List ℕ) (a : Answer) → IsTold db (runs schema said text) a → a.version ≤ newest db
  within text a told = go (asked_by schema (said text)) told
    where
      go : (b : Result Query Fault) → IsTold db (Do (Queried b)) a → a.version ≤ newest db
      go (Ok q) told = told.0
      go (Err f) told = absurd told

  named-answer : (s : Sides) (stage : Stage) (text : List ℕ) (a : Answer) → Names s stage text → IsTold db (runs schema said text) a → Answers schema at s stage (seen a)
  named-answer s Left text a is told = subst (λ t. IsAnswer schema (at a.version) t a.rows) is (is-answer text a told)
  named-answer s (Right first keys lefts) text a is told = subst (λ t. IsAnswer schema (at a.version) t a.rows) is (is-answer text a told)
  named-answer s (LeftAgain second keys rights) text a is told = subst (λ t. IsAnswer schema (at a.version) t a.rows) is (is-answer text a told)
  named-answer s Over text a is told = tt

  module _ (j : Join) (knows : Knows schema said all j) (rest : Right_plan j.rest) where
    does-right : (next : semi.Next) (further : Ahead) (last : ℕ) → IsRight at knows.q next → IsOfVersion last next → last ≤ newest db → ((text : List ℕ) → next ≡ Run text → (answer : Option Answer) → IfSome answer (IsTold db (runs schema said text)) → Right_plan (further answer)) → Right_plan (does schema said j next further)
    does-right (Run text) further last right of within more = (tt, more text refl)
    does-right (Joined version keys rows) further last right of within more = (
      record {
        number = j.number;
        client = j.client;
        sql = knows.sql;
        query = knows.q;
        keys = keys;
        version = version;
        line = knows.line;
        asks = (knows.s, knows.says, knows.bound);
        within = subst (λ (v : ℕ). v ≤ newest db) (sym of) within;
        text_is = ap (semi_text j.number j.client keys version) right;
      },
      λ answer h. rest,
    )
    does-right Plain further last right of within more = (rw knows.own tt, λ answer h. rest)

    -- what comes of an answer behind these is right
    next-right : (front : List given.Answer) (a : given.Answer) → AllAnswer schema at j.sides Left front → Answers schema at j.sides (stage_by j.sides Left front) a → IsRight at knows.q (step_of j.sides (stage_by j.sides Left front) a.version a.rows).next
    next-right front a answers answer =
        let given_all = subst (λ x. AllAnswer schema at x Left (front ++ a ∷ [])) knows.sides (one-more schema at j.sides Left front a answers answer) in
        let right = joined-is-answer schema at knows.sql knows.s knows.q (front ++ a ∷ []) sch fit (record { says = knows.says; bound = knows.bound }) knows.two given_all in
        last-next schema at j.sides (IsRight at knows.q) Left front a
        (subst (λ x. AllByRecursion (IsRight at knows.q) (nexts x Left (front ++ a ∷ []))) (sym knows.sides) (recursion_from_All (IsRight at knows.q) (nexts (sides_of schema knows.s knows.q) Left (front ++ a ∷ [])) right))

    behind-right : (texts : ℕ) (front : List given.Answer) (text : List ℕ) → AllAnswer schema at j.sides Left front → Names j.sides (stage_by j.sides Left front) text
        → (answer : Option Answer) → IfSome answer (IsTold db (runs schema said text)) → Right_plan (behind_text schema said texts j (stage_by j.sides Left front) answer)
    behind-right texts front text answers named None told = rest
    behind-right zero front text answers named (Some a) told =
        does-right (step_of j.sides (stage_by j.sides Left front) a.version a.rows).next (λ answer. j.rest) a.version (next-right front (seen a) answers (named-answer j.sides (stage_by j.sides Left front) text a named told))
        (of-version j.sides (stage_by j.sides Left front) a.version a.rows) (within text a told) (λ t is answer h. rest)
    behind-right (suc texts) front text answers named (Some a) told =
        let stage = stage_by j.sides Left front in
        let answer_is = named-answer j.sides stage text a named told in
        let behind = more-stage schema at j.sides Left front (seen a) in
        does-right (step_of j.sides stage a.version a.rows).next (behind_text schema said texts j (step_of j.sides stage a.version a.rows).stage) a.version (next-right front (seen a) answers answer_is)
        (of-version j.sides stage a.version a.rows) (within text a told)
        (λ t is answer h. subst (λ x. Right_plan (behind_text schema said texts j x answer)) behind
        (behind-right texts (front ++ seen a ∷ []) t (one-more schema at j.sides Left front (seen a) answers answer_is) (subst (λ x. Names j.sides x t) (sym behind) (names j.sides stage a.version a.rows t is)) answer h))

  -- ---- lines

  abbrev join_by : ℕ → ℕ → List ℕ → Sides → Plan Task Answer → Join
  join_by number client sql sides rest = record { number = number; client = client; sides = sides; own = runs schema said sql; rest = rest }

  query-right : (number client : ℕ) (sql : List ℕ) (sides : Option Sides) (rest : Plan Task Answer) → Contains all (number, QuerySql client sql) → sides_if schema (said sql) ≡ sides → Right_plan rest → Right_plan (query_plan schema said number client sql sides rest)
  query-right number client sql None rest line is more = (tt, λ answer h. more)
  query-right number client sql (Some sides) rest line is more = go (said sql) refl is
    where
      by-two : (s : Statement) (q : Query) (b : Bool) → said sql ≡ Ok s → bound_query schema s ≡ Ok q → (length q.parts == 2 && is_read (sides_of schema s q).left.text) ≡ b → (if b then Some (sides_of schema s q) else None) ≡ Some sides → Right_plan (query_plan schema said number client sql (Some sides) rest)
      by-two s q false said_is bound two same = absurd cc
      by-two s q true said_is bound two same =
          let sides_are : sides ≡ sides_of schema s q = cc in
          let known : Knows schema said all (join_by number client sql sides rest) = record {
            sql = sql;
            s = s;
            q = q;
            line = line;
            says = subst (Says sql) said_is (says sql);
            said_is = said_is;
            bound = bound;
            two = eqb-true (length q.parts) 2 (and_parts (length q.parts == 2) (is_read (sides_of schema s q).left.text) two).0;
            sides = sides_are;
            own = refl;
          } in
          (tt, behind-right (join_by number client sql sides rest) known more 2 [] sides.left.text tt refl)

      by-query : (s : Statement) (b : Result Query Fault) → said sql ≡ Ok s → bound_query schema s ≡ b → sides_by schema s b ≡ Some sides → Right_plan (query_plan schema said number client sql (Some sides) rest)
      by-query s (Ok q) said_is bound same = by-two s q (length q.parts == 2 && is_read (sides_of schema s q).left.text) said_is bound refl same
      by-query s (Err f) said_is bound same = absurd cc

      go : (r : Result Statement Fault) → said sql ≡ r → sides_if schema (said sql) ≡ Some sides → Right_plan (query_plan schema said number client sql (Some sides) rest)
      go (Ok s) said_is same = by-query s (bound_query schema s) said_is refl (sym (ap (sides_if schema) said_is) ∙ same)
      go (Err f) said_is same = absurd (let none : sides_if schema (said sql) ≡ None = ap (sides_if schema) said_is in cc)

  line-right : (number : ℕ) (words : Words) (rest : Plan Task Answer) → Contains all (number, words) → Right_plan rest → Right_plan (line_plan schema said number words rest)
  line-right number (QuerySql client sql) rest line more = query-right number client sql (sides_if schema (said sql)) rest line refl more
  line-right number (WriteSql client sql) rest line more = (tt, λ answer h. more)
  line-right number (ExplainSql client sql) rest line more = (tt, λ answer h. more)
  line-right number (Evict client place) rest line more = (tt, λ answer h. more)
  line-right number (Cut client) rest line more = (tt, λ answer h. more)
  line-right number (Resume client) rest line more = (tt, λ answer h. more)
  line-right number (ExecSql sql) rest line more = more
  line-right number (PushTo client) rest line more = more
  line-right number (ToServer client) rest line more = more
  line-right number (ToClient client) rest line more = more
  line-right number (Settle client) rest line more = more

  lines-right : (lines : List (ℕ × Words)) → AllByRecursion (Contains all) lines → Right_plan (key_set_plan schema said lines)
  lines-right [] within = tt
  lines-right (line ∷ lines) (here, within) = line-right line.0 line.1 (key_set_plan schema said lines) here (lines-right lines within)

pub what-is-written-is-right : WhatIsWrittenIsRight
what-is-written-is-right schema said db lines says sch fit = lines-right schema said db lines says sch fit lines (recursion_from_All (Contains lines) lines (All-contains_itself lines))
