-- What is handed out for a join.
use Rattle.std.proofs.Common.{◌≡◌, ℕ, zero, suc, ◌+◌, ◌<◌, true, List, [], ◌∷◌, Some, None, refl, sym, ap, subst, ◌∙◌, arith}
use Rattle.std.specs.Prelude.{Option, Result, IfOk}
use Rattle.std.specs.Option.{is_some}
use Rattle.std.proofs.lemmas.Bool.{and_parts}
use Rattle.sr_cell.specs.declared.list.NoMemory.{NoMemory}
use Rattle.sr_cell.specs.declared.table.Table.{Table}
use Rattle.sr_cell.specs.Cells.{Row}
use Rattle.sr_dial.specs.Calls.{Task, Say}
use Rattle.sr_dial.specs.Following.{Ahead, ahead_of}
use Rattle.sr_dial.specs.Jobs.{GivesNext, IsJob, number_of}
use Rattle.sr_dial.specs.declared.parts.Answer.{Answer}
use Rattle.sr_keyset.specs.declared.jobs.Going.{Going}
use Rattle.sr_keyset.specs.declared.jobs.Handed.{Handed}
use Rattle.sr_keyset.specs.declared.key_sets.KeySets.{KeySets}
use Rattle.sr_keyset.specs.declared.lines.TextLine.{TextLine}
use Rattle.sr_keyset.specs.Follows.{Follows, FollowsScript, GivesLine, GivesOn, Hands, HandsLine, HandsOn, HandsSay, HandsText, ahead_by, join_of, jobs_of, line_seen, lines_left, lines_plan}
use Rattle.sr_keyset.specs.Lines.{are_own, words_in}
use Rattle.sr_keyset.proofs.Wording.{own-words}
use Rattle.sr_lines.specs.Lines.{lines_of}
use Rattle.sr_keyset.specs.Plans.{AreSaid, Join, Said, behind_text, does, key_set_plan, line_plan, query_plan, runs}
use Rattle.sr_keyset.specs.Told.{semi_text}
use Rattle.sr_plan.specs.Plans.{Plan, Next}
use Rattle.sr_semi.specs.declared.stage.Next as semi
use Rattle.sr_semi.specs.declared.stage.Next.TheVariants.{Run, Joined, Plain}
use Rattle.sr_semi.specs.declared.stage.Stage.{Stage}
use Rattle.sr_semi.specs.declared.stage.Stage.TheVariants.{Left}
use Rattle.sr_semi.specs.declared.stage.Step.{Step}
use Rattle.sr_semi.specs.Going.{step_of}
use Rattle.sr_semi.specs.Laws.{texts_left}
use Rattle.sr_semi.specs.Seen.{sides_in, stage_in}
use Rattle.sr_semi.specs.Sides.{Sides}
use Rattle.sr_semi.proofs.Looking.{ok-weaker}
use Rattle.sr_semi.proofs.Telling.{texts-go-down}
use Rattle.sr_reader.specs.LineSeen.{words_seen}
use Rattle.sr_setup.specs.ClientFiles.{client_fault, doer_of}
use Rattle.sr_setup.specs.Files.{first_fault}

-- a query that is handed out without a join
pub hands-plain : (schema : List Table) (said : Said) (rest plan : Plan Task Answer) (h : Handed) (number : ℕ) (task : Task) → number_of h.job ≡ number → IsJob schema h.job task → h.going ≡ None
    → ((answer : Option Answer) → ahead_of task (λ same. rest) answer ≡ rest) → plan ≡ Next number task (λ answer. rest) → Hands schema said rest plan h
hands-plain schema said rest plan h number task at is none goes plan_is = record {
  task = task;
  further = λ answer. rest;
  is = is;
  plan_is = plan_is ∙ ap (λ n. Next n task (λ answer. rest)) (sym at);
  goes = λ answer. goes answer ∙ ap (λ g. ahead_by schema said g rest answer) (sym none);
}

-- joins of the same parts
same-join : (number other client another : ℕ) (sides these : Sides) (own task : Task) (rest : Plan Task Answer) → number ≡ other → client ≡ another → sides ≡ these → own ≡ task
    → ◌≡◌ {A = Join} (record { number = number; client = client; sides = sides; own = own; rest = rest }) (record { number = other; client = another; sides = these; own = task; rest = rest })
same-join number other client another sides these own task rest e f g h =
    ap (λ (n : ℕ). record { number = n; client = client; sides = sides; own = own; rest = rest }) e
    ∙ (ap (λ (n : ℕ). record { number = other; client = n; sides = sides; own = own; rest = rest }) f
    ∙ (ap (λ (x : Sides). record { number = other; client = another; sides = x; own = own; rest = rest }) g
    ∙ ap (λ (t : Task). record { number = other; client = another; sides = these; own = t; rest = rest }) h))

-- the left text is handed out, and the join is under way
pub hands-left : (schema : List Table) (said : Said) (rest : Plan Task Answer) (h : Handed) (g : Going) (number client : ℕ) (sql : List ℕ) (sides : Option Sides) → sides ≡ Some (sides_in g.semi) → stage_in g.semi ≡ Left
    → g.number ≡ number → g.client ≡ client → g.sql.now ≡ sql → h.going ≡ Some g → number_of h.job ≡ number → IsJob schema h.job (runs schema said (sides_in g.semi).left.text)
    → Hands schema said rest (query_plan schema said number client sql sides rest) h
hands-left schema said rest h g number client sql sides some left number_is client_is sql_is going at is =
    let j : Join = record { number = number; client = client; sides = sides_in g.semi; own = runs schema said sql; rest = rest } in
    let same : join_of schema said g rest ≡ j =
    same-join g.number number g.client client (sides_in g.semi) (sides_in g.semi) (runs schema said g.sql.now) (runs schema said sql) rest number_is client_is refl (ap (runs schema said) sql_is) in
    record {
      task = runs schema said (sides_in g.semi).left.text;
      further = behind_text schema said 2 j Left;
      is = is;
      plan_is = ap (λ o. query_plan schema said number client sql o rest) some ∙ ap (λ n. Next n (runs schema said (sides_in g.semi).left.text) (behind_text schema said 2 j Left)) (sym at);
      goes = λ answer. sym (ap (λ o. ahead_by schema said o rest answer) going ∙ (ap (λ s. behind_text schema said (texts_left s) (join_of schema said g rest) s answer) left ∙ ap (λ x. behind_text schema said 2 x Left answer) same));
    }

-- ---- behind an answer

module _ (schema : List Table) (said : Said) (rest : Plan Task Answer) (g : Going) (a : Answer) where
  abbrev j : Join
  j = join_of schema said g rest

  abbrev next : semi.Next
  next = (step_of (sides_in g.semi) (stage_in g.semi) a.version a.rows).next

  abbrev stage : Stage
  stage = (step_of (sides_in g.semi) (stage_in g.semi) a.version a.rows).stage

  -- what was joined, or the line's own query, comes last
  last : (n : semi.Next) (texts : ℕ) (task : Task) → next ≡ n → ((further : Ahead) → does schema said j n further ≡ Next g.number task (λ answer. rest)) → behind_text schema said texts j (stage_in g.semi) (Some a) ≡ Next g.number task (λ answer. rest)
  last n zero task is ends = ap (λ x. does schema said j x (λ answer. rest)) is ∙ ends (λ answer. rest)
  last n (suc texts) task is ends = ap (λ x. does schema said j x (behind_text schema said texts j stage)) is ∙ ends (behind_text schema said texts j stage)

  pub hands-joined : (h : Handed) (version keys : ℕ) (rows : List Row) (task : Task) → next ≡ Joined version keys rows → does schema said j (Joined version keys rows) (λ answer. rest) ≡ Next g.number task (λ answer. rest)
      → number_of h.job ≡ g.number → IsJob schema h.job task → h.going ≡ None → ((answer : Option Answer) → ahead_of task (λ same. rest) answer ≡ rest) → Hands schema said rest (ahead_by schema said (Some g) rest (Some a)) h
  hands-joined h version keys rows task is ends at job none goes =
      hands-plain schema said rest (ahead_by schema said (Some g) rest (Some a)) h g.number task at job none goes (last (Joined version keys rows) (texts_left (stage_in g.semi)) task is (λ further. ends))

  pub hands-own : (h : Handed) → next ≡ Plain → number_of h.job ≡ g.number → IsJob schema h.job (runs schema said g.sql.now) → h.going ≡ None → Hands schema said rest (ahead_by schema said (Some g) rest (Some a)) h
  hands-own h is at job none =
      hands-plain schema said rest (ahead_by schema said (Some g) rest (Some a)) h g.number (runs schema said g.sql.now) at job none (λ answer. refl) (last Plain (texts_left (stage_in g.semi)) (runs schema said g.sql.now) is (λ further. refl))

  -- another text is handed out, and the join goes on
  runs-on : (texts : ℕ) (text : List ℕ) → next ≡ Run text → texts ≡ texts_left stage + 1 → behind_text schema said texts j (stage_in g.semi) (Some a) ≡ Next g.number (runs schema said text) (behind_text schema said (texts_left stage) j stage)
  runs-on zero text is count = absurd (omega (arith, count))
  runs-on (suc texts) text is count =
      let same : texts ≡ texts_left stage = omega (arith, count) in
      ap (λ x. does schema said j x (behind_text schema said texts j stage)) is ∙ ap (λ n. Next g.number (runs schema said text) (behind_text schema said n j stage)) same

  pub hands-text : (h : Handed) (new : Going) (text : List ℕ) → next ≡ Run text → h.going ≡ Some new → sides_in new.semi ≡ sides_in g.semi → stage_in new.semi ≡ stage → new.number ≡ g.number → new.client ≡ g.client → new.sql.now ≡ g.sql.now
      → number_of h.job ≡ g.number → IsJob schema h.job (runs schema said text) → Hands schema said rest (ahead_by schema said (Some g) rest (Some a)) h
  hands-text h new text is going sides stages number client sql at job =
      let same : join_of schema said new rest ≡ j =
      same-join new.number g.number new.client g.client (sides_in new.semi) (sides_in g.semi) (runs schema said new.sql.now) (runs schema said g.sql.now) rest number client sides (ap (runs schema said) sql) in
      record {
        task = runs schema said text;
        further = behind_text schema said (texts_left stage) j stage;
        is = job;
        plan_is = runs-on (texts_left (stage_in g.semi)) text is (texts-go-down (sides_in g.semi) (stage_in g.semi) a.version a.rows text is)
            ∙ ap (λ n. Next n (runs schema said text) (behind_text schema said (texts_left stage) j stage)) (sym at);
        goes = λ answer. sym (ap (λ o. ahead_by schema said o rest answer) going ∙ (ap (λ s. behind_text schema said (texts_left s) (join_of schema said new rest) s answer) stages ∙ ap (λ x. behind_text schema said (texts_left stage) x stage answer) same));
      }

-- another text is one fewer
fewer : (g : Going) (a : Answer) (new : Going) (text : List ℕ) → (step_of (sides_in g.semi) (stage_in g.semi) a.version a.rows).next ≡ Run text → stage_in new.semi ≡ (step_of (sides_in g.semi) (stage_in g.semi) a.version a.rows).stage
    → jobs_of (Some new) < jobs_of (Some g)
fewer g a new text is stages =
    let down = texts-go-down (sides_in g.semi) (stage_in g.semi) a.version a.rows text is in
    let same : texts_left (stage_in new.semi) ≡ texts_left (step_of (sides_in g.semi) (stage_in g.semi) a.version a.rows).stage = ap texts_left stages in
    omega (arith, down, same)

-- ---- what is left then

pub gives-next : (schema : List Table) (said : Said) (rest plan : Plan Task Answer) (h : Handed) (new : KeySets) → AreSaid said → Hands schema said rest plan h → new.tables ≡ schema → new.going ≡ h.going → are_own (lines_left new) ≡ true
    → rest ≡ lines_plan said new → GivesNext Follows schema h.job plan new
gives-next schema said rest plan h new says hands tables going own left = record {
  task = hands.task;
  further = hands.further;
  is = hands.is;
  plan_is = hands.plan_is;
  follows = record {
    schema_is = tables;
    said = said;
    says = says;
    own = own;
    ahead_is = λ answer. hands.goes answer ∙ (ap (λ g. ahead_by schema said g rest answer) (sym going) ∙ ap (λ p. ahead_by schema said new.going p answer) left);
  };
}

-- ---- what the code hands out, if it does

module _ (schema : List Table) (g : Going) (a : Answer) (r : Result Handed NoMemory) where
  abbrev came : Step
  came = step_of (sides_in g.semi) (stage_in g.semi) a.version a.rows

  pub on-text : (new : Going) (text : List ℕ) → came.next ≡ Run text → new.semi ≡ record g.semi { stage = came.stage } → new.number ≡ g.number → new.client ≡ g.client → new.sql.now ≡ g.sql.now
      → IfOk r (HandsText schema g.number text (Some new)) → IfOk r (HandsOn schema g a)
  on-text new text is semi number client sql ok =
      ok-weaker r (HandsText schema g.number text (Some new)) (HandsOn schema g a)
      (λ h t said rest says. hands-text schema said rest g a h new text is t.going_is (ap sides_in semi) (ap stage_in semi) number client sql t.number_is (t.is said says)) ok

  pub on-plain : came.next ≡ Plain → IfOk r (HandsText schema g.number g.sql.now None) → IfOk r (HandsOn schema g a)
  on-plain is ok =
      ok-weaker r (HandsText schema g.number g.sql.now None) (HandsOn schema g a) (λ h t said rest says. hands-own schema said rest g a h is t.number_is (t.is said says) t.going_is) ok

  pub on-joined : (version keys : ℕ) (rows : List Row) → came.next ≡ Joined version keys rows → IfOk r (HandsSay g.number (semi_text g.number g.client keys version rows)) → IfOk r (HandsOn schema g a)
  on-joined version keys rows is ok =
      ok-weaker r (HandsSay g.number (semi_text g.number g.client keys version rows)) (HandsOn schema g a)
      (λ h t said rest says. hands-joined schema said rest g a h version keys rows (Say (semi_text g.number g.client keys version rows)) is refl t.number_is (t.is schema) t.going_is (λ answer. refl)) ok

  -- fewer jobs are left
  pub fewer-text : (new : Going) (text : List ℕ) → came.next ≡ Run text → new.semi ≡ record g.semi { stage = came.stage } → IfOk r (HandsText schema g.number text (Some new)) → IfOk r (λ h. jobs_of h.going < jobs_of (Some g))
  fewer-text new text is semi ok =
      ok-weaker r (HandsText schema g.number text (Some new)) (λ h. jobs_of h.going < jobs_of (Some g))
      (λ h t. subst (λ (o : Option Going). jobs_of o < jobs_of (Some g)) (sym t.going_is) (fewer g a new text is (ap stage_in semi))) ok

-- ---- what the code is then

pub given-on : (old new : KeySets) (g : Going) (a : Answer) (h : Handed) → HandsOn old.tables g a h → new.tables ≡ old.tables → lines_left new ≡ lines_left old → new.going ≡ h.going → GivesOn old g a (Some h.job) new
given-on old new g a h hands tables lines going said says own =
    let left : lines_plan said old ≡ lines_plan said new = sym (ap (λ (t : List Table). key_set_plan t said (lines_left new)) tables ∙ ap (key_set_plan old.tables said) lines) in
    gives-next old.tables said (lines_plan said old) (ahead_by old.tables said (Some g) (lines_plan said old) (Some a)) h new says (hands said (lines_plan said old) says) tables going (ap are_own lines ∙ own) left

pub given-line : (old new : KeySets) (line : TextLine) (h : Handed) → HandsLine old.tables line h → new.tables ≡ old.tables → lines_left old ≡ line_seen line ∷ lines_left new → new.going ≡ h.going → GivesLine old (Some h.job) new
given-line old new line h hands tables lines going said says own =
    let both : are_own (line_seen line ∷ lines_left new) ≡ true = sym (ap are_own lines) ∙ own in
    let parts = and_parts (is_some (doer_of (line_seen line).1)) (are_own (lines_left new)) both in
    let rest = key_set_plan old.tables said (lines_left new) in
    let left : rest ≡ lines_plan said new = sym (ap (λ (t : List Table). key_set_plan t said (lines_left new)) tables) in
    let plan : line_plan old.tables said line.number (words_seen line.words) rest ≡ lines_plan said old = sym (ap (key_set_plan old.tables said) lines) in
    subst (λ (p : Plan Task Answer). GivesNext Follows old.tables h.job p new) plan
    (gives-next old.tables said rest (line_plan old.tables said line.number (words_seen line.words) rest) h new says (hands said rest says parts.0) tables going parts.1 left)

-- no line is left
pub given-none : (old new : KeySets) → lines_left old ≡ [] → GivesLine old None new
given-none old new none said says own = ap (key_set_plan old.tables said) none

-- before the first line
pub new-follows : (schema : List Table) (script : List ℕ) (id : ℕ) (k : KeySets) → k.tables ≡ schema → lines_left k ≡ words_in script → k.going ≡ None → first_fault (client_fault id) 1 (lines_of script) ≡ None → FollowsScript schema script k
new-follows schema script id k tables lines none inside said says = record {
  schema_is = tables;
  said = said;
  says = says;
  own = ap are_own lines ∙ own-words id 1 (lines_of script) inside;
  ahead_is = λ answer.
      sym (ap (λ (g : Option Going). ahead_by schema said g (lines_plan said k) answer) none
      ∙ (ap (λ (t : List Table). key_set_plan t said (lines_left k)) tables ∙ ap (key_set_plan schema said) lines));
}
