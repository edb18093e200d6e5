-- Steps by the rules are true.
use Rattle.std.proofs.Common.{◌≡◌, ℕ, ◌≤◌, true, List, [], ◌∷◌, refl, sym, ◌∙◌, ap, subst, arith, None, Ok, Err}
use Rattle.std.specs.Prelude.{Result}
use Rattle.std.specs.List.{list_all}
use Rattle.sr_cell.specs.declared.fault.Fault.{Fault}
use Rattle.sr_cell.specs.Cells.{Row}
use Rattle.sr_message.specs.declared.message.AskPart.{AskPart}
use Rattle.sr_message.specs.declared.message.Message.{Message}
use Rattle.sr_model.specs.Queries.{Part, Query, rows_of}
use Rattle.sr_policy.specs.declared.policy.Limits.{Limits}
use Rattle.sr_history.specs.declared.mark.Mark.{Mark}
use Rattle.sr_history.specs.Marks.{with_marks}
use Rattle.sr_history.specs.Rests.{Asks}
use Rattle.sr_query.specs.Bound.{is_table}
use Rattle.sr_session.specs.Clients.{Client}
use Rattle.sr_session.specs.Headline.{IsCovered, KeepsToBudgets}
use Rattle.sr_session.specs.Laws.{IsSound}
use Rattle.sr_session.specs.Misfits.{misfit}
use Rattle.sr_session.specs.Rules.{Basis, Outcome, Answering, AnswerStep, renewed, given_up, answering_now, answering_then, Before, as_it_is, emptied, QueryStep, query_refused, query_busy, query_answered, query_down, query_asks, TakeStep, lays, applies, forgets, answers, asks_once_more, written, refused_write, is_welcomed, EvictStep, evict_busy, evicts_none, evicts, WriteStep, write_busy, write_down, write_sends, already_cut, cuts, already_up, resumes}
use Rattle.sr_session.specs.Sessions.{Database, newest, tables_of}
use Rattle.sr_session.specs.Bases.{basis_of}
use Rattle.sr_session.proofs.PointLemmas.{query-silent}
use Rattle.sr_links.specs.Answers.{query_out, IsTrueAnswer, IsTrueAsk, IsSilentIfCovered, FitsIf, AreTrueSteps, AnswersAreTrue, ServedAnswersAreTrue, WholeTalksEndFree}
use Rattle.sr_links.specs.Counts.{FewAreLaid}
use Rattle.sr_links.specs.Honest.{Server, Input, Rests, server_at_last, steps_of}
use Rattle.sr_links.specs.Steps.{Deed, Queried, Wrote, Evicted, Took, WasCut, Resumed, too_long, writes, Does, Standing, Step}
use Rattle.sr_links.proofs.BudgetLemmas.{keeps-later, keeps-on}
use Rattle.sr_links.proofs.DatabaseLemmas.{Grows, More, after-more, last-more}
use Rattle.sr_links.proofs.MendLemmas.{runs, closed-runs, nearly-ruled}
use Rattle.sr_links.proofs.OutLemmas.{does-out}
use Rattle.sr_links.proofs.TalkLemmas.{AreLawful, one-connection}

-- an answer leaves the client at its version
pub answered-at : (b : Basis) (a : Answering) (c : Client) (marks : List Mark) (new : Client) → AnswerStep b a c marks new → new.version ≡ a.version
answered-at b a c marks new (renewed ms renews) = refl
answered-at b a c marks new (given_up ms gives) = refl

-- a step on the versions up to some moment, by those of all
module _ (limits : Limits) (db all : Database) (grows : Grows db all) where
  abbrev Holds : Deed → Client → Outcome → Type 0
  Holds deed c o = IsTrueAnswer all deed c o × IsTrueAsk all deed c o

  -- the rows of all versions, and the rests by their schema
  rows-of-all : (q : Query) (version : ℕ) (rows : List Row) → version ≤ newest db → rows ≡ rows_of q (tables_of db version) → (version ≤ newest all) × (rows ≡ rows_of q (tables_of all version))
  rows-of-all q version rows within are = let more = grows.more in (omega (arith, within, more), are ∙ ap (rows_of q) (sym (grows.same version within)))

  asks-of-all : (marks : List Mark) (parts : List Part) (asks : List AskPart) → Asks db.schema marks parts asks → Asks all.schema marks parts asks
  asks-of-all marks parts asks h = subst (λ schema. Asks schema marks parts asks) (sym grows.schema) h

  answer-within : (a : Answering) (c : Client) (marks : List Mark) (new : Client) → new.version ≤ newest db → AnswerStep (basis_of db limits) a c marks new → a.version ≤ newest db
  answer-within a c marks new within step = let at = answered-at (basis_of db limits) a c marks new step in omega (arith, within, at)

  before-marks : (q : Query) (c : Client) (drops : List Mark) (old : Client) → Before (basis_of db limits) q c drops old → old.marks ≡ with_marks c.marks drops
  before-marks q c drops old as_it_is = refl
  before-marks q c drops old (emptied ds first) = refl

  query-true : (c : Client) (text : Result Query Fault) (o : Outcome) (new : Client) → new.version ≤ newest db → QueryStep (basis_of db limits) c text o new → Holds (Queried text) c o
  query-true c text o new within (query_refused fault) = (tt, tt)
  query-true c text o new within (query_busy q request out) = (tt, tt)
  query-true c text o new within (query_answered q rows marks after out asks are step) =
      let (below, right) = rows-of-all q c.version rows (answer-within (answering_now c q) c marks after within step) are in ((q, refl, below, right), tt)
  query-true c text o new within (query_down q out down left) = (tt, tt)
  query-true c text o new within (query_asks q drops old ask others fresh out before up asks few mode) =
      (tt, (q, refl, asks-of-all (with_marks c.marks drops) q.parts (ask ∷ others) (subst (λ marks. Asks db.schema marks q.parts (ask ∷ others)) (before-marks q c drops old before) asks), few))

  take-true : (c : Client) (m : Message) (o : Outcome) (new : Client) → new.version ≤ newest db → TakeStep (basis_of db limits) c m o new → Holds (Took m) c o
  take-true c m o new within (lays request x out laid for) = (tt, tt)
  take-true c m o new within (applies version told drops out later meets) = (tt, tt)
  take-true c m o new within (forgets version drops out later all) = (tt, tt)
  take-true c m o new within (answers number query q fresh parts version rows marks after out whole later are step) =
      let (below, right) = rows-of-all q version rows (answer-within (answering_then c query q parts version) c marks after within step) are in ((q, ap query_out out, below, right), tt)
  take-true c m o new within (asks_once_more number query q fresh parts version drops whole out again later all asks few) =
      (tt, (q, ap query_out out, asks-of-all (with_marks c.marks drops) q.parts whole asks, few))
  take-true c m o new within (written number version drops out later all) = (tt, tt)
  take-true c m o new within (refused_write number fault drops out later all) = (tt, tt)
  take-true c m o new within (is_welcomed number version kept drops out later all) = (tt, tt)

  evict-true : (place : ℕ) (c : Client) (o : Outcome) (new : Client) → EvictStep (basis_of db limits) place c o new → Holds (Evicted place) c o
  evict-true place c o new (evict_busy request out) = (tt, tt)
  evict-true place c o new (evicts_none classes out are few) = (tt, tt)
  evict-true place c o new (evicts classes chosen d out are at drop) = (tt, tt)

  write-true : (sql : List ℕ) (c : Client) (o : Outcome) (new : Client) → WriteStep sql c o new → Holds (Wrote sql) c o
  write-true sql c o new (write_busy request out) = (tt, tt)
  write-true sql c o new (write_down out down) = (tt, tt)
  write-true sql c o new (write_sends out up) = (tt, tt)

  does-true : (deed : Deed) (c : Client) (o : Outcome) (new : Client) → new.version ≤ newest db → Does (basis_of db limits) deed c o new → Holds deed c o
  does-true (Queried text) c o new within does = query-true c text o new within does
  does-true (Wrote sql) c o new within (too_long is) = (tt, tt)
  does-true (Wrote sql) c o new within (writes did after short does) = write-true sql c o new does
  does-true (Evicted place) c o new within does = evict-true place c o new does
  does-true (Took m) c o new within does = take-true c m o new within does
  does-true WasCut c o new within (already_cut is) = (tt, tt)
  does-true WasCut c o new within (cuts up) = (tt, tt)
  does-true Resumed c o new within (already_up up) = (tt, tt)
  does-true Resumed c o new within (resumes m down is) = (tt, tt)

  -- a covered query sends nothing
  silent-so : (deed : Deed) (c : Client) (o : Outcome) (new : Client) → Does (basis_of db limits) deed c o new → IsSilentIfCovered all deed c o
  silent-so (Queried (Ok q)) c o new does = λ is_covered_all.
      query-silent (basis_of db limits) q c (subst (λ schema. IsCovered schema c.marks q) grows.schema is_covered_all) (Ok q) o new refl does
  silent-so (Queried (Err fault)) c o new does = tt
  silent-so (Wrote sql) c o new does = tt
  silent-so (Evicted place) c o new does = tt
  silent-so (Took m) c o new does = tt
  silent-so WasCut c o new does = tt
  silent-so Resumed c o new does = tt

  later-fits : (deed : Deed) (c : Client) → FitsIf db c deed → FitsIf all c deed
  later-fits (Took m) c fits = subst (λ schema. misfit schema c.out c.laid c.version m ≡ None) (sym grows.schema) fits
  later-fits (Queried text) c fits = tt
  later-fits (Wrote sql) c fits = tt
  later-fits (Evicted place) c fits = tt
  later-fits WasCut c fits = tt
  later-fits Resumed c fits = tt

-- ---- all steps

all-true : {C : Type 0} (limits : Limits) (all : Database) (c : Client) (steps : List (Step C)) → KeepsToBudgets (basis_of all limits) c → AreLawful limits all c steps → AreTrueSteps all limits c steps
all-true {C} limits all c [] keeps lawful = tt
all-true {C} limits all c (step ∷ steps) keeps (one, others) =
    let (answer, ask) = does-true limits one.db all one.grows step.deed c step.outcome step.past one.within one.does in
    let budgets = keeps-on limits one.db all one.grows one.sound.tables step.deed c step.outcome step.past one.before one.within keeps one.does in (
      record {
        fits = later-fits limits one.db all one.grows step.deed c one.fits;
        answer = answer;
        ask = ask;
        out = does-out (basis_of one.db limits) step.deed c step.outcome step.past one.does;
        silent = silent-so limits one.db all one.grows step.deed c step.outcome step.past one.does;
        budgets = budgets;
      },
      all-true limits all step.past steps budgets others,
    )

module _ {C : Type 0} (IsOf : Standing C) (limits : Limits) (s : Server) (code : C) (c : Client) (pieces : List (List Input)) (sound : IsSound s.database) (rest : Rests IsOf s.database code c) where
  more : More s.database (server_at_last s pieces).database
  more = last-more s pieces sound.some

  tables-at-last : list_all is_table s.database.schema ≡ true → list_all is_table (server_at_last s pieces).database.schema ≡ true
  tables-at-last tables = subst (λ schema. list_all is_table schema ≡ true) (sym more.grows.schema) tables

  true-at-last : (steps : List (Step C)) → KeepsToBudgets (basis_of s.database limits) c → AreLawful limits (server_at_last s pieces).database c steps → AreTrueSteps (server_at_last s pieces).database limits c steps
  true-at-last steps keeps lawful =
      all-true limits (server_at_last s pieces).database c steps (keeps-later limits s.database (server_at_last s pieces).database more.grows c rest.version keeps) lawful

pub answers-are-true : {C : Type 0} (IsOf : Standing C) → AnswersAreTrue IsOf
answers-are-true {C} IsOf limits s code c talks pieces keys first_sound tables sound rest keeps are ruled honest =
    true-at-last IsOf limits s code c pieces first_sound rest (steps_of talks) keeps
    (runs IsOf keys limits talks pieces s code c first_sound.some sound (tables-at-last IsOf limits s code c pieces first_sound rest tables) rest are (nearly-ruled c (steps_of talks) ruled) honest).lawful

pub served-answers-are-true : {C : Type 0} (IsOf : Standing C) → ServedAnswersAreTrue IsOf
served-answers-are-true {C} IsOf limits s code c talks pieces keys closed behind first_sound tables sound rest keeps are honest =
    true-at-last IsOf limits s code c pieces first_sound rest (steps_of talks) keeps
    (closed-runs IsOf keys limits talks pieces s code c closed behind first_sound.some sound (tables-at-last IsOf limits s code c pieces first_sound rest tables) rest are honest)

pub whole-talks-end-free : {C : Type 0} (IsOf : Standing C) → WholeTalksEndFree IsOf
whole-talks-end-free {C} IsOf limits s code c talk inputs keys closed uncut first_sound tables sound rest is explains no_frame no_message =
    let more = after-more s inputs first_sound.some in
    (one-connection ⊥ IsOf keys limits s code c talk inputs sound (subst (λ schema. list_all is_table schema ≡ true) (sym more.grows.schema) tables) closed uncut first_sound.some (λ no. absurd no) rest is explains).free no_frame no_message

pub few-are-laid : {C : Type 0} (IsOf : Standing C) → FewAreLaid IsOf
few-are-laid {C} IsOf limits s code c talks pieces keys first_sound tables sound limit rows asks rest are ruled honest =
    (runs IsOf keys limits talks pieces s code c first_sound.some sound (tables-at-last IsOf limits s code c pieces first_sound rest tables) rest are (nearly-ruled c (steps_of talks) ruled) honest).few
    (limit, rows, asks)
