-- What is out behind a step by the rules, and that the answers of a line are those of its query.
use Rattle.std.proofs.Common.{◌≡◌, ℕ, List, [], ◌∷◌, refl, sym, ◌∙◌, ap, Some, None, Ok}
use Rattle.std.specs.Prelude.{Result}
use Rattle.sr_cell.specs.declared.fault.Fault.{Fault}
use Rattle.sr_message.specs.declared.message.Message.{Message}
use Rattle.sr_model.specs.Queries.{Query, rows_of}
use Rattle.sr_policy.specs.declared.policy.Limits.{Limits}
use Rattle.sr_history.specs.declared.mark.Mark.{Mark}
use Rattle.sr_session.specs.Clients.{Client}
use Rattle.sr_session.specs.Rules.{Basis, Outcome, Answering, AnswerStep, renewed, given_up, Answered, AskSent, WriteSent, ResumeSent, WriteDone, WriteRefused, Welcomed, CutDone, QueryStep, query_refused, query_busy, query_answered, query_down, query_asks, TakeStep, lays, applies, forgets, answers, asks_once_more, written, refused_write, is_welcomed, EvictStep, evict_busy, evicts_none, evicts, WriteStep, write_busy, write_down, write_sends, already_cut, cuts, already_up, resumes, next_query}
use Rattle.sr_session.specs.Sessions.{Database, tables_of}
use Rattle.sr_links.specs.Answers.{IsTrueAnswer, AreTrueSteps, LinesAnswerTheirQueries}
use Rattle.sr_links.specs.Queried.{query_out, query_of}
use Rattle.sr_links.specs.Outs.{LeavesOut, AnswersQuery, AllAnswer, IsTaking, AreTakings}
use Rattle.sr_links.specs.Steps.{Deed, Queried, Wrote, Evicted, Took, WasCut, Resumed, too_long, writes, Does, Standing, Step}

-- ---- by the rules

module _ (b : Basis) where
  answered-none : (a : Answering) (c : Client) (marks : List Mark) (new : Client) → AnswerStep b a c marks new → new.out ≡ None
  answered-none a c marks new (renewed ms renews) = refl
  answered-none a c marks new (given_up ms gives) = refl

  query-out : (c : Client) (text : Result Query Fault) (o : Outcome) (new : Client) → QueryStep b c text o new → LeavesOut (Queried text) c o new
  query-out c text o new (query_refused fault) = refl
  query-out c text o new (query_busy q request out) = refl
  query-out c text o new (query_answered q rows marks after out asks are step) = answered-none _ c marks after step
  query-out c text o new (query_down q out down left) = refl
  query-out c text o new (query_asks q drops old ask others fresh out before up asks few mode) = (next_query old, q, refl, refl)

  take-out : (c : Client) (m : Message) (o : Outcome) (new : Client) → TakeStep b c m o new → LeavesOut (Took m) c o new
  take-out c m o new (lays request x out laid for) = refl
  take-out c m o new (applies version told drops out later meets) = refl
  take-out c m o new (forgets version drops out later all) = refl
  take-out c m o new (answers number query q fresh parts version rows marks after out whole later are step) = answered-none _ c marks after step
  take-out c m o new (asks_once_more number query q fresh parts version drops whole out again later all asks few) = (query, q, ap query_out out, refl)
  take-out c m o new (written number version drops out later all) = refl
  take-out c m o new (refused_write number fault drops out later all) = refl
  take-out c m o new (is_welcomed number version kept drops out later all) = refl

  evict-out : (place : ℕ) (c : Client) (o : Outcome) (new : Client) → EvictStep b place c o new → LeavesOut (Evicted place) c o new
  evict-out place c o new (evict_busy request out) = refl
  evict-out place c o new (evicts_none classes out are few) = refl
  evict-out place c o new (evicts classes chosen d out are at drop) = refl

  write-out : (sql : List ℕ) (c : Client) (o : Outcome) (new : Client) → WriteStep sql c o new → LeavesOut (Wrote sql) c o new
  write-out sql c o new (write_busy request out) = refl
  write-out sql c o new (write_down out down) = refl
  write-out sql c o new (write_sends out up) = refl

  pub does-out : (deed : Deed) (c : Client) (o : Outcome) (new : Client) → Does b deed c o new → LeavesOut deed c o new
  does-out (Queried text) c o new does = query-out c text o new does
  does-out (Wrote sql) c o new (too_long is) = refl
  does-out (Wrote sql) c o new (writes did after short does) = write-out sql c o new does
  does-out (Evicted place) c o new does = evict-out place c o new does
  does-out (Took m) c o new does = take-out c m o new does
  does-out WasCut c o new (already_cut is) = refl
  does-out WasCut c o new (cuts up) = refl
  does-out Resumed c o new (already_up up) = refl
  does-out Resumed c o new (resumes m down is) = (c.next_request, refl)

-- ---- the answers of a line

module _ (db : Database) (q : Query) where
  -- what is out is of no other query
  abbrev IsOfQuery : Client → Type 0
  IsOfQuery c = (other : Query) → query_out c.out ≡ Some other → other ≡ q

  -- nor is what is done
  abbrev IsAbout : Deed → Client → Type 0
  IsAbout deed c = (other : Query) → query_of deed c ≡ Some other → other ≡ q

  answer-of : (deed : Deed) (c : Client) (o : Outcome) → IsAbout deed c → IsTrueAnswer db deed c o → AnswersQuery db q o
  answer-of deed c (Answered number version rows marks) about (other, of, below, right) = (below, right ∙ ap (λ x. rows_of x (tables_of db version)) (about other of))
  answer-of deed c o about right = tt

  none-out : (new : Client) → new.out ≡ None → IsOfQuery new
  none-out new out other is = let wrong : None ≡ Some other = sym (ap query_out out) ∙ is in absurd (cc)

  next-of : (deed : Deed) (c : Client) (o : Outcome) (new : Client) → IsAbout deed c → IsOfQuery c → LeavesOut deed c o new → IsOfQuery new
  next-of deed c (AskSent drops request fresh parts) new about of (number, asked, is_asked, out) other is =
      let same : Some asked ≡ Some other = sym (ap query_out out) ∙ is in
      let one : asked ≡ other = cc in
      sym one ∙ about asked is_asked
  next-of deed c (WriteSent request sql) new about of out other is = let wrong : None ≡ Some other = sym (ap query_out out) ∙ is in absurd (cc)
  next-of deed c (ResumeSent message) new about of (number, out) other is = let wrong : None ≡ Some other = sym (ap query_out out) ∙ is in absurd (cc)
  next-of deed c (Answered query version rows marks) new about of out other is = none-out new out other is
  next-of deed c (WriteDone request version drops) new about of out other is = none-out new out other is
  next-of deed c (WriteRefused request fault drops) new about of out other is = none-out new out other is
  next-of deed c (Welcomed version kept drops) new about of out other is = none-out new out other is
  next-of deed c (CutDone cut ended) new about of out other is = none-out new out other is
  next-of deed c o new about of out other is = of other (sym (ap query_out out) ∙ is)

  taking-about : (deed : Deed) (c : Client) → IsTaking deed → IsOfQuery c → IsAbout deed c
  taking-about (Took m) c taking of = of
  taking-about (Queried text) c taking of = absurd taking
  taking-about (Wrote sql) c taking of = absurd taking
  taking-about (Evicted place) c taking of = absurd taking
  taking-about WasCut c taking of = absurd taking
  taking-about Resumed c taking of = absurd taking

  takings-answer : {C : Type 0} (limits : Limits) (c : Client) (steps : List (Step C)) → IsOfQuery c → AreTakings steps → AreTrueSteps db limits c steps → AllAnswer db q steps
  takings-answer {C} limits c [] of takings are = tt
  takings-answer {C} limits c (step ∷ steps) of (taking, takings) (one, others) =
      let about : IsAbout step.deed c = taking-about step.deed c taking of in (
        answer-of step.deed c step.outcome about one.answer,
        takings-answer limits step.past steps (next-of step.deed c step.outcome step.past about of one.out) takings others,
      )

  queried-about : (deed : Deed) (c : Client) → deed ≡ Queried (Ok q) → IsAbout deed c
  queried-about deed c is other of = let same : Some q ≡ Some other = sym (ap (λ d. query_of d c) is) ∙ of in let one : q ≡ other = cc in sym one

pub lines-answer : {C : Type 0} (IsOf : Standing C) → LinesAnswerTheirQueries IsOf
lines-answer {C} IsOf db limits c q first others none is takings (one, more) =
    let about : IsAbout db q first.deed c = queried-about db q first.deed c is in (
      answer-of db q first.deed c first.outcome about one.answer,
      takings-answer db q limits first.past others (next-of db q first.deed c first.outcome first.past about (none-out db q c none) one.out) takings more,
    )
