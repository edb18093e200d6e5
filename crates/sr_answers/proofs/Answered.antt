-- Over true steps each answer is that of its task.
use Rattle.std.proofs.Common.{◌≡◌, ℕ, Bool, true, false, List, [], ◌∷◌, sym, ◌∙◌, ap, subst}
use Rattle.std.specs.Prelude.{Option, Some, None, Ok, Err, IfSome}
use Rattle.sr_cell.specs.declared.table.Table.{Table}
use Rattle.sr_model.specs.Queries.{Query}
use Rattle.sr_policy.specs.declared.policy.Limits.{Limits}
use Rattle.sr_session.specs.Clients.{Client}
use Rattle.sr_session.specs.Rules.{Outcome, Answered, AskSent, WriteSent, ResumeSent, WriteDone, WriteRefused, Welcomed, CutDone}
use Rattle.sr_session.specs.Sessions.{Database}
use Rattle.sr_links.specs.Answers.{IsTrueAnswer, AreTrueSteps}
use Rattle.sr_links.specs.Outs.{LeavesOut}
use Rattle.sr_links.specs.Queried.{query_out, query_of}
use Rattle.sr_links.specs.Steps.{Deed, Queried, Wrote, Evicted, Took, WasCut, Resumed}
use Rattle.sr_plan.specs.Plans.{AreAnswered}
use Rattle.sr_dial.specs.Calls.{Scripted, Delivered, Failed, Done, Made, Explained, Said, Do, steps_in}
use Rattle.sr_dial.specs.Following.{answer_of, dids_of}
use Rattle.sr_dial.specs.Runs.{IsInPlace, AreInPlace}
use Rattle.sr_dial.specs.declared.parts.Answer.{Answer}
use Rattle.sr_answers.specs.Answers.{IsOf, IsTold, TrueStepsAnswer}

pub some-is : {A : Type 0} {a b : A} → Some a ≡ Some b → a ≡ b
some-is is = cc

module _ (db : Database) where
  told-by : (deed : Deed) (c : Client) (q : Query) (answer : Answer) → query_of deed c ≡ Some q → IsOf db q answer → IsTold db (Do deed) answer
  told-by (Queried (Ok p)) c q answer is has = subst (λ (z : Query). IsOf db z answer) (sym (some-is is)) has
  told-by (Queried (Err fault)) c q answer is has = absurd cc
  told-by (Wrote sql) c q answer is has = tt
  told-by (Evicted place) c q answer is has = tt
  told-by (Took m) c q answer is has = tt
  told-by WasCut c q answer is has = tt
  told-by Resumed c q answer is has = tt

  -- what is said of the query of a deed, and of the one that is out
  abbrev SaysOf : Option Query → (Answer → Type 0) → Type 0
  SaysOf query Q = (q : Query) → query ≡ Some q → (answer : Answer) → IsOf db q answer → Q answer

  said-answer : (keeps : Bool) (deed : Deed) (c : Client) (o : Outcome) (Q : Answer → Type 0) → IsTrueAnswer db deed c o → SaysOf (query_of deed c) Q → IfSome (answer_of keeps o) Q
  said-answer true deed c (Answered number version rows marks) Q h says = says h.0 h.1 (record { version = version; rows = rows }) (h.2, h.3)
  said-answer true deed c other Q h says = tt
  said-answer false deed c o Q h says = tt

  none-out : (c : Client) (Q : Answer → Type 0) → c.out ≡ None → SaysOf (query_out c.out) Q
  none-out c Q none q is answer has = absurd (let wrong : query_out c.out ≡ None = ap query_out none in cc)

  leaves : (deed : Deed) (c : Client) (o : Outcome) (next : Client) (Q : Answer → Type 0) → LeavesOut deed c o next → SaysOf (query_of deed c) Q → SaysOf (query_out c.out) Q → SaysOf (query_out next.out) Q
  leaves deed c (AskSent drops request fresh parts) next Q out says before q is answer has =
      let same : Some out.1 ≡ Some q = sym (ap query_out out.3) ∙ is in
      says out.1 out.2 answer (subst (λ (z : Query). IsOf db z answer) (sym (some-is same)) has)
  leaves deed c (WriteSent request sql) next Q out says before q is answer has = absurd (let wrong : query_out next.out ≡ None = ap query_out out in cc)
  leaves deed c (ResumeSent message) next Q out says before q is answer has = absurd (let wrong : query_out next.out ≡ None = ap query_out out.1 in cc)
  leaves deed c (Answered query version rows marks) next Q out says before q is answer has = absurd (let wrong : query_out next.out ≡ None = ap query_out out in cc)
  leaves deed c (WriteDone request version drops) next Q out says before q is answer has = absurd (let wrong : query_out next.out ≡ None = ap query_out out in cc)
  leaves deed c (WriteRefused request fault drops) next Q out says before q is answer has = absurd (let wrong : query_out next.out ≡ None = ap query_out out in cc)
  leaves deed c (Welcomed version kept drops) next Q out says before q is answer has = absurd (let wrong : query_out next.out ≡ None = ap query_out out in cc)
  leaves deed c (CutDone cut ended) next Q out says before q is answer has = absurd (let wrong : query_out next.out ≡ None = ap query_out out in cc)
  leaves deed c other next Q out says before q is answer has = before q (sym (ap query_out out) ∙ is) answer has

  -- a message, or a failure, is about the query that is out
  taken-of : (schema : List Table) (line number : ℕ) (deed : Deed) (c : Client) (Q : Answer → Type 0) → IsInPlace schema Delivered line number deed c → SaysOf (query_out c.out) Q → SaysOf (query_of deed c) Q
  taken-of schema line number (Took m) c Q here says = says
  taken-of schema line number (Queried query) c Q here says = absurd here
  taken-of schema line number (Wrote sql) c Q here says = absurd here
  taken-of schema line number (Evicted place) c Q here says = absurd here
  taken-of schema line number WasCut c Q here says = absurd here
  taken-of schema line number Resumed c Q here says = absurd here

  failed-of : (schema : List Table) (line number : ℕ) (deed : Deed) (c : Client) (Q : Answer → Type 0) → IsInPlace schema Failed line number deed c → SaysOf (query_of deed c) Q
  failed-of schema line number WasCut c Q here q is answer has = absurd cc
  failed-of schema line number (Took m) c Q here q is answer has = absurd here
  failed-of schema line number (Queried query) c Q here q is answer has = absurd here
  failed-of schema line number (Wrote sql) c Q here q is answer has = absurd here
  failed-of schema line number (Evicted place) c Q here q is answer has = absurd here
  failed-of schema line number Resumed c Q here q is answer has = absurd here

  module _ {C : Type 0} (limits : Limits) (schema : List Table) (keeps : Bool) where
    are-answered : (line : ℕ) (c : Client) (Q : Answer → Type 0) (ds : List (Done C)) → AreInPlace schema line c ds → AreTrueSteps db limits c (steps_in ds) → SaysOf (query_out c.out) Q → AreAnswered (IsTold db) Q (dids_of keeps ds)
    are-answered line c Q [] here truly says = tt
    are-answered line c Q (Explained number text result ∷ ds) here truly says = are-answered number c Q ds here.1 truly says
    are-answered line c Q (Said number text ∷ ds) here truly says = are-answered number c Q ds here.1 truly says
    are-answered line c Q (Made number Scripted step ∷ ds) here truly says =
        let own : SaysOf (query_of step.deed c) (IsTold db (Do step.deed)) = λ q is answer has. told-by step.deed c q answer is has in (
          said-answer keeps step.deed c step.outcome (IsTold db (Do step.deed)) truly.0.answer own,
          are-answered number step.past (IsTold db (Do step.deed)) ds here.1 truly.1
              (leaves step.deed c step.outcome step.past (IsTold db (Do step.deed)) truly.0.out own (none-out c (IsTold db (Do step.deed)) here.0)),
        )
    are-answered line c Q (Made number Delivered step ∷ ds) here truly says =
        let of : SaysOf (query_of step.deed c) Q = taken-of schema line number step.deed c Q here.0 says in
        (said-answer keeps step.deed c step.outcome Q truly.0.answer of, are-answered number step.past Q ds here.1 truly.1 (leaves step.deed c step.outcome step.past Q truly.0.out of says))
    are-answered line c Q (Made number Failed step ∷ ds) here truly says =
        let of : SaysOf (query_of step.deed c) Q = failed-of schema line number step.deed c Q here.0 in
        (said-answer keeps step.deed c step.outcome Q truly.0.answer of, are-answered number step.past Q ds here.1 truly.1 (leaves step.deed c step.outcome step.past Q truly.0.out of says))

pub true-steps-answer : {C : Type 0} → TrueStepsAnswer C
true-steps-answer {C} keeps db limits tables line c ds here truly = are-answered db limits tables keeps line c (λ answer. Unit {0}) ds here truly (λ q is answer has. tt)
