use Rattle.std.proofs.Common.{[], ◌≡◌, ◌∙◌, sym, subst, ap, true, false, Err, refl}
use Rattle.std.specs.Prelude.{IfOk, Result}
use Rattle.sr_client.specs.Asking.{AsksRest, LeavesRest}
use Rattle.sr_client.specs.Bound.{IsMeaning}
use Rattle.sr_client.specs.Cutting.{AreCutAlong}
use Rattle.sr_client.specs.Sending.{IsSent}
use Rattle.sr_client.specs.Sends.{QuerySendsWell}
use Rattle.sr_client.specs.Steps.{Queries}
use Rattle.sr_client.specs.declared.client.Client.{Client}
use Rattle.sr_client.specs.declared.steps.QueryStep.{QueryStep}
use Rattle.sr_client.proofs.AskLemmas.{leaves-asked}
use Rattle.sr_client.proofs.MeantLemmas.{asks-of}
use Rattle.sr_client.proofs.QueryLemmas.{query-busy, query-over-cut}
use Rattle.sr_client.proofs.Results.{if_each, of_ok}
use Rattle.sr_client.proofs.SendLemmas.{MayAsk, query-asks}
use Rattle.sr_client.proofs.SendableLemmas.{sent-well}
use Rattle.sr_model.specs.Queries as model
use Rattle.sr_client.proofs.client.Client.judge.Goals.{in-Some, in_default+in-Ok, then-is_empty, else-is_empty+then-self, in_default+in-Err-NoMemory, in_default+in-Err-Refused+then-self-2}
use Rattle.sr_client.proofs.client.Client.judge.Goals as goal

pub answer_now-requires-clause-nothing : goal.answer_now-requires-clause-nothing
answer_now-requires-clause-nothing c =
    let old = c.args.self.now in
    subst (AsksRest old.schema old.store.regions c.args.query.parts) (c.if-is_empty.ensures.0 refl)
    (asks-of old.schema old.schema old.store.regions c.args.query.parts c.as_slice.result.now c.in-Ok.asks refl c.as_slice.ensures c.in-Ok.ensures.asks)

-- what is asked
may-ask : (c : goal.After-send_ask) (meaning : model.Query) → IsMeaning c.args.self.now.schema c.args.query meaning → MayAsk c.args.self.now c.args.query meaning c.in-Ok.asks
may-ask c meaning is =
    let old = c.args.self.now in
    let asks = c.in-Ok.asks in
    record {
      out = c.in_default.is;
      is = is;
      rest = asks-of old.schema old.schema old.store.regions c.args.query.parts c.as_slice.result.now asks refl c.as_slice.ensures c.in-Ok.ensures.asks;
      along = subst (λ ps. AreCutAlong old.schema old.store.regions ps asks) c.as_slice.ensures c.in-Ok.ensures.cuts;
      some = λ none. absurd (let wrong : false ≡ true = c.if-is_empty.ensures.1 none in cc);
      few = c.in-Ok.ensures.rects;
    }

pub returns-else-self-clause-queries : goal.returns-else-self-clause-queries
returns-else-self-clause-queries c = λ meaning is.
    let old = c.args.self.now in
    let q = c.args.query in
    let asks = c.in-Ok.asks in
    let new = c.send_ask.new.self in
    if_each (Queries old meaning new) c.send_ask.result (λ step e.
    query-asks old q meaning asks new step (may-ask c meaning is) c.if-self.false
    (subst (λ drops. IsSent old q asks drops new step) c.new.ensures (of_ok (IsSent old q asks c.new.result new) c.send_ask.result step e c.send_ask.ensures.sent)) c.requires.stands)

pub returns-else-self-clause-sends : goal.returns-else-self-clause-sends
returns-else-self-clause-sends c =
    let old = c.args.self.now in
    let q = c.args.query in
    let asks = c.in-Ok.asks in
    let new = c.send_ask.new.self in
    let meaning = c.requires.meant.0 in
    if_each (QuerySendsWell old.schema old.id) c.send_ask.result (λ step e.
    sent-well old q meaning asks c.new.result c.requires.stands.0 new step (may-ask c meaning c.requires.meant.1) c.requires.stands.1
    (of_ok (IsSent old q asks c.new.result new) c.send_ask.result step e c.send_ask.ensures.sent))

pub drop_and_ask-requires-clause-left : goal.drop_and_ask-requires-clause-left
drop_and_ask-requires-clause-left c =
    subst (LeavesRest c.args.self.now.schema c.args.self.now.store.regions) c.as_slice.ensures (c.in-Err-Refused.ensures.over_left (ap Err c.in-Err-Refused.field-0-is))

-- what one of the branches gave
by-branch : {E : Type 0} (old : Client) (meaning : model.Query) (step given : Result QueryStep E) (new left : Client) → step ≡ given → new ≡ left → IfOk given (Queries old meaning left)
    → IfOk step (Queries old meaning new)
by-branch old meaning step given new left step_is new_is gives =
    subst (λ r. IfOk r (Queries old meaning new)) (sym step_is) (subst (λ (x : Client). IfOk given (Queries old meaning x)) (sym new_is) gives)

pub returns-clause-queries : goal.returns-clause-queries
returns-clause-queries c = λ meaning is.
    let old = c.args.self.now in
    let q = c.args.query in
    let step = c.match-self.step in
    let new = c.match-self.self in
    elim c.match-self.branch [
      | in-Some w ↦ by-branch old meaning step _ new _ w.step-is w.self-is (query-busy old meaning w.number.result w.in-Some.request c.requires.stands w.in-Some.is w.number.ensures)
      | in_default+in-Ok w ↦ elim w.if-is_empty.branch [
        | then-is_empty w' ↦ by-branch old meaning step _ new _ (w.step-is ∙ w'.step-is) (w.self-is ∙ w'.self-is) (w'.answer_now.ensures.queries meaning is)
        | else-is_empty+then-self w' ↦ (let some : w.in-Ok.asks ≡ [] → ⊥ = λ none. absurd (let wrong : false ≡ true = w'.if-is_empty.ensures.1 none in cc) in
            let left = leaves-asked old.schema old.store.regions w.as_slice.result.now w.in-Ok.asks w.in-Ok.ensures.asks some in
            by-branch old meaning step _ new _ (w.step-is ∙ w'.step-is) (w.self-is ∙ w'.self-is)
            (query-over-cut old q meaning c.requires.stands w.in_default.is w'.if-self.true is (subst (LeavesRest old.schema old.store.regions) w.as_slice.ensures left)))
      ]
      | in_default+in-Err-NoMemory w ↦ by-branch old meaning step _ new _ w.step-is w.self-is tt
      | in_default+in-Err-Refused+then-self-2 w ↦ (let left = subst (LeavesRest old.schema old.store.regions) w.as_slice.ensures (w.in-Err-Refused.ensures.over_left (ap Err w.in-Err-Refused.field-0-is)) in
          by-branch old meaning step _ new _ w.step-is w.self-is (query-over-cut old q meaning c.requires.stands w.in_default.is w.if-self-2.true is left))
    ]
