use Rattle.std.proofs.Common.{◌≡◌, List, subst, Result, Err}
use Rattle.std.specs.Prelude.{IfOk}
use Rattle.std.proofs.lemmas.Result.{IfOk-weaker}
use Rattle.sr_cell.specs.declared.fault.Fault.{Fault}
use Rattle.sr_model.specs.Queries as model
use Rattle.sr_reader.specs.Read.{Means}
use Rattle.sr_script.specs.declared.line.TraceLine.{TraceLine}
use Rattle.sr_explain.specs.Telling.{explain_lines}
use Rattle.sr_calls.specs.ClientEnds.{DidExplain}
use Rattle.sr_calls.proofs.AskLemmas.{meaning_is, refused_is, some_meaning}
use Rattle.sr_calls.proofs.ExplainLemmas.{tells_why}
use Rattle.sr_calls.proofs.calls.explain.Goals as goal

pub explain_query-requires-clause-meant : goal.explain_query-requires-clause-meant
explain_query-requires-clause-meant c =
    let old = c.args.client.now in
    let asks = c.requires.means in
    some_meaning old.schema c.in-Ok.query asks.0 (subst (λ q. Means old.schema q asks.0) c.in-Ok.is asks.1)

pub returns-in-Ok : goal.returns-in-Ok
returns-in-Ok c = record {
  told = λ past text stands means.
      let old = c.args.client.now in
      meaning_is old.schema c.in-Ok.query text (λ (t : Result model.Query Fault). IfOk c.explain_query.result (DidExplain old past t))
      (subst (λ q. Means old.schema q text) c.in-Ok.is means) (λ m is. c.explain_query.ensures.told past m stands is);
}

pub returns-in-Err : goal.returns-in-Err
returns-in-Err c = record {
  told = λ past text stands means.
      let old = c.args.client.now in
      let fault = c.in-Err.fault in
      let is : text ≡ Err fault = refused_is old.schema fault text (subst (λ q. Means old.schema q text) c.in-Err.is means) in
      IfOk-weaker c.unexplained.result (λ (lines : List TraceLine). lines ≡ explain_lines old.id (Err fault)) (DidExplain old past text)
      (λ lines are. tells_why old past fault text lines is are) c.unexplained.ensures;
}
