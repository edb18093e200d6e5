use Rattle.std.proofs.Common.{◌≡◌, List, Ok}
use Rattle.std.proofs.lemmas.Result.{IfOk-weaker}
use Rattle.sr_script.specs.declared.line.TraceLine.{TraceLine}
use Rattle.sr_explain.specs.Telling.{explain_lines}
use Rattle.sr_calls.specs.ClientEnds.{DidExplain}
use Rattle.sr_calls.proofs.ExplainLemmas.{few_victims, tells_how}
use Rattle.sr_calls.proofs.calls.explain_query.Goals as goal

pub lines_of_explain-requires : goal.lines_of_explain-requires
lines_of_explain-requires c = record { few = few_victims c.args.client.now c.in_ok-explanation.explanation c.requires.ready c.in_ok-explanation.ensures.victims }

pub returns : goal.returns
returns c = record {
  told = λ past meaning stands means.
      let old = c.args.client.now in
      let e = c.in_ok-explanation.explanation in
      IfOk-weaker c.lines_of_explain.result (λ (lines : List TraceLine). lines ≡ explain_lines old.id (Ok e)) (DidExplain old past (Ok meaning))
      (λ lines are. tells_how old past meaning e lines (c.in_ok-explanation.ensures.explains meaning means) are) c.lines_of_explain.ensures;
}
