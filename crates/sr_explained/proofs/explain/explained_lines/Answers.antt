use Rattle.std.proofs.Common.{◌≡◌, Ok, List}
use Rattle.std.proofs.lemmas.Result.{IfOk-weaker}
use Rattle.sr_explain.specs.Explained.{explained}
use Rattle.sr_explain.specs.Telling.{explain_lines}
use Rattle.sr_script.specs.declared.line.TraceLine.{TraceLine}
use Rattle.sr_explained.specs.After.{AreLinesFor}
use Rattle.sr_explained.proofs.explain.explained_lines.Goals as goal

pub returns : goal.returns
returns c = λ meaning means.
    let e = c.in_ok-explanation.explanation in
    IfOk-weaker c.lines_of_explain.result (λ (told : List TraceLine). told ≡ explain_lines 1 (Ok e)) (AreLinesFor c.args.client.now (Ok meaning))
    (λ told are db past stands. (Ok e, explained meaning e (c.in_ok-explanation.ensures.explains meaning means db past stands), are)) c.lines_of_explain.ensures
