use Rattle.std.proofs.Common.{List, sym, subst}
use Rattle.std.specs.Prelude.{IfOk}
use Rattle.std.proofs.lemmas.Result.{IfOk-weaker}
use Rattle.sr_reader.specs.Read.{Means}
use Rattle.sr_dial.specs.Known.{Tells}
use Rattle.sr_script.specs.declared.line.TraceLine.{TraceLine}
use Rattle.sr_calls.specs.ClientEnds.{DidExplain, End, IsEnd, Stands, end_with, setting_of}
use Rattle.sr_calls.proofs.client_end.ClientEndAsks.explain.Goals as goal

pub returns : goal.returns
returns c = record {
  told = λ past text stands means.
      let same = c.self.view_is in
      let inside = c.self.inside in
      subst (λ (e : End). IfOk c.explain.result (Tells IsEnd (setting_of e) e past text)) same
      (IfOk-weaker c.explain.result (λ (lines : List TraceLine). DidExplain inside.client past text lines) (λ lines. Tells IsEnd (setting_of (end_with inside.keeps inside.says inside.client inside.answer)) (end_with inside.keeps inside.says inside.client inside.answer) past text lines)
      (λ lines does. does inside.keeps inside.says inside.answer)
      (c.explain.ensures.told past text (subst (λ (x : End). Stands x past) (sym same) stands) (subst (λ (x : End). Means x.client.schema c.args.query text) (sym same) means)));
}
