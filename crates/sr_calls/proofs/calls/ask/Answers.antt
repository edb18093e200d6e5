use Rattle.std.proofs.Common.{◌≡◌, [], ◌∷◌, sym, subst, Result, Err}
use Rattle.std.specs.Prelude.{IfOk}
use Rattle.std.specs.List.{All}
use Rattle.std.proofs.lemmas.List.Elements.{All-nil}
use Rattle.std.proofs.lemmas.Result.{IfOk-weaker}
use Rattle.sr_cell.specs.declared.fault.Fault.{Fault}
use Rattle.sr_model.specs.Queries as model
use Rattle.sr_reader.specs.Read.{Means}
use Rattle.sr_script.specs.declared.line.TraceLine.TheVariants as line
use Rattle.sr_wire.specs.Limits.{IsSendable}
use Rattle.sr_links.specs.Steps.{Queried}
use Rattle.sr_calls.specs.ClientEnds.{Did, silent}
use Rattle.sr_calls.specs.declared.calls.Done.{Done}
use Rattle.sr_calls.proofs.AskLemmas.{meaning_is, refused_is, some_meaning}
use Rattle.sr_calls.proofs.StepLemmas.{refuses_query}
use Rattle.sr_calls.proofs.calls.ask.Goals as goal

pub judge-requires-clause-meant : goal.judge-requires-clause-meant
judge-requires-clause-meant c =
    let old = c.args.client.now in
    let asks = c.requires.asks in
    some_meaning old.schema c.in-Ok.query asks.0 (subst (λ q. Means old.schema q asks.0) c.in-Ok.is asks.1)

pub returns-in-Ok-clause-made : goal.returns-in-Ok-clause-made
returns-in-Ok-clause-made c = λ past meaning stands means.
    let old = c.args.client.now in
    meaning_is old.schema c.in-Ok.query meaning (λ (m : Result model.Query Fault). IfOk c.judge.result (Did c.args.keeps old c.judge.new.client past (Queried m)))
    (subst (λ q. Means old.schema q meaning) c.in-Ok.is means) (λ m is. c.judge.ensures.made past m stands is)

pub returns-in-Err-clause-made : goal.returns-in-Err-clause-made
returns-in-Err-clause-made c = λ past meaning stands means.
    let old = c.args.client.now in
    let fault = c.in-Err.fault in
    let is : meaning ≡ Err fault = refused_is old.schema fault meaning (subst (λ q. Means old.schema q meaning) c.in-Err.is means) in
    IfOk-weaker c.refuse.result (λ (d : Done). d ≡ silent (line.QuerySql old.id fault ∷ [])) (Did c.args.keeps old old past (Queried meaning))
    (λ d done. subst (λ (m : Result model.Query Fault). Did c.args.keeps old old past (Queried m) d) (sym is) (refuses_query c.args.keeps old past fault d stands done)) c.refuse.ensures

pub returns-in-Err-clause-sendable : goal.returns-in-Err-clause-sendable
returns-in-Err-clause-sendable c =
    IfOk-weaker c.refuse.result (λ (d : Done). d ≡ silent (line.QuerySql c.args.client.now.id c.in-Err.fault ∷ [])) (λ (d : Done). All IsSendable d.told.sent)
    (λ d done. subst (λ (d : Done). All IsSendable d.told.sent) (sym done) (All-nil IsSendable)) c.refuse.ensures
