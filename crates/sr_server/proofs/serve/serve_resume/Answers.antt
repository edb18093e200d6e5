use Rattle.std.proofs.Common.{◌∙◌, ap, refl}
use Rattle.std.proofs.lemmas.Result.{IfOk-weaker}
use Rattle.sr_server.specs.Servers.{gone_on}
use Rattle.sr_server.proofs.Serving.{later-resume, kept-resume, dropped-resume}
use Rattle.sr_server.proofs.serve.serve_resume.Goals as goal

pub returns-then-version : goal.returns-then-version
returns-then-version c db tables keeps =
    IfOk-weaker c.welcome_anew.result _ _ (λ answer is. is ∙ later-resume db c.args.log.now c.args.wire c.args.number c.args.version c.version.result c.args.holdings.now keeps c.version.ensures c.if-version.true)
    (c.welcome_anew.ensures db tables keeps)

pub returns-in_ok-told-in-Some : goal.returns-in_ok-told-in-Some
returns-in_ok-told-in-Some c db tables keeps =
    let log = c.args.log.now in
    let entries = c.in-Some.entries.now in
    IfOk-weaker c.welcome_back.result _ _
    (λ answer is. is
    ∙ (ap (λ subs. gone_on log c.args.wire c.args.number subs entries) (c.in_ok-subs-in-Some.ensures ∙ c.as_slice.ensures)
    ∙ kept-resume db log c.args.wire c.args.number c.args.version c.version.result c.args.holdings.now entries keeps c.version.ensures c.if-version.false
    (λ below. let wrong = c.in-Some.ensures.dropped.1 below in absurd (cc)) c.in-Some.ensures.above))
    (c.welcome_back.ensures tables entries
    (c.in_ok-told-in-Some.ensures tables log c.in-Some.ensures.above (λ below. let wrong = c.in-Some.ensures.dropped.1 below in absurd (cc))))

pub returns-in-None : goal.returns-in-None
returns-in-None c db tables keeps =
    IfOk-weaker c.welcome_anew-in-None.result _ _
    (λ answer is. is ∙ dropped-resume db c.args.log.now c.args.wire c.args.number c.args.version c.args.holdings.now keeps (c.in-None.ensures.dropped.0 refl))
    (c.welcome_anew-in-None.ensures db tables keeps)
