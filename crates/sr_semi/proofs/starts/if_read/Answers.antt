use Rattle.std.proofs.Common.{◌≡◌, subst}
use Rattle.std.specs.Prelude.{Err, IfSome}
use Rattle.sr_grammar.specs.Says.{Says}
use Rattle.sr_semi.proofs.starts.if_read.Goals as goal

pub returns-in-Some-clause-unread : goal.returns-in-Some-clause-unread
returns-in-Some-clause-unread c fault e =
    let says = subst (λ o. IfSome o (λ f. Says c.as_str.result.now (Err f))) c.in-Some.is c.in_ok-unread.ensures.says in
    let same : c.in-Some.fault ≡ fault = cc e in
    subst (λ f. Says c.args.sides.left.text (Err f)) same (subst (λ x. Says x (Err c.in-Some.fault)) c.as_str.ensures says)
