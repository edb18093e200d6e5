use Rattle.std.proofs.Common.{◌≡◌, [], ◌∷◌, ◌++◌, ◌∙◌, length, ap, sym, append_assoc, arith}
use Rattle.sr_outbox.specs.Left.{messages}
use Rattle.sr_outbox.proofs.left.Left.all.Goals as goal

pub messages-preserved : goal.messages-preserved
messages-preserved c =
    let rest = messages c.args.tables.now c.args.log.now c.next.new.self in
    let given : messages c.args.tables.now c.args.log.now c.messages.self ≡ c.in-Some.message ∷ rest = rw c.in-Some.is at c.in_ok-message.ensures.given in
    rw c.in_ok-push.ensures.pushed
    (append_assoc c.messages.sent (c.in-Some.message ∷ []) rest ∙ (ap (λ ms. c.messages.sent ++ ms) (sym given) ∙ c.messages.invariant))

pub messages-smaller : goal.messages-smaller
messages-smaller c =
    let rest = messages c.args.tables.now c.args.log.now c.next.new.self in
    let given : messages c.args.tables.now c.args.log.now c.messages.self ≡ c.in-Some.message ∷ rest = rw c.in-Some.is at c.in_ok-message.ensures.given in
    let size = ap length given in
    omega (arith, size)
