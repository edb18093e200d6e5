use Rattle.std.proofs.Common.{◌≡◌, ◌∷◌, ◌∙◌, true, false, length, ap, subst, arith, rules}
use Rattle.sr_wire.specs.Spelling.{spelling}
use Rattle.sr_talk.specs.Moves.{SendsAs}
use Rattle.sr_talk.proofs.SendLemmas.{breaks-off, left-sendable, one-sent, stops-before, stops-short}
use Rattle.sr_talk.proofs.MoveLemmas.{so-in-err, stays-on}
use Rattle.sr_talk.proofs.serve.send_left.Goals as goal

pub send_one-sent-requires : goal.send_one-sent-requires
send_one-sent-requires g c =
    let left = g.S.Serves.left c.args.server.now in
    let next : left c.messages.outbox ≡ c.in-Some.message ∷ left c.next.new.outbox = rw c.in-Some.is at c.in_ok-message.ensures.given in
    let first = g.L.Outside.linking c.args.link.now in
    let now = g.L.Outside.linking c.messages.link in
    left-sendable first now now (left c.args.outbox.now) (left c.messages.outbox) c.messages.invariant.so_far (left c.next.new.outbox) c.in-Some.message next c.requires

pub messages-preserved : goal.messages-preserved
messages-preserved g c =
    let left = g.S.Serves.left c.args.server.now in
    let next : left c.messages.outbox ≡ c.in-Some.message ∷ left c.next.new.outbox = rw c.in-Some.is at c.in_ok-message.ensures.given in
    let first = g.L.Outside.linking c.args.link.now in
    let now = g.L.Outside.linking c.messages.link in
    let new = g.L.Outside.linking c.send_one-sent.new.link in
    let whole : c.in_ok-sent.field-0 ≡ true = search rules in
    record {
      so_far = one-sent first now new (left c.args.outbox.now) (left c.messages.outbox) c.messages.invariant.so_far (left c.next.new.outbox) c.in-Some.message next
          (subst (λ b. SendsAs b now new (spelling c.in-Some.message)) whole c.in_ok-sent.ensures.sent);
      becomes = λ s b. c.next.ensures.becomes s (c.messages.invariant.becomes s b);
      stays = stays-on _ g.L.Outside.reading g.L.Outside.writing g.L.Outside.linking g.L.Outside.held g.L.Outside.complaints g.L.Outside.IsSteady c.args.link.now c.messages.link c.send_one-sent.new.link
          c.messages.invariant.stays c.send_one-sent.ensures.stays;
      up = c.send_one-sent.ensures.stays_up ∙ c.messages.invariant.up;
    }

pub messages-smaller : goal.messages-smaller
messages-smaller g c =
    let left = g.S.Serves.left c.args.server.now in
    let next : left c.messages.outbox ≡ c.in-Some.message ∷ left c.next.new.outbox = rw c.in-Some.is at c.in_ok-message.ensures.given in
    let size = ap length next in
    omega (arith, size)

pub returns-then-not-branch-clause-sent : goal.returns-then-not-branch-clause-sent
returns-then-not-branch-clause-sent g c =
    let left = g.S.Serves.left c.args.server.now in
    let next : left c.messages.outbox ≡ c.in-Some.message ∷ left c.next.new.outbox = rw c.in-Some.is at c.in_ok-message.ensures.given in
    let broken : c.in_ok-sent.field-0 ≡ false = search rules in
    breaks-off (g.L.Outside.linking c.args.link.now) (g.L.Outside.linking c.messages.link) (g.L.Outside.linking c.send_one-sent.new.link) (left c.args.outbox.now) (left c.messages.outbox) c.messages.invariant.so_far
    (left c.next.new.outbox) c.in-Some.message c.in_ok-sent.field-0 next broken c.in_ok-sent.ensures.sent

pub returns-in_err-sent-clause-in_part : goal.returns-in_err-sent-clause-in_part
returns-in_err-sent-clause-in_part g c =
    let left = g.S.Serves.left c.args.server.now in
    let next : left c.messages.outbox ≡ c.in-Some.message ∷ left c.next.new.outbox = rw c.in-Some.is at c.in_ok-message.ensures.given in
    so-in-err c.from_residual-in_err-sent.result
    (stops-short (g.L.Outside.linking c.args.link.now) (g.L.Outside.linking c.messages.link) (g.L.Outside.linking c.send_one-sent.new.link) (left c.args.outbox.now) (left c.messages.outbox) c.messages.invariant.so_far
    (left c.next.new.outbox) c.in-Some.message next c.in_err-sent.ensures.in_part)

pub returns-in_err-message-clause-in_part : goal.returns-in_err-message-clause-in_part
returns-in_err-message-clause-in_part g c =
    let left = g.S.Serves.left c.args.server.now in
    so-in-err c.from_residual.result
    (stops-before (g.L.Outside.linking c.args.link.now) (g.L.Outside.linking c.messages.link) (left c.args.outbox.now) (left c.messages.outbox) c.messages.invariant.so_far c.in_err-message.ensures.wanting)
