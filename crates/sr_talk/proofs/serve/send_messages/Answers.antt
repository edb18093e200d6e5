use Rattle.std.proofs.Common.{◌≡◌, ◌+◌, false, drop, rules}
use Rattle.sr_talk.proofs.SendLemmas.{breaks-off, next-at, stops-short, upto}
use Rattle.sr_talk.proofs.MoveLemmas.{so-in-err}
use Rattle.sr_talk.proofs.serve.send_messages.Goals as goal

pub returns-then-not-branch-clause-sent : goal.returns-then-not-branch-clause-sent
returns-then-not-branch-clause-sent g c =
    let messages = c.args.messages.now in
    let i = c.loop-message.message-index in
    let first = g.L.Outside.linking c.args.link.now in
    let now = g.L.Outside.linking c.loop-message.link in
    let broken : c.in_ok-send_one.field-0 ≡ false = search rules in
    breaks-off first now (g.L.Outside.linking c.send_one.new.link) messages (drop i messages) (upto first now messages i c.loop-message.invariant.sent) (drop (i + 1) messages) c.message-item.result
    c.in_ok-send_one.field-0 (next-at messages i c.message-item.result c.loop-message-test.true c.message-item.is) broken c.in_ok-send_one.ensures.sent

pub returns-in_err-send_one-clause-in_part : goal.returns-in_err-send_one-clause-in_part
returns-in_err-send_one-clause-in_part g c =
    let messages = c.args.messages.now in
    let i = c.loop-message.message-index in
    let first = g.L.Outside.linking c.args.link.now in
    let now = g.L.Outside.linking c.loop-message.link in
    so-in-err c.from_residual.result
    (stops-short first now (g.L.Outside.linking c.send_one.new.link) messages (drop i messages) (upto first now messages i c.loop-message.invariant.sent) (drop (i + 1) messages) c.message-item.result
    (next-at messages i c.message-item.result c.loop-message-test.true c.message-item.is) c.in_err-send_one.ensures.in_part)
