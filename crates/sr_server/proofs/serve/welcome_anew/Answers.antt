use Rattle.std.proofs.Common.{false, ap}
use Rattle.sr_outbox.specs.declared.item.Item.TheVariants.{Welcome}
use Rattle.sr_outbox.specs.Left.{messages}
use Rattle.sr_outbox.proofs.Messages.{messages-push}
use Rattle.sr_server.proofs.Serving.{anew-served}
use Rattle.sr_server.proofs.serve.welcome_anew.Goals as goal

pub returns : goal.returns
returns c db tables keeps =
    let log = c.args.log.now in
    anew-served db log c.args.wire c.args.number c.version-version.result c.new.result (messages tables log c.new-sent.result) (messages tables log c.push.new.self) keeps c.new.ensures c.version-version.ensures
    (ap (messages tables log) c.new-sent.ensures)
    (messages-push tables log c.new-sent.result c.push.new.self (Welcome c.args.number c.version-version.result false) c.in_ok-push.ensures.pushed)
