use Rattle.sr_outbox.specs.declared.item.Item.TheVariants.{Welcome}
use Rattle.std.proofs.Common.{true}
use Rattle.sr_outbox.specs.Left.{messages}
use Rattle.sr_outbox.proofs.Messages.{messages-push}
use Rattle.sr_server.proofs.Serving.{back-served}
use Rattle.sr_server.proofs.serve.welcome_back.Goals as goal

pub returns : goal.returns
returns c tables entries told =
    let log = c.args.log.now in
    back-served log c.args.wire c.args.number c.version-version.result c.args.subs entries (messages tables log c.args.told) (messages tables log c.push.new.self) told
    (messages-push tables log c.args.told c.push.new.self (Welcome c.args.number c.version-version.result true) c.in_ok-push.ensures.pushed) c.version-version.ensures
