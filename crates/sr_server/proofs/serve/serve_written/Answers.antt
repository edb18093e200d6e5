use Rattle.sr_outbox.specs.declared.item.Item.TheVariants.{Written}
use Rattle.sr_outbox.specs.Left.{messages}
use Rattle.sr_outbox.proofs.Messages.{messages-push}
use Rattle.sr_server.proofs.Serving.{written-sent}
use Rattle.sr_server.proofs.serve.serve_written.Goals as goal

pub returns-clause-sent : goal.returns-clause-sent
returns-clause-sent c db keeps upto tables =
    let log = c.args.log.now in
    written-sent db log c.args.session.now c.args.number c.version.result (messages tables log c.in_ok-sent.sent) (messages tables log c.push.new.self) keeps
    (c.in_ok-sent.ensures.sent db keeps upto tables)
    (messages-push tables log c.in_ok-sent.sent c.push.new.self (Written c.args.number c.version.result) c.in_ok-push.ensures.pushed) c.version.ensures
