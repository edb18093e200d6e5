use Rattle.std.proofs.Common.{◌∙◌, ap, Some}
use Rattle.sr_session.specs.Sessions.{Session, serve_write}
use Rattle.std.specs.Prelude.{None}
use Rattle.sr_outbox.specs.Left.{messages}
use Rattle.sr_server.specs.declared.outbox.Outbox.{Outbox}
use Rattle.sr_server.specs.Outboxes.{served_by}
use Rattle.sr_server.proofs.Serving.{served-of}
use Rattle.sr_server.proofs.server.Server.written.Goals as goal

pub returns-clause-serves : goal.returns-clause-serves
returns-clause-serves c db keeps upto =
    let self = c.args.self.now in
    ap (λ (o : Outbox). served_by o self) c.outbox_of.ensures
    ∙ (ap (λ (s : Session). served-of (Some s) (messages self.tables self.log c.in_ok-sent.sent)) (c.in_ok-sent.ensures.session db keeps upto)
    ∙ ap (λ ms. served-of (serve_write db c.args.session c.args.number None).session ms) (c.in_ok-sent.ensures.sent db keeps upto self.tables))
