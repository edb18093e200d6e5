use Rattle.std.proofs.Common.{◌≡◌, sym, ◌∙◌, ap, subst}
use Rattle.std.specs.Prelude.{None}
use Rattle.sr_session.specs.Sessions.{serve}
use Rattle.sr_server.specs.declared.outbox.Outbox.{Outbox}
use Rattle.sr_server.specs.declared.server.Server.{Server}
use Rattle.sr_server.specs.Outboxes.{made, served_by}
use Rattle.sr_server.specs.Servers.{IsSessionIf, Knows, session_at, with_session}
use Rattle.sr_server.proofs.Slots.{session-is}
use Rattle.sr_server.proofs.server.Server.begin_request.Goals as goal

pub returns-clause-serves : goal.returns-clause-serves
returns-clause-serves c db is =
    let old : Server = c.args.self.now in
    let session = c.close-session.ensures.session ∙ ap (λ (s : Server). session_at s.sessions c.args.client) c.index_asked.ensures in
    let closed : c.close-session.new.self ≡ record old { sessions = with_session old.sessions c.args.client None } =
    c.close-session.ensures.closed ∙ ap (λ (s : Server). record s { sessions = with_session s.sessions c.args.client None }) c.index_asked.ensures in
    let own = subst (IsSessionIf db) (sym session) (session-is db old.sessions c.args.client c.requires.client is.count is.sessions) in
    ap (λ (o : Outbox). served_by o c.close-session.new.self) c.outbox_of.ensures
    ∙ (c.in_ok-answer.ensures db (subst (λ (s : Server). Knows s.tables s.log db) (sym closed) is.knows) own ∙ ap (λ s. serve db s c.args.message.now) session)
