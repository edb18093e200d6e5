use Rattle.std.proofs.Common.{sym, ◌∙◌, ap, subst, ◌≡◌, Some}
use Rattle.std.specs.List.{All}
use Rattle.sr_wire.specs.Limits.{IsSendable}
use Rattle.sr_session.specs.Sessions.{Session, serve_push}
use Rattle.sr_outbox.specs.Left.{messages}
use Rattle.sr_server.specs.declared.server.Server.{Server}
use Rattle.sr_server.specs.Servers.{Logs, session_at}
use Rattle.sr_server.proofs.Sending.{push-sent}
use Rattle.sr_server.proofs.Slots.{put-back, open-is, same-there}
use Rattle.sr_server.proofs.server.Server.push.Goals as goal

pub returns-in_ok-sent-in-Some-clause-sent : goal.returns-in_ok-sent-in-Some-clause-sent
returns-in_ok-sent-in-Some-clause-sent c db session is at =
    let there : session_at c.args.self.now.sessions c.args.client ≡ Some c.in-Some.session = sym c.close.ensures.session ∙ c.in-Some.is in
    let same : c.in-Some.session ≡ session = same-there c.in-Some.session session (sym there ∙ at) in
    let own = open-is db c.args.self.now.sessions c.args.client c.in-Some.session c.requires.client is.count is.sessions there in
    let self = c.close.new.self in
    ap Some (c.in_ok-sent-in-Some.ensures.sent
    ∙ (ap (messages self.tables self.log) c.new-left.ensures
    ∙ (c.in_ok-items-in-Some.ensures.sent db (subst (λ (s : Server). Logs db s.log) (sym c.close.ensures.closed) is.knows.log) own.upto self.tables
    ∙ ap (λ (s : Session). (serve_push db s).sent) same)))

pub returns-in_ok-sent-in-Some-clause-session : goal.returns-in_ok-sent-in-Some-clause-session
returns-in_ok-sent-in-Some-clause-session c db session is at =
    let there : session_at c.args.self.now.sessions c.args.client ≡ Some c.in-Some.session = sym c.close.ensures.session ∙ c.in-Some.is in
    let same : c.in-Some.session ≡ session = same-there c.in-Some.session session (sym there ∙ at) in
    let own = open-is db c.args.self.now.sessions c.args.client c.in-Some.session c.requires.client is.count is.sessions there in
    put-back c.args.self.now c.close.new.self c.set.new.self c.args.client _ (serve_push db session).session c.close.ensures.closed c.set.ensures
    (ap Some (c.in_ok-items-in-Some.ensures.session db (subst (λ (s : Server). Logs db s.log) (sym c.close.ensures.closed) is.knows.log) own.upto) ∙ ap (λ (s : Session). (serve_push db s).session) same)

pub returns-in_ok-sent-in-Some-clause-sendable : goal.returns-in_ok-sent-in-Some-clause-sendable
returns-in_ok-sent-in-Some-clause-sendable c =
    let db = c.requires.stands.0 in
    let is = c.requires.stands.1 in
    let there : session_at c.args.self.now.sessions c.args.client ≡ Some c.in-Some.session = sym c.close.ensures.session ∙ c.in-Some.is in
    let own = open-is db c.args.self.now.sessions c.args.client c.in-Some.session c.requires.client is.count is.sessions there in
    let self = c.close.new.self in
    let sent = c.in_ok-sent-in-Some.ensures.sent
    ∙ (ap (messages self.tables self.log) c.new-left.ensures
    ∙ c.in_ok-items-in-Some.ensures.sent db (subst (λ (s : Server). Logs db s.log) (sym c.close.ensures.closed) is.knows.log) own.upto self.tables) in
    subst (All IsSendable) (sym sent) (push-sent db c.in-Some.session is.sound own.upto)
