use Rattle.std.proofs.Common.{◌≡◌, sym, subst, Some}
use Rattle.sr_server.specs.Outboxes.{Begins}
use Rattle.sr_server.specs.Servers.{session_at}
use Rattle.sr_session.specs.Refusals.{server_misfit}
use Rattle.sr_serve.proofs.EndLemmas.{end-begins, end-refuses}
use Rattle.sr_serve.proofs.server_end.ServerEndServes.begin.Goals as goal

pub returns-in-Ok-clause-begun : goal.returns-in-Ok-clause-begun
returns-in-Ok-clause-begun c s is =
    let number = c.number_for-client.ensures in
    let old = c.args.self.now.server in
    end-begins old c.begin.new.self c.args.self.now.client s c.args.message.now is.server is.session c.in-Ok.outbox c.requires.spelled
    (λ why e. let wrong = (c.in-Ok.ensures.bad why).1 (subst (λ n. server_misfit old.tables.schema (session_at old.sessions n) n c.args.message.now ≡ Some why) (sym number) e) in cc)
    (subst (λ n. Begins s.database old n c.args.message.now c.in-Ok.outbox c.begin.new.self) number (c.in-Ok.ensures.begun s.database is.server))

pub returns-in-Ok-clause-closed : goal.returns-in-Ok-clause-closed
returns-in-Ok-clause-closed c s becomes = becomes.closed

pub returns-in-Err-clause-refused : goal.returns-in-Err-clause-refused
returns-in-Err-clause-refused c s why is wrong =
    let number = c.number_for-client.ensures in
    let old = c.args.self.now.server in
    end-refuses old old c.args.self.now.client s c.args.message.now is.server is.session why
    (subst (λ n. server_misfit old.tables.schema (session_at old.sessions n) n c.args.message.now ≡ Some why) number ((c.in-Err.ensures.bad why).0 wrong))
