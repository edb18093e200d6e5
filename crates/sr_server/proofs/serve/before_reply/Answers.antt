use Rattle.std.proofs.Common.{[], sym, ◌∙◌, ap}
use Rattle.std.specs.Prelude.{if◌then◌else◌}
use Rattle.sr_session.specs.Sessions.{Session, due, newest}
use Rattle.sr_outbox.specs.Left.{messages}
use Rattle.sr_server.proofs.Entries.{made-of, newest-is}
use Rattle.sr_server.proofs.serve.before_reply.Goals as goal

pub returns-then-fresh-clause-sent : goal.returns-then-fresh-clause-sent
returns-then-fresh-clause-sent c db keeps upto tables =
    ap (messages tables c.args.log.now) c.new.ensures ∙ sym (ap (λ b. if b then [] else (due db c.args.session.now).sent) c.if-fresh.true)

pub returns-then-fresh-clause-session : goal.returns-then-fresh-clause-session
returns-then-fresh-clause-session c db keeps upto =
    made-of c.session.inside.wire c.args.session.now.wire c.clear.new.self (if c.args.fresh then [] else (due db c.args.session.now).subscription) c.version-session-inside.result (newest db)
    (ap (λ (s : Session). s.wire) c.session.view_is)
    (c.clear.ensures ∙ sym (ap (λ b. if b then [] else (due db c.args.session.now).subscription) c.if-fresh.true))
    (c.version-session-inside.ensures ∙ newest-is db c.args.log.now keeps)
