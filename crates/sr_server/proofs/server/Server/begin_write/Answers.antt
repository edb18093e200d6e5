use Rattle.std.proofs.Common.{◌≡◌, sym, ◌∙◌, ap, Some, Err}
use Rattle.sr_session.specs.Sessions.{with_version}
use Rattle.sr_server.specs.Servers.{session_at}
use Rattle.sr_server.proofs.Taking.{two-ok, on-err, three-ok, carried-out, gives-up-written, session-after, begins-refused, begins-write}
use Rattle.sr_server.proofs.server.Server.begin_write.Goals as goal

pub returns-in-Ok-clause-begun : goal.returns-in-Ok-clause-begun
returns-in-Ok-clause-begun c db is =
    let there : session_at c.args.self.now.sessions c.args.client ≡ Some c.in-Some.session = sym c.close.ensures.session ∙ c.in-Some.is in
    let after = carried-out db c.args.self.now c.close.new.self c.write.new.self c.args.client is c.close.ensures.closed c.in-Ok.ensures.carried in
    let upto = session-after db c.args.self.now c.write.new.self c.args.client c.in-Some.session c.requires.client is there in
    two-ok c.written.result _ _ _
    (λ outbox is_for serves. begins-write db c.args.self.now c.close.new.self c.write.new.self c.args.client c.args.number c.args.sql.now c.in-Some.session outbox c.requires.client is there
    c.close.ensures.closed c.in-Ok.ensures.carried c.in-Ok.ensures.done is_for serves)
    c.written.ensures.is_for (c.written.ensures.serves (with_version db c.write.new.self.tables.rows) after.knows.log upto)

pub returns-in-Ok-clause-wanting : goal.returns-in-Ok-clause-wanting
returns-in-Ok-clause-wanting c db is =
    on-err c.written.result
    (gives-up-written db c.args.self.now c.close.new.self c.write.new.self c.args.client c.args.number c.args.sql.now is c.close.ensures.closed c.in-Ok.ensures.carried c.in-Ok.ensures.done)

pub returns-in-Err-Refused-clause-begun : goal.returns-in-Err-Refused-clause-begun
returns-in-Err-Refused-clause-begun c db is =
    let there : session_at c.args.self.now.sessions c.args.client ≡ Some c.in-Some.session = sym c.close.ensures.session ∙ c.in-Some.is in
    let executes = c.in-Err-Refused.ensures.refused c.in-Err-Refused.fault (ap Err c.in-Err-Refused.field-0-is) in
    three-ok c.refused.result _ _ _ _
    (λ outbox is_for own sends. begins-refused db c.args.self.now c.close.new.self c.write.new.self c.args.client c.args.number c.args.sql.now c.in-Some.session c.in-Err-Refused.fault outbox c.requires.client is there
    c.close.ensures.closed c.in-Err-Refused.ensures.unchanged executes is_for own sends)
    c.refused.ensures.is_for c.refused.ensures.session c.refused.ensures.sent
