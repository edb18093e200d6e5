use Rattle.std.proofs.Common.{ap, ◌∙◌, refl, subst, Err, length, ◌≡◌, ◌++◌, List}
use Rattle.std.specs.Prelude.{IfOk}
use Rattle.sr_client.proofs.Results.{if_ok}
use Rattle.sr_message.specs.declared.message.Message.{Message}
use Rattle.sr_session.specs.Sessions.{Database}
use Rattle.sr_server.specs.declared.server.Server.{Server}
use Rattle.sr_server.specs.Outboxes.{left_on}
use Rattle.sr_server.specs.Servers.{IsServer, Takes, session_at}
use Rattle.sr_server.proofs.Taking.{begun-closed, finished-takes}
use Rattle.sr_runs.specs.Lines.{served_line}
use Rattle.sr_world.proofs.GivenLemmas.{begins-schema}
use Rattle.sr_world.proofs.Served.{request-fits}
use Rattle.sr_world.proofs.ServeLemmas.{not-refused}
use Rattle.sr_world.proofs.seat.Seat.hand_over.Goals as goal

pub unreachable-requires : goal.unreachable-requires
unreachable-requires c = not-refused _ c.in-Err-Refused.field-0-0 c.requires.fits ((c.begin.ensures.bad c.in-Err-Refused.field-0-0).0 (c.in-Err-Refused.is ∙ ap Err c.in-Err-Refused.field-0-is))

pub send_answer-requires-clause-client : goal.send_answer-requires-clause-client
send_answer-requires-clause-client c = rw (c.in-Ok.ensures.begun c.requires.stands.0 c.requires.stands.1).is_for c.requires.client

pub send_answer-requires-clause-closed : goal.send_answer-requires-clause-closed
send_answer-requires-clause-closed c =
    let db = c.requires.stands.0 in
    begun-closed db c.args.server.now c.begin.new.self c.args.self.now.client.id c.args.message.now c.in-Ok.outbox c.requires.client c.requires.stands.1 (c.in-Ok.ensures.begun db c.requires.stands.1)

pub send_answer-requires-clause-fits : goal.send_answer-requires-clause-fits
send_answer-requires-clause-fits c = (c.in-Ok.ensures.begun c.requires.stands.0 c.requires.stands.1).fits

pub returns-in_err-frames-in-Ok-clause-schema : goal.returns-in_err-frames-in-Ok-clause-schema
returns-in_err-frames-in-Ok-clause-schema c =
    let (db, is) = c.requires.stands in
    ap (λ (s : Server). s.tables.schema) c.send_answer.ensures.others
    ∙ begins-schema db c.args.server.now c.begin.new.self c.args.self.now.client.id c.args.message.now c.in-Ok.outbox is (c.in-Ok.ensures.begun db is)

pub returns-in_ok-frames-in-Ok-clause-schema : goal.returns-in_ok-frames-in-Ok-clause-schema
returns-in_ok-frames-in-Ok-clause-schema c =
    let (db, is) = c.requires.stands in
    ap (λ (s : Server). s.tables.schema) c.send_answer.ensures.others
    ∙ begins-schema db c.args.server.now c.begin.new.self c.args.self.now.client.id c.args.message.now c.in-Ok.outbox is (c.in-Ok.ensures.begun db is)

pub returns-in_ok-frames-in-Ok-clause-took : goal.returns-in_ok-frames-in-Ok-clause-took
returns-in_ok-frames-in-Ok-clause-took c =
    let old = c.args.self.now in
    let client = old.client.id in
    let outbox = c.in-Ok.outbox in
    let sent : List Message = left_on outbox c.begin.new.self in
    let new : Server = c.send_answer.new.server in
    if_ok
    (λ lines. (sent : List Message) × ((db : Database) → IsServer c.args.server.now db → Takes db c.args.server.now client c.args.message.now sent new)
    × (c.send_answer.new.self ≡ record old { to_client = old.to_client ++ sent }) × (lines ≡ served_line client (length sent) c.args.message.now))
    c.served_line.result (served_line client (length sent) c.args.message.now)
    (subst (λ k. IfOk c.served_line.result (λ lines. lines ≡ served_line client k c.args.message.now)) c.in_ok-frames-in-Ok.ensures.frames c.served_line.ensures) (
      sent,
      (λ db is. finished-takes db c.args.server.now c.begin.new.self new client c.args.message.now outbox sent (c.in-Ok.ensures.begun db is) refl c.in_ok-frames-in-Ok.ensures.put),
      c.in_ok-frames-in-Ok.ensures.sent,
      refl,
    )

pub served_line-requires : goal.served_line-requires
served_line-requires c = record { request = request-fits c.args.server.now.tables.schema (session_at c.args.server.now.sessions c.args.self.now.client.id) c.args.self.now.client.id c.args.message.now c.requires.fits }
