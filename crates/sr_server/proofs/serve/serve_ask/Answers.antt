use Rattle.std.proofs.Common.{◌++◌, ◌∷◌, [], map, ◌∙◌, ap, append_assoc, refl}
use Rattle.sr_message.specs.declared.message.Message.TheVariants as message
use Rattle.sr_session.specs.Sessions.{holding_of, row_messages}
use Rattle.sr_outbox.specs.declared.item.Item.TheVariants.{Reply}
use Rattle.sr_outbox.specs.Left.{messages}
use Rattle.sr_outbox.proofs.Messages.{messages-push}
use Rattle.sr_server.proofs.Serving.{ask-served}
use Rattle.sr_server.proofs.serve.serve_ask.Goals as goal

pub returns : goal.returns
returns c db knows upto =
    let tables = c.args.tables.now in
    let log = c.args.log.now in
    let number = c.args.number in
    let reply = message.Reply number c.version.result in
    let rest = row_messages tables.rows number 0 c.args.parts.now ++ reply ∷ [] in
    let sent = messages tables log c.in_ok-sent.sent in
    ask-served db tables log c.args.session c.before_reply.new.session _ number c.version.result c.args.fresh c.args.parts.now c.subscribe.new.subs sent rest (messages tables log c.push.new.self)
    knows (c.in_ok-sent.ensures.sent db knows.log upto tables) (c.in_ok-sent.ensures.session db knows.log upto) c.session.view_is
    (c.in_ok-subscribe.ensures ∙ ap (λ parts. c.session.inside.subs ++ map (holding_of c.session.inside.wire) parts) c.as_slice-asked.ensures) refl c.version.ensures
    (messages-push tables log c.push_rows.new.items c.push.new.self (Reply number c.version.result) c.in_ok-push.ensures.pushed
    ∙ (ap (λ ms. ms ++ reply ∷ []) (c.in_ok-push_rows.ensures log ∙ ap (λ parts. sent ++ row_messages tables.rows number 0 parts) c.as_slice-asked.ensures)
    ∙ append_assoc sent (row_messages tables.rows number 0 c.args.parts.now) (reply ∷ [])))
