use Rattle.std.proofs.Common.{sym, ◌∙◌, ap, subst, ◌<◌}
use Rattle.sr_session.specs.Sessions.{Session, due, floor_of}
use Rattle.sr_outbox.specs.declared.item.Item.TheVariants.{Lapse}
use Rattle.sr_outbox.specs.Left.{messages}
use Rattle.sr_outbox.proofs.Messages.{messages-push}
use Rattle.sr_server.proofs.Entries.{bare-now, bare-due, lost-due, lapse-sent, made-of}
use Rattle.sr_server.proofs.due.lapse.Goals as goal

pub returns-then-is_empty-clause-sent : goal.returns-then-is_empty-clause-sent
returns-then-is_empty-clause-sent c db keeps upto tables =
    ap (messages tables c.args.log.now) c.new-sent.ensures
    ∙ sym (ap (λ d. d.sent) (bare-due db c.args.session.now (bare-now c.args.session.now _ c.is_empty.result c.session.view_is c.requires.points c.is_empty.ensures ∙ c.if-is_empty.true)))

pub returns-then-is_empty-clause-session : goal.returns-then-is_empty-clause-session
returns-then-is_empty-clause-session c db keeps upto =
    ap (λ s. record { wire = c.args.session.now.wire; subscription = s; upto = c.args.session.now.upto })
    (sym (ap (λ d. d.subscription) (bare-due db c.args.session.now (bare-now c.args.session.now _ c.is_empty.result c.session.view_is c.requires.points c.is_empty.ensures ∙ c.if-is_empty.true))))

pub returns-clause-sent : goal.returns-clause-sent
returns-clause-sent c db keeps upto tables =
    let below : c.args.session.now.upto < floor_of db = subst (λ f. c.args.session.now.upto < f) keeps.2 c.requires.dropped in
    lapse-sent db c.args.log.now (messages tables c.args.log.now c.new-sent.result) (messages tables c.args.log.now c.push.new.self) c.version.result keeps (ap (messages tables c.args.log.now) c.new-sent.ensures)
    (messages-push tables c.args.log.now c.new-sent.result c.push.new.self (Lapse c.version.result) c.in_ok-push.ensures.pushed) c.version.ensures
    ∙ sym (ap (λ d. d.sent) (lost-due db c.args.session.now (bare-now c.args.session.now _ c.is_empty.result c.session.view_is c.requires.points c.is_empty.ensures ∙ c.if-is_empty.false) below))

pub returns-clause-session : goal.returns-clause-session
returns-clause-session c db keeps upto =
    let below : c.args.session.now.upto < floor_of db = subst (λ f. c.args.session.now.upto < f) keeps.2 c.requires.dropped in
    made-of c.session.inside.wire c.args.session.now.wire c.clear.new.self (due db c.args.session.now).subscription c.session.inside.upto c.args.session.now.upto (ap (λ (s : Session). s.wire) c.session.view_is)
    (c.clear.ensures ∙ sym (ap (λ d. d.subscription) (lost-due db c.args.session.now (bare-now c.args.session.now _ c.is_empty.result c.session.view_is c.requires.points c.is_empty.ensures ∙ c.if-is_empty.false) below)))
    (ap (λ (s : Session). s.upto) c.session.view_is)
