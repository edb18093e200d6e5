use Rattle.std.proofs.Common.{◌∙◌, ap}
use Rattle.sr_session.specs.Sessions.{Session, due, newest}
use Rattle.sr_outbox.specs.Left.{messages}
use Rattle.sr_server.proofs.Entries.{some-due-in, some-left-in, newest-is, made-of}
use Rattle.sr_server.proofs.due.due.Goals.{in-Some+in_ok-sent-in-Some, in-None+in_ok-sent-in-None}
use Rattle.sr_server.proofs.due.due.Goals as goal

pub returns-clause-sent : goal.returns-clause-sent
returns-clause-sent c db keeps upto tables = elim c.match-since.branch [
  | in-Some+in_ok-sent-in-Some w ↦
      some-due-in db c.args.log.now c.args.session.now _ w.in-Some.entries.now (messages tables c.args.log.now c.match-since.sent) c.session.view_is keeps upto
      (λ below. let wrong = w.in-Some.ensures.dropped.1 below in absurd (cc)) w.in-Some.ensures.above
      (ap (messages tables c.args.log.now) w.sent-is
      ∙ w.in_ok-sent-in-Some.ensures tables c.args.log.now w.in-Some.ensures.above (λ below. let wrong = w.in-Some.ensures.dropped.1 below in absurd (cc)))
  | in-None+in_ok-sent-in-None w ↦ ap (messages tables c.args.log.now) w.sent-is ∙ w.in_ok-sent-in-None.ensures.sent db keeps upto tables
]

pub returns-clause-session : goal.returns-clause-session
returns-clause-session c db keeps upto =
    made-of c.session-2.inside.wire c.args.session.now.wire c.session-2.inside.subs (due db c.args.session.now).subscription c.version-session-inside.result (newest db)
    (ap (λ (s : Session). s.wire) c.session-2.view_is ∙ elim c.match-since.branch [
      | in-Some+in_ok-sent-in-Some w ↦ ap (λ (s : Session). s.wire) w.session-is
      | in-None+in_ok-sent-in-None w ↦ ap (λ (s : Session). s.wire) w.session-is ∙ ap (λ (s : Session). s.wire) (w.in_ok-sent-in-None.ensures.session db keeps upto)
    ])
    (ap (λ (s : Session). s.subscription) c.session-2.view_is ∙ elim c.match-since.branch [
      | in-Some+in_ok-sent-in-Some w ↦
          ap (λ (s : Session). s.subscription) w.session-is
          ∙ some-left-in db c.args.log.now c.args.session.now _ c.session.view_is keeps (λ below. let wrong = w.in-Some.ensures.dropped.1 below in absurd (cc))
      | in-None+in_ok-sent-in-None w ↦ ap (λ (s : Session). s.subscription) w.session-is ∙ ap (λ (s : Session). s.subscription) (w.in_ok-sent-in-None.ensures.session db keeps upto)
    ])
    (c.version-session-inside.ensures ∙ newest-is db c.args.log.now keeps)
