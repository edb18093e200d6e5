use Rattle.std.proofs.Common.{◌∙◌, ◌∷◌, [], ◌++◌, ap, refl}
use Rattle.sr_log.specs.Held.{newest as newest_of}
use Rattle.sr_outbox.specs.Left.{messages}
use Rattle.sr_outbox.proofs.Messages.{messages-push}
use Rattle.sr_server.proofs.Entries.{pushed-closed, pushed-open, newest-is}
use Rattle.sr_server.proofs.due.pushed.Goals.{then-closes+in_ok-push, else-closes}
use Rattle.sr_server.proofs.due.pushed.Goals as goal

pub returns-clause-sent : goal.returns-clause-sent
returns-clause-sent c db keeps upto tables =
    let log = c.args.log.now in
    let first = c.in_ok-sent.ensures.sent db keeps upto tables in
    let closes = c.is_closed_by_notice-closes.ensures db keeps upto in
    elim c.if-closes.branch [
      | then-closes+in_ok-push w ↦
          ap (messages tables log) w.sent-is
          ∙ pushed-closed db c.args.session.now (messages tables log c.in_ok-sent.sent) (messages tables log w.push.new.self) c.is_closed_by_notice-closes.result (newest_of log) [] first closes w.if-closes.true
          (messages-push tables log c.in_ok-sent.sent w.push.new.self w.empty_notice.result w.in_ok-push.ensures.pushed
          ∙ ap (λ m. messages tables log c.in_ok-sent.sent ++ m ∷ []) (w.empty_notice.ensures tables)) (newest-is db log keeps) refl
      | else-closes w ↦
          ap (messages tables log) w.sent-is
          ∙ pushed-open db c.args.session.now (messages tables log c.in_ok-sent.sent) c.is_closed_by_notice-closes.result first closes w.if-closes.false
    ]
