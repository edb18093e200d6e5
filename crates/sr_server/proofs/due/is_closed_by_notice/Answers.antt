use Rattle.std.proofs.Common.{refl}
use Rattle.sr_server.proofs.Entries.{none-closes, some-closes, dropped-closes}
use Rattle.sr_server.proofs.due.is_closed_by_notice.Goals as goal

pub returns-then-session-version : goal.returns-then-session-version
returns-then-session-version c db keeps upto =
    none-closes db c.args.log.now c.args.session.now _ c.version.result c.session.view_is keeps c.version.ensures c.if-session-version.true

pub returns-in-Some : goal.returns-in-Some
returns-in-Some c db keeps upto =
    some-closes db c.args.log.now c.args.session.now _ c.in-Some.entries.now c.is_last_told.result c.version.result c.session.view_is keeps
    (λ below. let wrong = c.in-Some.ensures.dropped.1 below in absurd (cc)) c.version.ensures c.if-session-version.false c.in-Some.ensures.above c.is_last_told.ensures

pub returns-in-None : goal.returns-in-None
returns-in-None c db keeps upto =
    dropped-closes db c.args.log.now c.args.session.now _ c.is_empty.result c.version.result c.session.view_is keeps
    (c.in-None.ensures.dropped.0 refl) c.version.ensures c.if-session-version.false c.requires.points c.is_empty.ensures
