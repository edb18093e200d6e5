use Rattle.std.proofs.Common.{◌++◌, Err, ap, arith, rules}
use Rattle.sr_io.specs.Told.{Linking}
use Rattle.sr_talk.specs.Rounds.{at_rest}
use Rattle.sr_talk.specs.Serving.{spelled}
use Rattle.sr_talk.specs.Talked.{LeftAs}
use Rattle.sr_talk.proofs.PeerLemmas.{not-last, one-less}
use Rattle.sr_talk.proofs.RoundLemmas.{round, none-made, one-cut-short}
use Rattle.sr_talk.proofs.MoveLemmas.{so-in-err}
use Rattle.sr_talk.proofs.TalkLemmas.{closed-after, some-left}
use Rattle.sr_talk.proofs.rounds.serve_one.Goals as goal

pub returns-clause-round : goal.returns-clause-round
returns-clause-round g c db is =
    let one = c.accept.ensures.faults_never_fall in
    let two = c.serve_connection.ensures.stays.faults_never_fall in
    round g.S.Serves.gives db (g.D.Outside.linking c.args.dock.now) (g.D.Outside.linking c.accept.new.self) (g.D.Outside.linking c.serve_connection.new.link) (g.D.Outside.linking c.hang_up.new.self) c.in_ok-served.served
    (LeftAs c.in_ok-served.served.how (g.S.Serves.is_of c.serve_connection.new.server)) (g.S.Serves.is_of c.cut.new.self) (λ last. c.accept.ensures.none_past_the_last last (search rules)) c.in-Ok.ensures.made (c.in_ok-served.ensures.talked (at_rest db) is)
    (closed-after c.in_ok-served.served.how (g.S.Serves.is_of c.serve_connection.new.server) (g.S.Serves.is_of c.cut.new.self) c.cut.ensures.closed) c.hang_up.ensures.over
    (omega (arith, one, two))

pub cut-requires : goal.cut-requires
cut-requires g c =
    let (db, is) = c.requires.stands in
    let talks = c.in_ok-served.ensures.talked (at_rest db) is in
    record { stands = some-left c.in_ok-served.served.how (g.S.Serves.is_of c.serve_connection.new.server) talks.after talks.stands }

pub returns-clause-steady : goal.returns-clause-steady
returns-clause-steady g c steady more enough =
    let (db, is) = c.requires.stands in
    let talks = c.in_ok-served.ensures.talked (at_rest db) is in
    let made = g.D.Outside.linking c.accept.new.self in (
      c.in_ok-served.ensures.steady_fails_only_down (c.accept.ensures.stays_steady steady) (ap (λ (l : Linking). l.is_up) c.in-Ok.ensures.made),
      one-less c.in_ok-served.served.how c.in_ok-served.served.frames (spelled talks.sent) (spelled talks.frames ++ talks.left) (g.D.Outside.linking c.args.dock.now) made (g.D.Outside.linking c.serve_connection.new.link)
          (g.D.Outside.linking c.hang_up.new.self) more c.in-Ok.ensures.made talks.is c.hang_up.ensures.over enough,
    )

pub returns-in-Err-Refused-clause-steady : goal.returns-in-Err-Refused-clause-steady
returns-in-Err-Refused-clause-steady g c steady more enough =
    absurd (not-last (g.D.Outside.linking c.args.dock.now) more enough (c.accept.ensures.steady_fails_only_past_the_last steady (search rules)))

pub returns-in-Err-NoMemory-clause-in_part : goal.returns-in-Err-NoMemory-clause-in_part
returns-in-Err-NoMemory-clause-in_part g c db is =
    none-made g.S.Serves.gives db (g.D.Outside.linking c.args.dock.now) (g.D.Outside.linking c.accept.new.self) c.in-Err-NoMemory.ensures.unchanged (c.in-Err-NoMemory.ensures.want_keeps_faults (ap Err c.in-Err-NoMemory.field-0-is))

pub returns-in_err-served-clause-in_part : goal.returns-in_err-served-clause-in_part
returns-in_err-served-clause-in_part g c db is =
    so-in-err c.from_residual.result
    (one-cut-short g.S.Serves.gives db (g.D.Outside.linking c.args.dock.now) (g.D.Outside.linking c.accept.new.self) (g.D.Outside.linking c.serve_connection.new.link) (λ last. c.accept.ensures.none_past_the_last last (search rules))
    c.in-Ok.ensures.made (c.in_err-served.ensures.in_part (at_rest db) is))
