use Rattle.std.proofs.Common.{◌≡◌, ◌+◌, ◌-◌, ◌<◌, ◌∙◌, Err, refl, sym, ap, subst, arith, rules}
use Rattle.std.specs.Prelude.{◌||◌}
use Rattle.std.specs.Io.KnownBytes.{Appends}
use Rattle.sr_io.specs.Causes.{Rose}
use Rattle.sr_io.specs.Pieces.{WritesPrefix}
use Rattle.sr_io.specs.Told.{Writing}
use Rattle.sr_talk.specs.Rounds.{EndsBy, HasPeers, RoundsIf, ServesPeer}
use Rattle.sr_talk.specs.Serving.{by_fault, connection_line}
use Rattle.sr_talk.proofs.PeerLemmas.{still-none}
use Rattle.sr_talk.proofs.SomeLemmas.{ServedSome, some-start, more-served, next-cut-short, line-cut-short, none-more, none-written, unwritten, all-served}
use Rattle.sr_talk.proofs.MoveLemmas.{so-in-err}
use Rattle.sr_talk.proofs.rounds.serve_some.Goals as goal

pub loop-done-init : goal.loop-done-init
loop-done-init g c = some-start g.S.Serves.gives _ _ g.H.Outside.reading g.H.Outside.writing g.H.Outside.linking g.H.Outside.held g.H.Outside.complaints g.H.Outside.IsSteady g.S.Serves.is_of g.S.Serves.room _ _

pub returns-in-None-clause-ending : goal.returns-in-None-clause-ending
returns-in-None-clause-ending g c db is =
    let h = c.loop-done.invariant.so_far db is in
    none-more g.S.Serves.gives db c.args.count (g.H.Outside.linking c.args.host.now) (g.H.Outside.linking c.loop-done.host) (g.H.Outside.linking c.serve_one.new.dock) (g.H.Outside.writing c.args.host.now)
    (g.H.Outside.writing c.loop-done.host) (g.H.Outside.writing c.serve_one.new.dock) c.loop-done.done c.loop-done.faulty (g.S.Serves.is_of c.loop-done.server) (g.S.Serves.is_of c.serve_one.new.server) (search rules) h
    (subst (λ round. RoundsIf g.S.Serves.gives round h.many.last (g.H.Outside.linking c.loop-done.host) (g.H.Outside.linking c.serve_one.new.dock) (g.S.Serves.is_of c.serve_one.new.server)) c.in-None.is
    (c.in_ok-served.ensures.round h.many.last h.many.stands))
    c.serve_one.ensures.stays.writing_stays

pub returns-in-Err-Refused-clause-ending : goal.returns-in-Err-Refused-clause-ending
returns-in-Err-Refused-clause-ending g c db is =
    let h = c.loop-done.invariant.so_far db is in
    let r = subst (λ round. RoundsIf g.S.Serves.gives round h.many.last (g.H.Outside.linking c.loop-done.host) (g.H.Outside.linking c.serve_one.new.dock) (g.S.Serves.is_of c.serve_one.new.server)) c.in-Some.is
    (c.in_ok-served.ensures.round h.many.last h.many.stands) in
    let bytes : c.as_bytes.result.now ≡ connection_line (c.loop-done.done + 1) c.in-Some.served.how c.in-Some.served.frames = search rules in
    let rose : Rose (g.H.Outside.writing c.serve_one.new.dock).faults (g.H.Outside.writing c.write_all.new.sink).faults = search rules in
    unwritten g.S.Serves.gives db (g.H.Outside.linking c.args.host.now) (g.H.Outside.linking c.loop-done.host) (g.H.Outside.linking c.serve_one.new.dock) (g.H.Outside.writing c.args.host.now) (g.H.Outside.writing c.loop-done.host)
    c.loop-done.done c.in-Some.served (g.S.Serves.is_of c.loop-done.server) (g.S.Serves.is_of c.serve_one.new.server) c.args.count (g.H.Outside.writing c.write_all.new.sink) c.loop-done.faulty
    (g.H.Outside.linking c.write_all.new.sink) (search rules) h r
    (subst (λ b. WritesPrefix (g.H.Outside.writing c.loop-done.host).written (g.H.Outside.writing c.write_all.new.sink).written b) bytes
    (subst (λ (w : Writing). WritesPrefix w.written (g.H.Outside.writing c.write_all.new.sink).written c.as_bytes.result.now) c.serve_one.ensures.stays.writing_stays c.write_all.ensures.prefix))
    (subst (λ (w : Writing). Rose w.faults (g.H.Outside.writing c.write_all.new.sink).faults) c.serve_one.ensures.stays.writing_stays rose)
    c.write_all.ensures.linking_stays

pub loop-done-preserved : goal.loop-done-preserved
loop-done-preserved g c = record {
  so_far = λ db is.
      let h = c.loop-done.invariant.so_far db is in
      let r = subst (λ round. RoundsIf g.S.Serves.gives round h.many.last (g.H.Outside.linking c.loop-done.host) (g.H.Outside.linking c.serve_one.new.dock) (g.S.Serves.is_of c.serve_one.new.server)) c.in-Some.is
      (c.in_ok-served.ensures.round h.many.last h.many.stands) in
      let bytes : c.as_bytes.result.now ≡ connection_line (c.loop-done.done + 1) c.in-Some.served.how c.in-Some.served.frames = search rules in
      let line = subst (λ (w : Writing). Appends w.written (g.H.Outside.writing c.write_all.new.sink).written c.as_bytes.result.now) c.serve_one.ensures.stays.writing_stays c.in-Ok.ensures.whole in
      let faults = c.in-Ok.ensures.ok_keeps_faults ∙ ap (λ (w : Writing). w.faults) c.serve_one.ensures.stays.writing_stays in
      let more = more-served g.S.Serves.gives db (g.H.Outside.linking c.args.host.now) (g.H.Outside.linking c.loop-done.host) (g.H.Outside.linking c.serve_one.new.dock) (g.H.Outside.writing c.args.host.now)
      (g.H.Outside.writing c.loop-done.host) c.loop-done.done c.in-Some.served (g.S.Serves.is_of c.loop-done.server) (g.S.Serves.is_of c.serve_one.new.server) (g.H.Outside.writing c.write_all.new.sink) c.loop-done.faulty h r
      (subst (λ b. Appends (g.H.Outside.writing c.loop-done.host).written (g.H.Outside.writing c.write_all.new.sink).written b) bytes line) faults in
      subst (λ b. ServedSome g.S.Serves.gives db (g.H.Outside.linking c.args.host.now) (g.H.Outside.linking c.write_all.new.sink) (g.H.Outside.writing c.args.host.now) (g.H.Outside.writing c.write_all.new.sink)
      (c.loop-done.done + 1) b (g.S.Serves.is_of c.serve_one.new.server)) (sym c.has_failed-faulty.ensures)
      (subst (λ l. ServedSome g.S.Serves.gives db (g.H.Outside.linking c.args.host.now) l (g.H.Outside.writing c.args.host.now) (g.H.Outside.writing c.write_all.new.sink)
      (c.loop-done.done + 1) (c.loop-done.faulty || by_fault c.in-Some.served.how) (g.S.Serves.is_of c.serve_one.new.server)) (sym c.write_all.ensures.linking_stays) more);
  draws = (let before = c.loop-done.invariant.draws in let one = c.serve_one.ensures.draws in omega (arith, before, one));
  stays = record {
    stays_steady = λ s. c.write_all.ensures.stays_steady (c.serve_one.ensures.stays.stays_steady (c.loop-done.invariant.stays.stays_steady s));
    reading_stays = c.write_all.ensures.reading_stays ∙ (c.serve_one.ensures.stays.reading_stays ∙ c.loop-done.invariant.stays.reading_stays);
    held_stays = c.write_all.ensures.held_stays ∙ (c.serve_one.ensures.stays.held_stays ∙ c.loop-done.invariant.stays.held_stays);
    complaints_stay = c.write_all.ensures.complaints_stay ∙ (c.serve_one.ensures.stays.complaints_stay ∙ c.loop-done.invariant.stays.complaints_stay);
  };
  links = λ steady more enough.
      let one : (c.loop-done.done + 1) + more ≡ c.loop-done.done + (more + 1) = omega arith in
      let before = c.loop-done.invariant.links steady (more + 1) (subst (λ n. HasPeers n (g.H.Outside.linking c.args.host.now)) one enough) in
      let serves = subst (λ round. ServesPeer round more (g.H.Outside.linking c.serve_one.new.dock)) c.in-Some.is
      (c.in_ok-served.ensures.steady (c.loop-done.invariant.stays.stays_steady steady) more before.1) in (
        c.has_failed-faulty.ensures ∙ still-none c.loop-done.faulty c.in-Some.served.how before.0 serves.0,
        subst (λ l. HasPeers more l) (sym c.write_all.ensures.linking_stays) serves.1,
      );
}

pub returns-clause-ending : goal.returns-clause-ending
returns-clause-ending g c db is =
    let h = c.loop-done.invariant.so_far db is in
    let all : c.loop-done.done ≡ c.args.count = search rules in
    subst (λ ending. EndsBy g.S.Serves.gives ending db c.args.count (g.H.Outside.linking c.args.host.now) (g.H.Outside.linking c.loop-done.host) (g.H.Outside.writing c.args.host.now) (g.H.Outside.writing c.loop-done.host)
    (g.S.Serves.is_of c.loop-done.server)) (sym c.ending_of.ensures)
    (all-served g.S.Serves.gives db c.args.count (g.H.Outside.linking c.args.host.now) (g.H.Outside.linking c.loop-done.host) (g.H.Outside.writing c.args.host.now) (g.H.Outside.writing c.loop-done.host) c.loop-done.faulty
    (g.S.Serves.is_of c.loop-done.server)
    (subst (λ n. ServedSome g.S.Serves.gives db (g.H.Outside.linking c.args.host.now) (g.H.Outside.linking c.loop-done.host) (g.H.Outside.writing c.args.host.now) (g.H.Outside.writing c.loop-done.host) n c.loop-done.faulty
    (g.S.Serves.is_of c.loop-done.server)) all h))

pub returns-in-None-clause-steady_links : goal.returns-in-None-clause-steady_links
returns-in-None-clause-steady_links g c steady enough =
    let below : c.loop-done.done < c.args.count = search rules in
    let more = c.args.count - (c.loop-done.done + 1) in
    let all : c.args.count ≡ c.loop-done.done + (more + 1) = omega (arith, below) in
    let before = c.loop-done.invariant.links steady (more + 1) (subst (λ n. HasPeers n (g.H.Outside.linking c.args.host.now)) all enough) in
    absurd (subst (λ round. ServesPeer round more (g.H.Outside.linking c.serve_one.new.dock)) c.in-None.is
    (c.in_ok-served.ensures.steady (c.loop-done.invariant.stays.stays_steady steady) more before.1))

pub returns-clause-steady_links : goal.returns-clause-steady_links
returns-clause-steady_links g c steady enough =
    let all : c.loop-done.done ≡ c.args.count = search rules in
    let none = c.loop-done.invariant.links steady 0 (subst (λ n. HasPeers n (g.H.Outside.linking c.args.host.now)) (sym all ∙ omega arith) enough) in
    rw (c.ending_of.ensures, none.0) (λ is. absurd (cc))

pub returns-in-Err-Refused-clause-steady_writes : goal.returns-in-Err-Refused-clause-steady_writes
returns-in-Err-Refused-clause-steady_writes g c steady =
    absurd (c.write_all.ensures.steady_never_fails (c.serve_one.ensures.stays.stays_steady (c.loop-done.invariant.stays.stays_steady steady)) (search rules))

pub returns-in_err-served-clause-in_part : goal.returns-in_err-served-clause-in_part
returns-in_err-served-clause-in_part g c db is =
    let h = c.loop-done.invariant.so_far db is in
    so-in-err c.from_residual.result
    (next-cut-short g.S.Serves.gives db c.args.count (g.H.Outside.linking c.args.host.now) (g.H.Outside.linking c.loop-done.host) (g.H.Outside.linking c.serve_one.new.dock) (g.H.Outside.writing c.args.host.now)
    (g.H.Outside.writing c.loop-done.host) (g.H.Outside.writing c.serve_one.new.dock) c.loop-done.done c.loop-done.faulty (g.S.Serves.is_of c.loop-done.server) (search rules) h (c.in_err-served.ensures.in_part h.many.last h.many.stands)
    c.serve_one.ensures.stays.writing_stays)

pub returns-in_err-line-clause-in_part : goal.returns-in_err-line-clause-in_part
returns-in_err-line-clause-in_part g c db is =
    let h = c.loop-done.invariant.so_far db is in
    let r = subst (λ round. RoundsIf g.S.Serves.gives round h.many.last (g.H.Outside.linking c.loop-done.host) (g.H.Outside.linking c.serve_one.new.dock) (g.S.Serves.is_of c.serve_one.new.server)) c.in-Some.is
    (c.in_ok-served.ensures.round h.many.last h.many.stands) in
    so-in-err c.from_residual-in_err-line.result
    (line-cut-short g.S.Serves.gives db (g.H.Outside.linking c.args.host.now) (g.H.Outside.linking c.loop-done.host) (g.H.Outside.linking c.serve_one.new.dock) (g.H.Outside.writing c.args.host.now) (g.H.Outside.writing c.loop-done.host)
    c.loop-done.done c.in-Some.served (g.S.Serves.is_of c.loop-done.server) (g.S.Serves.is_of c.serve_one.new.server) c.args.count (g.H.Outside.writing c.serve_one.new.dock) c.loop-done.faulty
    (g.H.Outside.linking c.serve_one.new.dock) (search rules) h r
    (subst (λ (w : Writing). WritesPrefix w.written (g.H.Outside.writing c.serve_one.new.dock).written (connection_line (c.loop-done.done + 1) c.in-Some.served.how c.in-Some.served.frames)) c.serve_one.ensures.stays.writing_stays
    (none-written (g.H.Outside.writing c.serve_one.new.dock).written (connection_line (c.loop-done.done + 1) c.in-Some.served.how c.in-Some.served.frames)))
    (ap (λ (w : Writing). w.faults) c.serve_one.ensures.stays.writing_stays) refl)

pub returns-in-Err-NoMemory-clause-in_part : goal.returns-in-Err-NoMemory-clause-in_part
returns-in-Err-NoMemory-clause-in_part g c db is =
    let h = c.loop-done.invariant.so_far db is in
    let r = subst (λ round. RoundsIf g.S.Serves.gives round h.many.last (g.H.Outside.linking c.loop-done.host) (g.H.Outside.linking c.serve_one.new.dock) (g.S.Serves.is_of c.serve_one.new.server)) c.in-Some.is
    (c.in_ok-served.ensures.round h.many.last h.many.stands) in
    let bytes : c.as_bytes.result.now ≡ connection_line (c.loop-done.done + 1) c.in-Some.served.how c.in-Some.served.frames = search rules in
    line-cut-short g.S.Serves.gives db (g.H.Outside.linking c.args.host.now) (g.H.Outside.linking c.loop-done.host) (g.H.Outside.linking c.serve_one.new.dock) (g.H.Outside.writing c.args.host.now) (g.H.Outside.writing c.loop-done.host)
    c.loop-done.done c.in-Some.served (g.S.Serves.is_of c.loop-done.server) (g.S.Serves.is_of c.serve_one.new.server) c.args.count (g.H.Outside.writing c.write_all.new.sink) c.loop-done.faulty
    (g.H.Outside.linking c.write_all.new.sink) (search rules) h r
    (subst (λ b. WritesPrefix (g.H.Outside.writing c.loop-done.host).written (g.H.Outside.writing c.write_all.new.sink).written b) bytes
    (subst (λ (w : Writing). WritesPrefix w.written (g.H.Outside.writing c.write_all.new.sink).written c.as_bytes.result.now) c.serve_one.ensures.stays.writing_stays c.write_all.ensures.prefix))
    (c.in-Err-NoMemory.ensures.want_keeps_faults (ap Err c.in-Err-NoMemory.field-0-is) ∙ ap (λ (w : Writing). w.faults) c.serve_one.ensures.stays.writing_stays)
    c.write_all.ensures.linking_stays
