use Rattle.std.proofs.Common.{Err, ap, ◌∙◌, sym, subst}
use Rattle.sr_io.specs.Causes.{Rose}
use Rattle.sr_io.specs.Pieces.{WritesPrefix}
use Rattle.sr_io.specs.Told.{Writing}
use Rattle.sr_talk.specs.Serving.{listening}
use Rattle.sr_talk.specs.declared.rounds.Ending.TheVariants.{Faulty, Unwritten}
use Rattle.sr_serve.specs.Runs.{Ran, RanInPart}
use Rattle.sr_serve.proofs.RunLemmas.{undocked, undocked-short, unheard, unheard-short, same-ending}
use Rattle.sr_serve.proofs.serve.listen.Goals as goal

pub returns-in-Err-Refused-clause-ran : goal.returns-in-Err-Refused-clause-ran
returns-in-Err-Refused-clause-ran g c = λ ending is db texts count.
    let rose : Rose (g.H.Outside.linking c.args.host.now).faults (g.H.Outside.linking c.dock.new.self).faults = c.in-Err-Refused.ensures.failed_is_counted (ap Err c.in-Err-Refused.field-0-is) in
    subst (λ e. Ran db texts c.args.address.now count e (g.H.Outside.linking c.args.host.now) (g.H.Outside.linking c.dock.new.self) (g.H.Outside.writing c.args.host.now) (g.H.Outside.writing c.dock.new.self))
    (same-ending Faulty ending is)
    (undocked db texts c.args.address.now count (g.H.Outside.linking c.args.host.now) (g.H.Outside.linking c.dock.new.self) (g.H.Outside.writing c.args.host.now)
    (g.H.Outside.writing c.dock.new.self) c.in-Err-Refused.ensures.unchanged rose c.dock.ensures.writing_stays)

pub returns-in-Err-Refused-write_all-clause-ran : goal.returns-in-Err-Refused-write_all-clause-ran
returns-in-Err-Refused-write_all-clause-ran g c = λ ending is db texts count.
    let link = c.write_all.ensures.linking_stays ∙ c.in-Ok.ensures.docked in
    let rose : Rose (g.H.Outside.writing c.dock.new.self).faults (g.H.Outside.writing c.write_all.new.sink).faults = c.in-Err-Refused-write_all.ensures.failed_is_counted (ap Err c.in-Err-Refused-write_all.field-0-is) in
    subst (λ e. Ran db texts c.args.address.now count e (g.H.Outside.linking c.args.host.now) (g.H.Outside.linking c.write_all.new.sink) (g.H.Outside.writing c.args.host.now) (g.H.Outside.writing c.write_all.new.sink))
    (same-ending Unwritten ending is)
    (subst (λ l. Ran db texts c.args.address.now count Unwritten (g.H.Outside.linking c.args.host.now) l (g.H.Outside.writing c.args.host.now) (g.H.Outside.writing c.write_all.new.sink)) (sym link)
    (unheard db texts c.args.address.now count (g.H.Outside.linking c.args.host.now) (g.H.Outside.writing c.args.host.now) (g.H.Outside.writing c.write_all.new.sink)
    (subst (λ (w : Writing). WritesPrefix w.written (g.H.Outside.writing c.write_all.new.sink).written listening) c.dock.ensures.writing_stays c.write_all.ensures.prefix)
    (subst (λ (w : Writing). Rose w.faults (g.H.Outside.writing c.write_all.new.sink).faults) c.dock.ensures.writing_stays rose)))

pub returns-in-Err-Refused-clause-steady : goal.returns-in-Err-Refused-clause-steady
returns-in-Err-Refused-clause-steady g c steady ending is = absurd (c.in-Err-Refused.ensures.steady_never_fails steady (ap Err c.in-Err-Refused.field-0-is))

pub returns-in-Err-Refused-write_all-clause-steady : goal.returns-in-Err-Refused-write_all-clause-steady
returns-in-Err-Refused-write_all-clause-steady g c steady ending is = absurd (c.in-Err-Refused-write_all.ensures.steady_never_fails (c.dock.ensures.stays_steady steady) (ap Err c.in-Err-Refused-write_all.field-0-is))

pub returns-in-Err-NoMemory-clause-in_part : goal.returns-in-Err-NoMemory-clause-in_part
returns-in-Err-NoMemory-clause-in_part g c = λ is db texts count.
    undocked-short db texts c.args.address.now count (g.H.Outside.linking c.args.host.now) (g.H.Outside.linking c.dock.new.self) (g.H.Outside.writing c.args.host.now)
    (g.H.Outside.writing c.dock.new.self) c.in-Err-NoMemory.ensures.unchanged (c.in-Err-NoMemory.ensures.want_keeps_faults (ap Err c.in-Err-NoMemory.field-0-is)) c.dock.ensures.writing_stays

pub returns-in-Err-NoMemory-write_all-clause-in_part : goal.returns-in-Err-NoMemory-write_all-clause-in_part
returns-in-Err-NoMemory-write_all-clause-in_part g c = λ is db texts count.
    subst (λ l. RanInPart db texts c.args.address.now count (g.H.Outside.linking c.args.host.now) l (g.H.Outside.writing c.args.host.now) (g.H.Outside.writing c.write_all.new.sink)) (sym (c.write_all.ensures.linking_stays ∙ c.in-Ok.ensures.docked))
    (unheard-short db texts c.args.address.now count (g.H.Outside.linking c.args.host.now) (g.H.Outside.writing c.args.host.now) (g.H.Outside.writing c.write_all.new.sink)
    (subst (λ (w : Writing). WritesPrefix w.written (g.H.Outside.writing c.write_all.new.sink).written listening) c.dock.ensures.writing_stays c.write_all.ensures.prefix)
    (c.in-Err-NoMemory-write_all.ensures.want_keeps_faults (ap Err c.in-Err-NoMemory-write_all.field-0-is) ∙ ap (λ (w : Writing). w.faults) c.dock.ensures.writing_stays))
