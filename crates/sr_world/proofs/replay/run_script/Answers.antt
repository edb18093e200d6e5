use Rattle.sr_world.proofs.ReplayLemmas.{events-there, fits-first, room-first, same-fault, traced-none, traced-part, traced-whole}
use Rattle.sr_world.proofs.replay.run_script.Goals as goal

pub returns-in-Err-clause-part : goal.returns-in-Err-clause-part
returns-in-Err-clause-part g c = λ events are. traced-none c.args.options _ c.args.tables.rows events _

pub run_events-requires-clause-fits : goal.run_events-requires-clause-fits
run_events-requires-clause-fits g c = fits-first c.args.options _ c.args.lines c.args.tables.rows _ c.in-Ok.ensures.stands c.requires.fits

pub run_events-requires-clause-room : goal.run_events-requires-clause-room
run_events-requires-clause-room g c = room-first _ _ _ c.in-Ok.ensures.drawn c.requires.clients c.requires.few

pub run_events-requires-clause-events : goal.run_events-requires-clause-events
run_events-requires-clause-events g c =
    let events = c.requires.events in
    (events.0, events-there c.args.options _ c.args.lines events.0 c.args.tables.rows _ c.in-Ok.ensures.stands events.1)

pub returns-in-Ok-run_events-clause-whole : goal.returns-in-Ok-run_events-clause-whole
returns-in-Ok-run_events-clause-whole g c = λ events are.
    let stands = c.in-Ok.ensures.stands in
    traced-whole c.args.options _ c.args.tables.rows c.args.lines events _ _ _ _ c.requires.fits.tables are stands c.in-Ok.ensures.eager
    (c.in-Ok-run_events.ensures.whole events (events-there c.args.options _ c.args.lines events c.args.tables.rows _ stands are))

pub returns-in-Err-run_events-clause-part : goal.returns-in-Err-run_events-clause-part
returns-in-Err-run_events-clause-part g c = λ events are.
    let stands = c.in-Ok.ensures.stands in
    traced-part c.args.options _ c.args.tables.rows c.args.lines events _ _ _ c.requires.fits.tables are stands c.in-Ok.ensures.eager
    (c.in-Err-run_events.ensures.part events (events-there c.args.options _ c.args.lines events c.args.tables.rows _ stands are))

pub returns-in-Err-run_events-clause-failed_is_counted : goal.returns-in-Err-run_events-clause-failed_is_counted
returns-in-Err-run_events-clause-failed_is_counted g c is = c.in-Err-run_events.ensures.failed_is_counted (same-fault _ _ is)

pub returns-in-Err-run_events-clause-want_keeps_faults : goal.returns-in-Err-run_events-clause-want_keeps_faults
returns-in-Err-run_events-clause-want_keeps_faults g c is = c.in-Err-run_events.ensures.want_keeps_faults (same-fault _ _ is)

pub returns-in-Err-run_events-clause-steady_never_fails : goal.returns-in-Err-run_events-clause-steady_never_fails
returns-in-Err-run_events-clause-steady_never_fails g c steady is = c.in-Err-run_events.ensures.steady_never_fails steady (same-fault _ _ is)
