use Rattle.std.proofs.Common.{◌≡◌, Err, sym, ap}
use Rattle.sr_words.specs.declared.command.ClientKind.TheVariants.{Report}
use Rattle.sr_cli.specs.Kinds.{line_fault}
use Rattle.sr_cli.proofs.ClientLemmas.{breaks_for, ends_for, stops_unset, unset_written}
use Rattle.sr_cli.proofs.kinds.run_report.Goals as goal

pub returns-in-Err-clause-stopped : goal.returns-in-Err-clause-stopped
returns-in-Err-clause-stopped g c =
    let files = c.args.files.now in
    let words = c.args.words.now in
    let is = ap (λ k. line_fault k words.id) c.requires.kind in
    rw c.stop_of.ensures
    (stops_unset (g.H.Outside.IsSteady c.args.host.now) files.schema files.script words c.in-Err.no (g.H.Outside.linking c.args.host.now) (g.H.Outside.writing c.args.host.now)
    (λ line place e. rw (is, sym c.as_slice.ensures, sym c.as_slice-2.ensures) (c.in-Err.ensures.line line place (ap Err e)))
    (λ line why e. rw (is, sym c.as_slice.ensures, sym c.as_slice-2.ensures) (c.in-Err.ensures.create line why (ap Err e))))

pub run_new-requires-clause-asks : goal.run_new-requires-clause-asks
run_new-requires-clause-asks g c =
    let asked = c.in-Ok.ensures.asked in
    (asked.0, asked.2)

pub returns-in-Ok-run_new-clause-ends : goal.returns-in-Ok-run_new-clause-ends
returns-in-Ok-run_new-clause-ends g c =
    let files = c.args.files.now in
    let words = c.args.words.now in
    let asked = rw (c.as_slice.ensures, c.as_slice-2.ensures) at c.in-Ok.ensures.asked in
    ends_for files.schema files.script words Report c.in-Ok.set_up.schema asked.0 c.in-Ok-run_new.ending _ _ _ _ c.requires.kind asked.1
    (c.in-Ok-run_new.ensures.ran asked.0 asked.2)

pub returns-clause-stopped : goal.returns-clause-stopped
returns-clause-stopped g c =
    let files = c.args.files.now in
    let words = c.args.words.now in
    let asked = rw (c.as_slice.ensures, c.as_slice-2.ensures) at c.in-Ok.ensures.asked in
    breaks_for files.schema files.script words Report c.in-Ok.set_up.schema asked.0 _ _ _ _ c.requires.kind asked.1
    (c.in-Err-run_new.ensures.broken_off asked.0 asked.2)

pub returns-in-Err-clause-steady_writes : goal.returns-in-Err-clause-steady_writes
returns-in-Err-clause-steady_writes g c = λ steady. rw c.stop_of.ensures (unset_written c.in-Err.no)
