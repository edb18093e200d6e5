use Rattle.sr_cli.proofs.ReplayEnds.{ended-counts, ended-never, ended-on, ended-quiet, explain-refused}
use Rattle.sr_cli.proofs.explain.explain_read.Goals as goal

pub returns-clause-explained : goal.returns-clause-explained
returns-clause-explained g c = ended-on c.explain-done.result c.end_of.result _ c.end_of.ensures (rw c.as_str.ensures at c.explain-done.ensures.whole)

pub returns-clause-refused : goal.returns-clause-refused
returns-clause-refused g c =
    let done = c.explain-done.ensures in
    explain-refused c.args.words.now c.args.script.now (g.H.Outside.writing c.args.host.now) (g.H.Outside.writing c.explain-done.new.sink) c.explain-done.result c.end_of.result c.end_of.ensures
    (rw c.as_str.ensures at done.part_after_fault) (rw c.as_str.ensures at done.part_in_want) (rw c.as_str.ensures at done.refused) done.line_first

pub returns-clause-counts : goal.returns-clause-counts
returns-clause-counts g c =
    let done = c.explain-done.ensures in
    ended-counts _ g.H.Outside.reading g.H.Outside.writing g.H.Outside.linking c.args.host.now c.explain-done.new.sink c.explain-done.result c.end_of.result c.end_of.ensures done.reading_stays done.linking_stays done.write_fault_is_counted
    done.refused_writes_nothing

pub returns-clause-quiet : goal.returns-clause-quiet
returns-clause-quiet g c =
    let done = c.explain-done.ensures in
    ended-quiet c.explain-done.result c.end_of.result (g.H.Outside.writing c.args.host.now) (g.H.Outside.writing c.explain-done.new.sink) c.end_of.ensures done.ok_keeps_faults done.want_keeps_faults done.refused_writes_nothing

pub returns-clause-steady_writes : goal.returns-clause-steady_writes
returns-clause-steady_writes g c = λ steady. ended-never c.explain-done.result c.end_of.result c.end_of.ensures (c.explain-done.ensures.steady_never_faults steady)
