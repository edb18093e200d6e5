use Rattle.std.proofs.Common.{◌≡◌, ◌⊎◌, ℕ, List, inl, inr, refl}
use Rattle.std.specs.Prelude.{IsErrOf, Result}
use Rattle.sr_cell.specs.declared.fault.Fault.{Fault}
use Rattle.sr_io.specs.Told.{Writing}
use Rattle.sr_world.specs.declared.world.World.{World}
use Rattle.sr_cell.specs.declared.list.No.{No}
use Rattle.sr_cell.specs.declared.list.No.TheVariants.{Refused}
use Rattle.sr_world.specs.declared.replay.RunFault.{RunFault}
use Rattle.sr_world.specs.declared.replay.RunFault.TheVariants.{WriteFault, Line, Setup, Load}
use Rattle.sr_world.specs.Replay.{Wrote}
use Rattle.sr_cli.proofs.ReplayEnds.{ended-counts, ended-never, ended-ok, ended-quiet, replay-refused}
use Rattle.sr_cli.proofs.replay.replay_read.Goals as goal

pub returns-clause-replayed : goal.returns-clause-replayed
returns-clause-replayed g c =
    ended-ok c.replay-done.result c.end_of.result
    (Wrote (g.H.Outside.writing c.args.host.now).written (g.H.Outside.writing c.replay-done.new.sink).written c.args.options c.args.files.now.script c.args.files.now.loads)
    c.end_of.ensures (rw (c.as_slice.ensures, c.as_slice-2.ensures) at c.replay-done.ensures.whole)

pub returns-clause-refused : goal.returns-clause-refused
returns-clause-refused g c =
    let done = c.replay-done.ensures in
    replay-refused c.args.options c.args.files.now.script c.args.files.now.loads (g.H.Outside.writing c.args.host.now) (g.H.Outside.writing c.replay-done.new.sink) c.replay-done.result c.end_of.result c.end_of.ensures
    (rw (c.as_slice.ensures, c.as_slice-2.ensures) at done.part_after_fault) (rw (c.as_slice.ensures, c.as_slice-2.ensures) at done.part_in_want) (rw c.as_slice.ensures at done.line) (rw c.as_slice.ensures at done.line_first)
    (rw c.as_slice.ensures at done.setup) (rw (c.as_slice.ensures, c.as_slice-2.ensures) at done.load)

nothing : (f : RunFault) (before after : Writing) (result : Result World (No RunFault)) → ((line place : ℕ) → IsErrOf result (Refused (Line line place)) → after ≡ before) → ((line : ℕ) (why : Fault) → IsErrOf result (Refused (Setup line why)) → after ≡ before)
    → ((table : List ℕ) (why : Fault) → IsErrOf result (Refused (Load table why)) → after ≡ before) → IsErrOf result (Refused f) → (f ≡ WriteFault) ⊎ (after ≡ before)
nothing WriteFault before after result line setup load is = inl refl
nothing (Line at place) before after result line setup load is = inr (line at place is)
nothing (Setup at why) before after result line setup load is = inr (setup at why is)
nothing (Load table why) before after result line setup load is = inr (load table why is)

pub returns-clause-counts : goal.returns-clause-counts
returns-clause-counts g c =
    let done = c.replay-done.ensures in
    ended-counts _ g.H.Outside.reading g.H.Outside.writing g.H.Outside.linking c.args.host.now c.replay-done.new.sink c.replay-done.result c.end_of.result c.end_of.ensures done.reading_stays done.linking_stays done.write_fault_is_counted
    (λ f is. nothing f (g.H.Outside.writing c.args.host.now) (g.H.Outside.writing c.replay-done.new.sink) c.replay-done.result done.line_writes_nothing done.setup_writes_nothing done.load_writes_nothing is)

pub returns-clause-quiet : goal.returns-clause-quiet
returns-clause-quiet g c =
    let done = c.replay-done.ensures in
    ended-quiet c.replay-done.result c.end_of.result (g.H.Outside.writing c.args.host.now) (g.H.Outside.writing c.replay-done.new.sink) c.end_of.ensures done.ok_keeps_faults done.want_keeps_faults
    (λ f is. nothing f (g.H.Outside.writing c.args.host.now) (g.H.Outside.writing c.replay-done.new.sink) c.replay-done.result done.line_writes_nothing done.setup_writes_nothing done.load_writes_nothing is)

pub returns-clause-steady_writes : goal.returns-clause-steady_writes
returns-clause-steady_writes g c = λ steady. ended-never c.replay-done.result c.end_of.result c.end_of.ensures (c.replay-done.ensures.steady_never_faults steady)
