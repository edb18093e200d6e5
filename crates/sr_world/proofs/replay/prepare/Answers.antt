use Rattle.sr_world.specs.declared.replay.RunFault.TheVariants.{WriteFault, Line, Setup, Load}
use Rattle.sr_world.proofs.ReplayLemmas.{read-there, same-fault}
use Rattle.sr_world.proofs.replay.prepare.Goals as goal

-- ---- a CREATE line or a file is refused

pub returns-in-Err-clause-line : goal.returns-in-Err-clause-line
returns-in-Err-clause-line c line place is = absurd (c.in-Err.ensures.refused c.args.clients c.args.script.now c.in-Ok.ensures.lines (Line line place) (same-fault _ _ is))

pub returns-in-Err-clause-setup : goal.returns-in-Err-clause-setup
returns-in-Err-clause-setup c line fault is = c.in-Err.ensures.refused c.args.clients c.args.script.now c.in-Ok.ensures.lines (Setup line fault) (same-fault _ _ is)

pub returns-in-Err-clause-load : goal.returns-in-Err-clause-load
returns-in-Err-clause-load c table fault is = c.in-Err.ensures.refused c.args.clients c.args.script.now c.in-Ok.ensures.lines (Load table fault) (same-fault _ _ is)

pub returns-in-Err-clause-writes_nothing : goal.returns-in-Err-clause-writes_nothing
returns-in-Err-clause-writes_nothing c is = c.in-Err.ensures.refused c.args.clients c.args.script.now c.in-Ok.ensures.lines WriteFault (same-fault _ _ is)

-- ---- the script is read

pub returns-in-Ok-read_events-clause-read : goal.returns-in-Ok-read_events-clause-read
returns-in-Ok-read_events-clause-read c =
    let are = c.in-Ok.ensures.lines in
    read-there _ _ _ _ _ _ c.schema.ensures c.in-Ok-read_events.ensures.read are c.in-Ok.ensures.inside (c.in-Ok-fill_tables.ensures.created c.args.clients c.args.script.now are)
