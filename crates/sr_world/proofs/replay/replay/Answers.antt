use Rattle.std.proofs.Common.{Err, ap, inl, inr, refl}
use Rattle.sr_world.proofs.ReplayLemmas.{Wrote-of, WrotePart-of, same-fault, same-faults}
use Rattle.sr_world.proofs.replay.replay.Goals as goal

-- ---- the script is not run

pub returns-in-Err-clause-part_after_fault : goal.returns-in-Err-clause-part_after_fault
returns-in-Err-clause-part_after_fault g c is = absurd (c.in-Err.ensures.writes_nothing (same-fault _ _ is))

pub returns-in-Err-clause-line : goal.returns-in-Err-clause-line
returns-in-Err-clause-line g c line place is = c.in-Err.ensures.line line place (same-fault _ _ is)

pub returns-in-Err-clause-line_first : goal.returns-in-Err-clause-line_first
returns-in-Err-clause-line_first g c at is = same-faults _ _ _ (c.in-Err.ensures.line_first at is)

pub returns-in-Err-clause-setup : goal.returns-in-Err-clause-setup
returns-in-Err-clause-setup g c line fault is = c.in-Err.ensures.setup line fault (same-fault _ _ is)

pub returns-in-Err-clause-load : goal.returns-in-Err-clause-load
returns-in-Err-clause-load g c table fault is = c.in-Err.ensures.load table fault (same-fault _ _ is)

pub returns-in-Err-clause-write_fault_is_counted : goal.returns-in-Err-clause-write_fault_is_counted
returns-in-Err-clause-write_fault_is_counted g c is = absurd (c.in-Err.ensures.writes_nothing (same-fault _ _ is))

pub returns-in-Err-clause-steady_never_faults : goal.returns-in-Err-clause-steady_never_faults
returns-in-Err-clause-steady_never_faults g c steady is = c.in-Err.ensures.writes_nothing (same-fault _ _ is)

-- ---- it is run

pub returns-in-Ok-run_script-clause-whole : goal.returns-in-Ok-run_script-clause-whole
returns-in-Ok-run_script-clause-whole g c =
    Wrote-of c.args.options _ _ _ _ _ _ _ c.in-Ok.ensures.inside c.in-Ok.ensures.read c.in-Ok.ensures.filled c.in-Ok-run_script.ensures.whole

pub returns-in-Err-Refused-clause-part_after_fault : goal.returns-in-Err-Refused-clause-part_after_fault
returns-in-Err-Refused-clause-part_after_fault g c = λ _.
    WrotePart-of c.args.options _ _ _ _ _ _ c.in-Ok.ensures.inside c.in-Ok.ensures.read c.in-Ok.ensures.filled c.in-Err-Refused.ensures.part

pub returns-in-Err-NoMemory-clause-part_in_want : goal.returns-in-Err-NoMemory-clause-part_in_want
returns-in-Err-NoMemory-clause-part_in_want g c = λ _.
    inr (WrotePart-of c.args.options _ _ _ _ _ _ c.in-Ok.ensures.inside c.in-Ok.ensures.read c.in-Ok.ensures.filled c.in-Err-NoMemory.ensures.part)

pub returns-in-Err-Refused-clause-write_fault_is_counted : goal.returns-in-Err-Refused-clause-write_fault_is_counted
returns-in-Err-Refused-clause-write_fault_is_counted g c = λ _. c.in-Err-Refused.ensures.failed_is_counted (ap Err c.in-Err-Refused.field-0-is)

pub returns-in-Err-Refused-clause-steady_never_faults : goal.returns-in-Err-Refused-clause-steady_never_faults
returns-in-Err-Refused-clause-steady_never_faults g c = λ steady _. c.in-Err-Refused.ensures.steady_never_fails steady (ap Err c.in-Err-Refused.field-0-is)

pub returns-in-Err-clause-part_in_want : goal.returns-in-Err-clause-part_in_want
returns-in-Err-clause-part_in_want g c = λ _. inl refl

pub returns-in-Err-NoMemory-clause-line_first : goal.returns-in-Err-NoMemory-clause-line_first
returns-in-Err-NoMemory-clause-line_first g c = λ at _. inr refl
