use Rattle.std.proofs.Common.{◌≡◌}
use Rattle.sr_cell.specs.declared.list.No.TheVariants.{Refused, NoMemory as Wanting}
use Rattle.sr_io.specs.declared.whole.ReadAll.TheVariants.{ReadFault, TooLong}
use Rattle.sr_io.proofs.SoFar.{Lost-behind, Lost-exactly}
use Rattle.sr_io.proofs.whole.read_all.Goals as goal

pub returns-in-Err-clause-too_long : goal.returns-in-Err-clause-too_long
returns-in-Err-clause-too_long g c =
    λ is. let e : c.in-Err.no ≡ Refused TooLong = cc in
    Lost-exactly _ _ _ c.loop-more.bytes _ c.loop-more.invariant.consumed (c.in-Err.ensures.too_long (cc))

pub returns-in-Err-clause-lost : goal.returns-in-Err-clause-lost
returns-in-Err-clause-lost g c = Lost-behind _ _ _ c.loop-more.bytes _ c.loop-more.invariant.consumed c.in-Err.ensures.lost

pub returns-in-Err-clause-fault_within_limit : goal.returns-in-Err-clause-fault_within_limit
returns-in-Err-clause-fault_within_limit g c =
    λ is. let e : c.in-Err.no ≡ Refused ReadFault = cc in
    Lost-behind _ _ _ c.loop-more.bytes _ c.loop-more.invariant.consumed (c.in-Err.ensures.fault_within_limit (cc))

pub returns-in-Err-clause-want_within_limit : goal.returns-in-Err-clause-want_within_limit
returns-in-Err-clause-want_within_limit g c =
    λ is. let e : c.in-Err.no ≡ Wanting = cc in
    Lost-behind _ _ _ c.loop-more.bytes _ c.loop-more.invariant.consumed (c.in-Err.ensures.want_within_limit (cc))
