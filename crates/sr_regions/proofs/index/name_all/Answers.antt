use Rattle.std.proofs.Common.{arith}
use Rattle.sr_regions.proofs.Places.{there-below}
use Rattle.sr_regions.proofs.Telling.{regions-next}
use Rattle.sr_regions.proofs.index.name_all.Goals as goal

pub loop-number-preserved : goal.loop-number-preserved
loop-number-preserved c =
    regions-next c.loop-number.index c.add_names.new.index c.args.regions.now c.loop-number.number c.index-regions-number.result c.index-regions-number.is c.add_names.ensures.stays
    c.loop-number.invariant c.in_ok-add_names.ensures.added

pub returns : goal.returns
returns c = λ n g there.
    let below = there-below c.args.regions.now n g there in
    let done = c.loop-number-test.false in
    c.loop-number.invariant n g (omega (arith, below, done)) there
