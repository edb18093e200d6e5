use Rattle.sr_condition.proofs.Tested.{outside-step}
use Rattle.sr_condition.proofs.Runs.{between-spans}
use Rattle.sr_condition.proofs.spans.outside.Goals as goal

pub loop-value-preserved : goal.loop-value-preserved
loop-value-preserved c =
    outside-step c.args.column.now c.args.values.now c.loop-value.value-index c.value-item.result c.loop-value.spans c.in_ok-spans-2.spans c.in_ok-part.part
    c.requires.good c.loop-value-test.true c.value-item.is c.in_ok-spans-2.ensures c.loop-value.invariant c.in_ok-part.ensures

pub returns : goal.returns
returns c =
    between-spans c.args.column.now c.args.values.now c.loop-value.value-index c.loop-value.spans c.loop-value.auto.value-index-end c.loop-value-test.false c.loop-value.invariant
