use Rattle.sr_condition.proofs.Constrained.{rect-step, rect-end}
use Rattle.sr_condition.proofs.rects.rect_with.Goals as goal

pub loop-i-preserved : goal.loop-i-preserved
loop-i-preserved c =
    rect-step c.args.columns.now c.args.column c.loop-i.i c.args.span.now c.in_ok-span_at.field-0 c.loop-i.rect c.push.new.self
    c.loop-i-test.true c.loop-i.invariant c.in_ok-span_at.ensures c.in_ok-push.ensures.pushed

pub returns : goal.returns
returns c = rect-end c.args.columns.now c.args.column c.loop-i.i c.args.span.now c.loop-i.rect c.loop-i-test.false c.loop-i.invariant
