use Rattle.std.proofs.Common.{arith}
use Rattle.sr_resolve.proofs.Joining.{join_more, join_refused}
use Rattle.sr_resolve.proofs.joins.joins.Goals as goal

pub loop-i-preserved : goal.loop-i-preserved
loop-i-preserved c =
    let items = c.as_slice-join-items.ensures in (
      join_more c.args.schema.now c.args.tables.now c.loop-i.i c.args.select.now.joins c.join-item.result c.in-Ok.join c.loop-i.joins c.push.new.self _
          (rw items at c.loop-i-test.true) (rw items at c.join-item.is) c.in-Ok.ensures.found c.in_ok-push-in-Ok.ensures.pushed c.loop-i.invariant.0,
      grind (arith, c.requires, c.in-Ok.ensures.within),
    )

pub returns-in-Err : goal.returns-in-Err
returns-in-Err c =
    let items = c.as_slice-join-items.ensures in
    join_refused c.args.schema.now c.args.tables.now c.loop-i.i c.args.select.now.joins c.join-item.result c.in-Err.fault c.loop-i.joins _
    (rw items at c.loop-i-test.true) (rw items at c.join-item.is) (c.in-Err.ensures.refused c.in-Err.fault cc) c.loop-i.invariant.0
