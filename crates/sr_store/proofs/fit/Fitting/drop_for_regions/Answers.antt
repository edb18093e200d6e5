use Rattle.std.proofs.Common.{length, ap, ◌∙◌}
use Rattle.std.specs.Prelude.{nat_lt}
use Rattle.sr_cell.specs.declared.cause.Cause.TheVariants.{Regions}
use Rattle.sr_store.proofs.Views.{one_so_far, all_so_far, above, not_above}
use Rattle.sr_store.proofs.fit.Fitting.drop_for_regions.Goals as goal

pub loop-limits-preserved : goal.loop-limits-preserved
loop-limits-preserved c = λ schema seen.
    let limit = c.args.limits.regions in
    let mid = c.loop-limits.self in
    let so_far = c.loop-limits.invariant schema seen in
    let test = c.are_many.ensures ∙ ap (λ gs. nat_lt limit (length gs)) c.as_slice.ensures in
    one_so_far schema c.args.limits.policy c.args.last.now Regions length limit c.args.self.now mid c.drop_first.new.self so_far
    (above limit (length mid.regions) c.are_many.result test c.loop-limits-test.true) (c.in_ok-drop_first.ensures schema so_far.seen)

pub returns : goal.returns
returns c = λ schema seen.
    let limit = c.args.limits.regions in
    let mid = c.loop-limits.self in
    let test = c.are_many.ensures ∙ ap (λ gs. nat_lt limit (length gs)) c.as_slice.ensures in
    all_so_far schema c.args.limits.policy c.args.last.now Regions length limit c.args.self.now mid (c.loop-limits.invariant schema seen)
    (not_above limit (length mid.regions) c.are_many.result test c.loop-limits-test.false)
