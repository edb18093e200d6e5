use Rattle.std.proofs.Common.{sym, ap, ◌∙◌, arith, drop, ◌+◌}
use Rattle.sr_semi.specs.Keys.{values_behind}
use Rattle.sr_semi.proofs.Looking.{too-many, values-more}
use Rattle.sr_semi.proofs.keys.Keys.of.Goals as goal

pub returns-then-len-most : goal.returns-then-len-most
returns-then-len-most c =
    let rest = drop (c.loop-row.row-index + 1) c.args.rows.now in
    sym (too-many c.args.most c.args.place c.add.new.cells rest _
    (c.loop-row.invariant.values ∙ (values-more c.args.place c.loop-row.cells c.args.rows.now c.loop-row.row-index c.row-item.result c.loop-row-test.true c.row-item.is
    ∙ ap (λ vs. values_behind c.args.place vs rest) (sym c.in_ok-add.ensures)))
    (omega (arith, c.len.ensures, c.if-len-most.true)))
