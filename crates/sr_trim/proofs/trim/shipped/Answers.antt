use Rattle.std.proofs.Common.{◌≡◌, ◌≤◌, true, length, arith, subst, sym, ◌∙◌}
use Rattle.std.specs.Prelude.{nat_le}
use Rattle.std.specs.List.{list_all}
use Rattle.sr_trim.proofs.Columns.{shipped_more, shipped_all, narrow_at}
use Rattle.sr_trim.proofs.trim.shipped.Goals as goal

pub columns-requires : goal.columns-requires
columns-requires c = let items = c.as_slice-rect-items in
    subst (λ r. length r ≤ 16) (sym c.rect-item.is)
    (narrow_at items.result.now c.loop-rect.rect-index c.rect-item.result (subst (λ rects. list_all (λ r. nat_le (length r) 16) rects ≡ true) (sym items.ensures) c.requires) c.loop-rect-test.true)

pub loop-rect-preserved : goal.loop-rect-preserved
loop-rect-preserved c = λ k.
    shipped_more c.loop-rect.attrs c.both-attrs.result c.columns.result c.loop-rect.rect-index k c.as_slice-rect-items.result.now c.rect-item.result c.loop-rect-test.true c.rect-item.is c.columns.ensures (c.both-attrs.ensures k)
    ∙ c.loop-rect.invariant k

pub returns : goal.returns
returns c = λ k.
    shipped_all c.loop-rect.attrs c.args.need c.loop-rect.rect-index k c.as_slice-rect-items.result.now c.args.rects.now (omega arith) c.as_slice-rect-items.ensures (c.loop-rect.invariant k)
