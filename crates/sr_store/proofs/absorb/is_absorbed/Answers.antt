use Rattle.std.proofs.Common.{true, false, ◌∙◌, subst, take_all}
use Rattle.sr_cell.specs.Columns.{table_at}
use Rattle.sr_union.specs.Pieces.{IsWithin}
use Rattle.sr_union.proofs.Free.{outside_more}
use Rattle.sr_union.proofs.Searching.{decided, fits_items, within_more}
use Rattle.sr_store.specs.Making.{wider_both}
use Rattle.sr_store.proofs.absorb.is_absorbed.Goals as goal

pub is_covered-requires-clause-fits : goal.is_covered-requires-clause-fits
is_covered-requires-clause-fits c =
    let g = c.args.region.now in
    fits_items (table_at c.args.schema.now g.table).columns g.rects c.as_slice-rect-items.result.now c.loop-rect.rect-index c.rect-item.result c.requires.region.1.area.fit
    c.as_slice-rect-items.ensures c.loop-rect-test.true c.rect-item.is

pub loop-rect-preserved : goal.loop-rect-preserved
loop-rect-preserved c =
    let g = c.args.region.now in
    within_more (table_at c.args.schema.now g.table).columns c.as_slice-rect-items.result.now (wider_both c.args.still.now c.args.news.now g) c.loop-rect.rect-index c.rect-item.result
    c.loop-rect-test.true c.rect-item.is c.loop-rect.invariant (c.in_ok-is_covered.ensures.within c.if-not-branch.false)

pub returns-then-not-branch : goal.returns-then-not-branch
returns-then-not-branch c =
    let g = c.args.region.now in
    let cs = (table_at c.args.schema.now g.table).columns in
    let all = wider_both c.args.still.now c.args.news.now g in
    record {
      absorbed = decided cs g.rects all false (λ e. absurd (cc))
          (λ e. outside_more cs g.rects all c.as_slice-rect-items.result.now c.loop-rect.rect-index c.rect-item.result c.as_slice-rect-items.ensures c.loop-rect-test.true c.rect-item.is
          (c.in_ok-is_covered.ensures.outside c.if-not-branch.true));
    }

pub returns : goal.returns
returns c =
    let g = c.args.region.now in
    let cs = (table_at c.args.schema.now g.table).columns in
    let all = wider_both c.args.still.now c.args.news.now g in
    let items = c.as_slice-rect-items.result.now in
    let same = take_all c.loop-rect.rect-index items c.loop-rect-test.false ∙ c.as_slice-rect-items.ensures in
    record { absorbed = decided cs g.rects all true (λ e. subst (λ rects. IsWithin cs rects all) same c.loop-rect.invariant) (λ e. absurd (cc)) }
