use Rattle.std.proofs.Common.{◌∙◌, ◌++◌, ap, arith, length, subst, sym}
use Rattle.sr_box.specs.Cut.{IsInner}
use Rattle.sr_union.specs.Free.{span_at}
use Rattle.sr_union.specs.Pieces.{rect_minus}
use Rattle.sr_union.proofs.Inner.{inner_at}
use Rattle.sr_union.proofs.Slices.{ahead_nothing, cut_all_columns, cut_more, cut_none, span_there, width_set}
use Rattle.sr_union.proofs.minus.cut_rect.Goals as goal

pub loop-i-init : goal.loop-i-init
loop-i-init c = record {
  same = ap (λ rects. c.args.out.now ++ rects) (sym (ahead_nothing (rect_minus c.args.columns.now c.args.rect c.args.cut.now)));
  width = c.requires.width;
}

pub cut_column-requires-clause-inner : goal.cut_column-requires-clause-inner
cut_column-requires-clause-inner c =
    subst IsInner (sym c.index-cut-i.is) (inner_at c.args.columns.now c.args.cut.now _ c.index-cut-i.result c.requires.fits c.requires.inner (omega arith))

pub returns-in-None : goal.returns-in-None
returns-in-None c =
    let i = c.loop-i.i in let width = c.loop-i.invariant.width in
    cut_none c.args.columns.now c.loop-i.rest c.args.cut.now i c.index-columns-i.result (span_at i c.loop-i.rest) c.index-cut-i.result c.in_ok-cut_column.field-0
    c.loop-i.out c.cut_column.new.out _ c.loop-i-test.true width c.requires.same
    c.index-columns-i.is (span_there c.loop-i.rest i (omega (arith, c.loop-i-test.true, width))) c.index-cut-i.is
    c.in_ok-cut_column.ensures.pieces c.in_ok-cut_column.ensures.both c.in-None.is c.loop-i.invariant.same

pub loop-i-preserved : goal.loop-i-preserved
loop-i-preserved c =
    let i = c.loop-i.i in let width = c.loop-i.invariant.width in
    record {
      same = cut_more c.args.columns.now c.loop-i.rest c.set.new.self c.args.cut.now i c.index-columns-i.result (span_at i c.loop-i.rest) c.index-cut-i.result c.in-Some.both c.in_ok-cut_column.field-0
          c.loop-i.out c.cut_column.new.out _ c.loop-i-test.true width c.requires.same
          c.index-columns-i.is (span_there c.loop-i.rest i (omega (arith, c.loop-i-test.true, width))) c.index-cut-i.is
          c.in_ok-cut_column.ensures.pieces c.in_ok-cut_column.ensures.both c.in-Some.is c.set.ensures c.loop-i.invariant.same;
      width = ap length c.set.ensures ∙ (width_set c.loop-i.rest i c.in-Some.both ∙ width);
    }

pub returns : goal.returns
returns c = cut_all_columns c.args.columns.now c.loop-i.rest c.args.cut.now c.loop-i.i c.loop-i.out _ (omega (arith, c.loop-i-test.false)) c.loop-i.invariant.same
