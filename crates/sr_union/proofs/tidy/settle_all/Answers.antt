use Rattle.std.proofs.Common.{sym, subst}
use Rattle.sr_union.proofs.Parts.{are_fit}
use Rattle.sr_union.proofs.Free.{IsTidied, tidied_none, tidied_more}
use Rattle.sr_union.proofs.tidy.settle_all.Goals as goal

pub loop-column-init : goal.loop-column-init
loop-column-init c = subst (IsTidied c.args.columns.now c.args.keep 0 c.args.rects.now) (sym c.in_ok-settled.ensures) (tidied_none c.args.columns.now c.args.keep c.args.rects.now c.requires.fit)

pub settle-requires-clause-fit : goal.settle-requires-clause-fit
settle-requires-clause-fit c = are_fit c.args.columns.now c.args.rects.now c.loop-column.settled c.loop-column.invariant.cuts

pub loop-column-preserved : goal.loop-column-preserved
loop-column-preserved c =
    tidied_more c.args.columns.now c.args.keep c.loop-column.column c.args.rects.now c.loop-column.settled c.in_ok-settled-2.settled c.loop-column.invariant c.in_ok-settled-2.ensures
