use Rattle.std.proofs.Common.{arith, subst}
use Rattle.sr_union.specs.Pieces.{HasOutside}
use Rattle.sr_union.proofs.Free.{free_fit, free_needed, free_next}
use Rattle.sr_union.proofs.tidy.settle.Goals as goal

pub all_inside-requires-clause-rects_fit : goal.all_inside-requires-clause-rects_fit
all_inside-requires-clause-rects_fit c = free_fit c.args.columns.now c.args.rects c.in_ok-freed.freed c.args.column c.requires.fit c.in_ok-freed.ensures

pub returns-else-branch : goal.returns-else-branch
returns-else-branch c =
    let outside = c.in_ok-all_inside.ensures.outside c.if-branch.false in
    free_needed c.args.columns.now c.args.keep c.args.column c.args.rects c.in_ok-freed.freed c.requires.first c.requires.fit c.requires.is_column c.in_ok-freed.ensures
    (subst (HasOutside c.args.columns.now c.in_ok-freed.freed) c.as_slice-2.ensures outside)

pub returns-then-is_free : goal.returns-then-is_free
returns-then-is_free c =
    free_next c.args.columns.now c.args.keep c.args.column c.args.rects (grind (arith, c.is_free.ensures, c.if-is_free.true, c.as_slice.ensures))
