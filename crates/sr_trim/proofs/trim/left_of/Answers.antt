use Rattle.std.proofs.Common.{◌++◌, arith}
use Rattle.sr_union.proofs.Parts.{are_fit}
use Rattle.sr_union.proofs.Once.{are_trans, err_same, once_le}
use Rattle.sr_trim.proofs.Tables.{table_inner, table_first}
use Rattle.sr_trim.proofs.Pieces.{once_left, once_cut, once_over, cut_over}
use Rattle.sr_trim.proofs.trim.left_of.Goals as goal

pub disjoint-requires-clause-inner : goal.disjoint-requires-clause-inner
disjoint-requires-clause-inner c = table_inner c.args.table.now c.requires.table

pub disjoint-requires-clause-first : goal.disjoint-requires-clause-first
disjoint-requires-clause-first c = table_first c.args.table.now c.requires.table

pub minus-requires-clause-self_fits : goal.minus-requires-clause-self_fits
minus-requires-clause-self_fits c = are_fit c.args.table.now.columns c.args.rects.now c.in-Ok.once c.in-Ok.ensures.cuts

pub minus-requires-clause-inner : goal.minus-requires-clause-inner
minus-requires-clause-inner c = table_inner c.args.table.now c.requires.table

pub minus-requires-clause-first : goal.minus-requires-clause-first
minus-requires-clause-first c = table_first c.args.table.now c.requires.table

pub returns-in-Err-clause-over : goal.returns-in-Err-clause-over
returns-in-Err-clause-over c = λ e.
    once_over c.args.table.now.columns c.args.rects.now c.args.cover.now c.args.limit c.requires.rects_fit (c.in-Err.ensures.over (err_same c.in-Err.no _ e))

pub returns-in-Ok-minus-clause-points : goal.returns-in-Ok-minus-clause-points
returns-in-Ok-minus-clause-points c =
    once_left c.args.table.now.columns c.args.rects.now c.in-Ok.once c.args.cover.now c.in-Ok-minus.left c.in-Ok.ensures.points c.in-Ok-minus.ensures.points

pub returns-in-Ok-minus-clause-cuts : goal.returns-in-Ok-minus-clause-cuts
returns-in-Ok-minus-clause-cuts c =
    are_trans c.args.table.now.columns (c.args.rects.now ++ c.args.cover.now) (c.in-Ok.once ++ c.args.cover.now) c.in-Ok-minus.left
    (once_cut c.args.table.now.columns c.args.rects.now c.in-Ok.once c.args.cover.now c.requires.rects_fit c.requires.cover_fits c.in-Ok.ensures.cuts) c.in-Ok-minus.ensures.cuts

pub returns-clause-over : goal.returns-clause-over
returns-clause-over c = λ e.
    let passed = c.in-Err-minus.ensures.over 1 (err_same c.in-Err-minus.no _ e) (once_le c.args.table.now.columns c.args.rects.now c.in-Ok.once c.in-Ok.ensures.points) in
    cut_over c.args.table.now.columns (c.args.rects.now ++ c.args.cover.now) (c.in-Ok.once ++ c.args.cover.now) c.args.limit
    (once_cut c.args.table.now.columns c.args.rects.now c.in-Ok.once c.args.cover.now c.requires.rects_fit c.requires.cover_fits c.in-Ok.ensures.cuts) (omega (arith, passed))
