use Rattle.std.proofs.Common.{◌++◌}
use Rattle.sr_union.proofs.Parts.{are_fit}
use Rattle.sr_union.proofs.Once.{err_same}
use Rattle.sr_trim.specs.Left.{left_over}
use Rattle.sr_trim.proofs.Tables.{table_first, table_few}
use Rattle.sr_trim.proofs.Columns.{shipped_just, shipped_bound}
use Rattle.sr_trim.proofs.Pieces.{left_same, left_once, left_some, left_empty, all_narrow}
use Rattle.sr_trim.proofs.trim.trim.Goals as goal

pub shipped-attrs-requires : goal.shipped-attrs-requires
shipped-attrs-requires c =
    all_narrow c.args.table.now.columns c.in-Ok.rest (table_few c.args.table.now c.requires.table)
    (are_fit c.args.table.now.columns (c.args.part.now.rects ++ c.args.cover.now) c.in-Ok.rest c.in-Ok.ensures.cuts)

pub returns-clause-fits : goal.returns-clause-fits
returns-clause-fits c = are_fit c.args.table.now.columns (c.args.part.now.rects ++ c.args.cover.now) c.in-Ok.rest c.in-Ok.ensures.cuts

pub returns-clause-points : goal.returns-clause-points
returns-clause-points c = left_same c.args.table.now.columns c.args.part.now.need (left_over c.args.part.now.rects c.args.cover.now) c.in-Ok.rest c.in-Ok.ensures.left

pub returns-clause-once : goal.returns-clause-once
returns-clause-once c = left_once c.args.table.now.columns c.args.part.now.need (left_over c.args.part.now.rects c.args.cover.now) c.in-Ok.rest c.in-Ok.ensures.left

pub returns-clause-bound : goal.returns-clause-bound
returns-clause-bound c = shipped_bound c.args.part.now.need c.shipped-attrs.result c.in-Ok.rest c.shipped-attrs.ensures

pub returns-clause-columns : goal.returns-clause-columns
returns-clause-columns c =
    shipped_just c.args.table.now.columns c.args.part.now.need c.shipped-attrs.result (left_over c.args.part.now.rects c.args.cover.now) c.in-Ok.rest
    (left_same c.args.table.now.columns c.args.part.now.need (left_over c.args.part.now.rects c.args.cover.now) c.in-Ok.rest c.in-Ok.ensures.left) c.in-Ok.ensures.left.bound c.shipped-attrs.ensures

pub returns-clause-empty : goal.returns-clause-empty
returns-clause-empty c =
    left_empty c.args.table.now.columns (left_over c.args.part.now.rects c.args.cover.now) c.in-Ok.rest (table_first c.args.table.now c.requires.table)
    (are_fit c.args.table.now.columns (c.args.part.now.rects ++ c.args.cover.now) c.in-Ok.rest c.in-Ok.ensures.cuts)
    (left_same c.args.table.now.columns c.args.part.now.need (left_over c.args.part.now.rects c.args.cover.now) c.in-Ok.rest c.in-Ok.ensures.left)

pub returns-clause-some : goal.returns-clause-some
returns-clause-some c =
    left_some c.args.table.now.columns (left_over c.args.part.now.rects c.args.cover.now) c.in-Ok.rest (table_first c.args.table.now c.requires.table)
    (are_fit c.args.table.now.columns (c.args.part.now.rects ++ c.args.cover.now) c.in-Ok.rest c.in-Ok.ensures.cuts)
    (left_same c.args.table.now.columns c.args.part.now.need (left_over c.args.part.now.rects c.args.cover.now) c.in-Ok.rest c.in-Ok.ensures.left)

pub returns-in-Err-clause-over : goal.returns-in-Err-clause-over
returns-in-Err-clause-over c = λ e. c.in-Err.ensures.over (err_same c.in-Err.no _ e)

pub returns-in-Err-clause-over_left : goal.returns-in-Err-clause-over_left
returns-in-Err-clause-over_left c = λ e. c.in-Err.ensures.over_left (err_same c.in-Err.no _ e)
