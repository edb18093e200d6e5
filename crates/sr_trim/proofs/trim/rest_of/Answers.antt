use Rattle.std.proofs.Common.{◌++◌}
use Rattle.sr_union.proofs.Parts.{are_fit}
use Rattle.sr_union.proofs.Once.{are_trans, err_same}
use Rattle.sr_trim.specs.Left.{left_over}
use Rattle.sr_trim.proofs.Tables.{table_inner, table_first}
use Rattle.sr_trim.proofs.Pieces.{tidy_left, cut_over}
use Rattle.sr_trim.proofs.trim.rest_of.Goals as goal

pub tidy-requires-clause-self_fits : goal.tidy-requires-clause-self_fits
tidy-requires-clause-self_fits c = are_fit c.args.table.now.columns (c.args.part.now.rects ++ c.args.cover.now) c.in-Ok.left c.in-Ok.ensures.cuts

pub tidy-requires-clause-inner : goal.tidy-requires-clause-inner
tidy-requires-clause-inner c = table_inner c.args.table.now c.requires.table

pub tidy-requires-clause-first : goal.tidy-requires-clause-first
tidy-requires-clause-first c = table_first c.args.table.now c.requires.table

pub returns-in-Err-clause-over : goal.returns-in-Err-clause-over
returns-in-Err-clause-over c = λ e. c.in-Err.ensures.over (err_same c.in-Err.no _ e)

pub returns-in-Ok-tidy-clause-left : goal.returns-in-Ok-tidy-clause-left
returns-in-Ok-tidy-clause-left c =
    tidy_left c.args.table.now.columns c.args.part.now.need (left_over c.args.part.now.rects c.args.cover.now) c.in-Ok.left c.in-Ok-tidy.rest c.in-Ok.ensures.points c.in-Ok-tidy.ensures.points c.in-Ok-tidy.ensures.essential

pub returns-in-Ok-tidy-clause-cuts : goal.returns-in-Ok-tidy-clause-cuts
returns-in-Ok-tidy-clause-cuts c =
    are_trans c.args.table.now.columns (c.args.part.now.rects ++ c.args.cover.now) c.in-Ok.left c.in-Ok-tidy.rest c.in-Ok.ensures.cuts c.in-Ok-tidy.ensures.cuts

pub returns-clause-over : goal.returns-clause-over
returns-clause-over c = λ e.
    cut_over c.args.table.now.columns (c.args.part.now.rects ++ c.args.cover.now) c.in-Ok.left c.args.limit c.in-Ok.ensures.cuts (c.in-Err-tidy.ensures.over (err_same c.in-Err-tidy.no _ e))
