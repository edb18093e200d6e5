use Rattle.std.proofs.Common.{sym, subst}
use Rattle.sr_trim.specs.Left.{left_over, AreLeft}
use Rattle.sr_trim.proofs.Pieces.{none_left}
use Rattle.sr_trim.proofs.Tables.{table_inner, table_first}
use Rattle.sr_trim.proofs.trim.rest_if_any.Goals as goal

pub within-requires-clause-inner : goal.within-requires-clause-inner
within-requires-clause-inner c = table_inner c.args.table.now c.requires.table

pub within-requires-clause-first : goal.within-requires-clause-first
within-requires-clause-first c = table_first c.args.table.now c.requires.table

pub returns-then-branch-clause-left : goal.returns-then-branch-clause-left
returns-then-branch-clause-left c =
    let columns = c.args.table.now.columns in
    let rects = c.args.part.now.rects in
    let cover = c.args.cover.now in
    subst (AreLeft columns c.args.part.now.need (left_over rects cover)) (sym c.new.ensures) (none_left columns c.args.part.now.need rects cover (c.in_ok-within.ensures.within.0 c.if-branch.true))
