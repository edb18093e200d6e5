use Rattle.std.proofs.Common.{ap, ◌∙◌, arith}
use Rattle.std.specs.Prelude.{slice_index_or}
use Rattle.sr_grammar.specs.Seen.{statement_seen}
use Rattle.sr_semi.proofs.Sided.{right-made, table-is}
use Rattle.sr_semi.proofs.starts.right_of.Goals as goal

pub returns : goal.returns
returns c q is =
    let query = c.args.query.now in
    let part = c.index-as_slice-1.result in
    let table = c.index-as_slice-part.result in
    let part-is = c.index-as_slice-1.is ∙ ap (λ ps. slice_index_or ps 1 part) c.as_slice.ensures in
    right-made c.args.schema.now (statement_seen c.args.statement.now) query q part c.in_ok-table.table c.in_ok-conjuncts.conjuncts c.args.tables.now
    is c.requires.two c.requires.each part-is
    (c.in_ok-table.ensures
    ∙ table-is c.args.schema.now c.args.tables.now query.parts 1 part table c.requires.known c.requires.each (omega (arith, c.requires.two)) part-is
    (c.index-as_slice-part.is ∙ ap (λ ts. slice_index_or ts part.table table) c.as_slice-2.ensures))
    c.in_ok-conjuncts.ensures
