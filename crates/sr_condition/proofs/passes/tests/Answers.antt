use Rattle.std.proofs.Common.{◌≡◌, None, sym, ap, ◌∙◌, arith}
use Rattle.std.specs.Prelude.{slice_get}
use Rattle.sr_cell.specs.declared.cell.Cell.{Cell}
use Rattle.sr_query.specs.Meant.{test_meant}
use Rattle.sr_condition.specs.Ranges.{says_test}
use Rattle.sr_condition.proofs.Absent.{absent_cell}
use Rattle.sr_condition.proofs.passes.tests.Goals as goal

pub returns-in-None : goal.returns-in-None
returns-in-None c =
    let none : slice_get c.args.row.now c.args.column ≡ None = grind (arith, c.get.ensures, c.in-None.is) in
    c.says_test-in-None.ensures ∙ ap (λ (v : Cell). says_test c.args.plain (test_meant c.args.test.now) v) (sym (absent_cell c.args.row.now c.args.column none))
