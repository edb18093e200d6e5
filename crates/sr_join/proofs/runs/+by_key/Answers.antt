use Rattle.std.proofs.Common.{◌/◌, length, sym, subst}
use Rattle.sr_join.specs.Shown.{AreShown}
use Rattle.sr_join.proofs.Halves.{of-none, one-run, two-halves, cut-at}
use Rattle.sr_join.proofs.runs.+by_key.Goals as goal

pub returns-then-count-eq0 : goal.returns-then-count-eq0
returns-then-count-eq0 t c = λ need all test order has lent.
    subst (λ s. AreShown need all test s) (sym c.new.ensures) (of-none need c.args.part all test c.args.runs.now c.if-count-eq0.true lent)

pub returns-then-count-eq1 : goal.returns-then-count-eq1
returns-then-count-eq1 t c =
    one-run c.rows_of.result c.args.key c.args.part c.args.runs.now c.index-runs-0.result c.rows_of.ensures c.if-count-eq1.true c.index-runs-0.is

pub returns : goal.returns
returns t c =
    two-halves c.unite.result c.args.key c.args.part c.args.runs.now _ _ c.in_ok-rows.rows c.in_ok-more.more c.unite.ensures c.in_ok-rows.ensures c.in_ok-more.ensures
    (cut-at c.args.runs.now (length c.args.runs.now / 2))
