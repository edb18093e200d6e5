use Rattle.std.proofs.Common.{List, subst}
use Rattle.sr_cell.specs.declared.table.Table.{Table}
use Rattle.sr_calls.proofs.run.run_plan.Goals as goal

pub run-requires-clause-asks : goal.run-requires-clause-asks
run-requires-clause-asks g c =
    let asks = c.requires.asks in
    (asks.0, subst (λ (s : List Table). g.P.Plans.follows s c.args.plans.now asks.0) c.requires.schema asks.1)

pub returns-clause-ran : goal.returns-clause-ran
returns-clause-ran g c = c.run.ensures.ran

pub returns-clause-broken_off : goal.returns-clause-broken_off
returns-clause-broken_off g c = c.run.ensures.broken_off
