use Rattle.std.proofs.Common.{ap, ◌∙◌}
use Rattle.sr_store.proofs.Telling.{told-each}
use Rattle.sr_store.proofs.store.Store.apply_counted.Goals as goal

pub returns-in-Ok-clause-applied : goal.returns-in-Ok-clause-applied
returns-in-Ok-clause-applied g c =
    ap (λ rs. record c.args.self.now { regions = rs }) (c.in-Ok.ensures.applied ∙ told-each c.args.told.now c.args.self.now.regions)
