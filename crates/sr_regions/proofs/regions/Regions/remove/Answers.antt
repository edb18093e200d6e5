use Rattle.sr_regions.proofs.Places.{read-at}
use Rattle.sr_regions.proofs.Telling.{named-all}
use Rattle.sr_regions.proofs.regions.Regions.remove.Goals as goal

pub invariant_of-self : goal.invariant_of-self
invariant_of-self c = λ n g there. named-all n g

pub returns-clause-taken : goal.returns-clause-taken
returns-clause-taken c = read-at c.self.inside.list.items c.args.self.now c.args.number c.remove.result c.self.view_is c.requires c.remove.ensures.value
