use Rattle.sr_bind.proofs.Deciding.{between_says, prefix_says}
use Rattle.sr_bind.proofs.values.test_of.Goals as goal

pub returns-in-Prefix-clause-decided : goal.returns-in-Prefix-clause-decided
returns-in-Prefix-clause-decided c = prefix_says c.args.kind c.args.atom.now c.in-Prefix.text c.prefix.result c.in-Prefix.is c.prefix.ensures.decided

pub returns-in-Between-clause-decided : goal.returns-in-Between-clause-decided
returns-in-Between-clause-decided c = between_says c.args.kind c.args.atom.now c.in-Between.low c.in-Between.high c.between.result c.in-Between.is c.between.ensures.decided
