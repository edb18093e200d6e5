use Rattle.std.proofs.Common.{rules, arith, ◌-◌}
use Rattle.sr_world.proofs.WorldLemmas.{lent-at}
use Rattle.sr_world.proofs.world.World.client.Goals as goal

pub returns : goal.returns
returns c = record {
  lent = λ s r. lent-at c.args.self.now s c.args.number (c.args.number - 1) c.index.result.now r (omega (arith, c.requires.there.0)) (omega (arith, c.requires.there.0, c.requires.there.1)) (search rules);
}
