use Rattle.sr_runs.specs.Runs.{Steps}
use Rattle.sr_world.proofs.StepLemmas.{stands-on, world-after}
use Rattle.sr_world.proofs.world.World.step.Goals as goal

pub returns-in-Ok-clause-world : goal.returns-in-Ok-clause-world
returns-in-Ok-clause-world c =
    let old = c.args.self.now in
    world-after (λ s. Steps old.eager s c.requires.means.0) old c.happen.new.self c.in-Ok.lines (stands-on old c.if-self.false c.requires.world) (c.in-Ok.ensures.steps c.requires.means.0 c.requires.means.1)
