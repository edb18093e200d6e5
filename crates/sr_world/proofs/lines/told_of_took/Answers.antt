use Rattle.std.proofs.Common.{◌≡◌, true, false, subst}
use Rattle.sr_client.specs.declared.steps.Took.{Took}
use Rattle.sr_client.specs.Steps.{is_bad}
use Rattle.sr_world.proofs.lines.told_of_took.Goals as goal

pub unreachable-requires : goal.unreachable-requires
unreachable-requires c = let wrong : true ≡ false = subst (λ (t : Took). is_bad t ≡ false) c.in-Bad.is c.requires.taken in cc
