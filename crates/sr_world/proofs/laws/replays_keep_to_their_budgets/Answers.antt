use Rattle.sr_world.proofs.Budgets.{replays-keep-to-budgets}
use Rattle.sr_world.proofs.laws.replays_keep_to_their_budgets.Goals as goal

pub returns : goal.returns
returns c = record { budgets = replays-keep-to-budgets }
