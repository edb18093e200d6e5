use Rattle.sr_runs.proofs.StepLemmas.{steps-are-events}
use Rattle.sr_runs.proofs.laws.steps_are_events.Goals as goal

pub returns : goal.returns
returns c = steps-are-events
