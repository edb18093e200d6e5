use Rattle.sr_runs.proofs.ExampleTexts.{text}
use Rattle.sr_runs.proofs.ExampleRun.{runs}
use Rattle.sr_runs.proofs.laws.worked_example.Goals as goal

pub returns : goal.returns
returns c = record { lawful = runs; text = text }
