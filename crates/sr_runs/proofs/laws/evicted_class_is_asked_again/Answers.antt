use Rattle.sr_runs.proofs.ExampleTexts.{evicting_text}
use Rattle.sr_runs.proofs.EvictedRun.{evicting_runs}
use Rattle.sr_runs.proofs.laws.evicted_class_is_asked_again.Goals as goal

pub returns : goal.returns
returns c = record { lawful = evicting_runs; text = evicting_text }
