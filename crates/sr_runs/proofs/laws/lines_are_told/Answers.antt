use Rattle.sr_runs.proofs.MomentLemmas.{lines-are-told}
use Rattle.sr_runs.proofs.laws.lines_are_told.Goals as goal

pub returns : goal.returns
returns c = record { told = lines-are-told }
