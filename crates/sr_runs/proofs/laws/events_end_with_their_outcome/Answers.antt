use Rattle.sr_runs.proofs.OutcomeLemmas.{events-end-with-their-outcome}
use Rattle.sr_runs.proofs.laws.events_end_with_their_outcome.Goals as goal

pub returns : goal.returns
returns c = record { lines = events-end-with-their-outcome }
