use Rattle.std.proofs.Common.{◌≡◌}
use Rattle.sr_log.specs.Held.{newest}
use Rattle.sr_trials_runs.proofs.log.log_of.Given as goal

abbrev pub invariant-loop-count : goal.invariant-loop-count
invariant-loop-count l = newest l.log ≡ l.count-index
