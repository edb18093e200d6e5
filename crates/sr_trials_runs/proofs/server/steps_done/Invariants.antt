use Rattle.std.proofs.Common.{◌≤◌}
use Rattle.sr_log.specs.Held.{newest}
use Rattle.sr_server.specs.Servers.{StandsForSome}
use Rattle.sr_trials_runs.proofs.server.steps_done.Given as goal

abbrev pub invariant-loop-i : goal.invariant-loop-i
invariant-loop-i l = StandsForSome l.server × (newest l.server.log ≤ l.i)
