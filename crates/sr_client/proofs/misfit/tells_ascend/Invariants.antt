use Rattle.std.proofs.Common.{◌≡◌, length}
use Rattle.sr_session.specs.Misfits.{tells_ascend}
use Rattle.sr_client.proofs.misfit.tells_ascend.Given as goal

abbrev pub invariant-loop-tell : goal.invariant-loop-tell
invariant-loop-tell l = tells_ascend l.rest ≡ tells_ascend l.told

abbrev pub decreases-loop-tell : goal.decreases-loop-tell
decreases-loop-tell l = length l.rest
