use Rattle.std.proofs.Common.{◌≡◌, drop}
use Rattle.sr_message.specs.Agree.{same_from}
use Rattle.sr_subs.proofs.subs.are_same.Given as goal

abbrev pub invariant-loop-i : goal.invariant-loop-i
invariant-loop-i l = same_from 0 l.attrs l.before l.after ≡ same_from l.i l.attrs (drop l.i l.before) (drop l.i l.after)
