use Rattle.std.proofs.Common.{◌≡◌, ◌+◌, false, drop}
use Rattle.sr_store.specs.Stores.{count_rects}
use Rattle.sr_store.specs.Answered.{flagged}
use Rattle.sr_store.proofs.answer.room_after.Given as goal

abbrev pub invariant-loop-i : goal.invariant-loop-i
invariant-loop-i l = count_rects (flagged false l.flags l.regions) + l.left ≡ l.room + count_rects (flagged false (drop l.i l.flags) (drop l.i l.regions))
