use Rattle.std.proofs.Common.{◌≡◌, ◌∷◌, length}
use Rattle.sr_model.specs.SortedRows.{ascend}
use Rattle.sr_client.proofs.misfit.follows.Given as goal

abbrev pub invariant-loop-next : goal.invariant-loop-next
invariant-loop-next l = ascend l.key (l.last ∷ l.rest) ≡ ascend l.key (l.row ∷ l.rows)

abbrev pub decreases-loop-next : goal.decreases-loop-next
decreases-loop-next l = length l.rest
