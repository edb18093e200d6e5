use Rattle.std.proofs.Common.{◌≡◌, true}
use Rattle.sr_image.specs.Index.{are_levels}
use Rattle.sr_image.proofs.index.levels_of.Given as goal

abbrev pub invariant-loop : goal.invariant-loop
invariant-loop l = are_levels l.rects l.order l.levels.items ≡ true
