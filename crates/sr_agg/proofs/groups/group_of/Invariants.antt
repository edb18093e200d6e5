use Rattle.std.proofs.Common.{◌≡◌, map, take}
use Rattle.sr_agg.specs.Groups.{known}
use Rattle.sr_agg.proofs.groups.group_of.Given as goal

abbrev pub invariant-loop-cell : goal.invariant-loop-cell
invariant-loop-cell l = l.key.items ≡ map known (take l.cell-index l.cells)
