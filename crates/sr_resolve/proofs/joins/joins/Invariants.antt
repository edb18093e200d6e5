use Rattle.std.proofs.Common.{◌≡◌, ◌+◌, ◌≤◌, drop, map}
use Rattle.sr_query.specs.Binding.{joins_from}
use Rattle.sr_resolve.specs.Joined.{join_of}
use Rattle.sr_resolve.specs.Steps.{behind}
use Rattle.sr_resolve.proofs.joins.joins.Given as goal

abbrev pub invariant-loop-i : goal.invariant-loop-i
invariant-loop-i l =
    (behind (map (join_of l.schema l.tables) l.joins) (joins_from l.schema l.tables (l.i + 1) (drop l.i l.select.joins)) ≡ joins_from l.schema l.tables 1 l.select.joins)
    × (l.i ≤ 3)
