use Rattle.std.proofs.Common.{◌≡◌, drop, map}
use Rattle.sr_query.specs.Binding.{each, resolved}
use Rattle.sr_query.specs.Bound.{output_of}
use Rattle.sr_resolve.specs.Steps.{behind}
use Rattle.sr_resolve.proofs.outputs.listed.Given as goal

abbrev pub invariant-loop-name : goal.invariant-loop-name
invariant-loop-name l =
    behind (map output_of l.outputs) (each (resolved l.schema l.tables) (drop l.name-index l.names)) ≡ each (resolved l.schema l.tables) l.names
