use Rattle.std.proofs.Common.{◌≡◌, ◌++◌, drop, map}
use Rattle.sr_query.specs.Binding.{all_outputs}
use Rattle.sr_query.specs.Bound.{output_of}
use Rattle.sr_resolve.proofs.outputs.all_outputs.Given as goal

abbrev pub invariant-loop-part : goal.invariant-loop-part
invariant-loop-part l = map output_of l.outputs ++ all_outputs l.schema l.part (drop l.part l.tables) ≡ all_outputs l.schema 0 l.tables
