use Rattle.std.proofs.Common.{◌≡◌, ◌++◌, drop}
use Rattle.sr_join.specs.Joins.{outputs_of}
use Rattle.sr_join.proofs.join.outputs_of.Given as goal

abbrev pub invariant-loop-output : goal.invariant-loop-output
invariant-loop-output l = l.cells ++ outputs_of (drop l.output-index l.outputs) l.chosen ≡ outputs_of l.outputs l.chosen
