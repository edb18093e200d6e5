use Rattle.std.proofs.Common.{◌≡◌, ◌++◌, drop, map}
use Rattle.sr_query.specs.Bound.{output_of}
use Rattle.sr_semi.specs.Going.{output_in}
use Rattle.sr_semi.specs.Seen.{sides_seen}
use Rattle.sr_semi.proofs.joining.outputs_of.Given as goal

abbrev pub invariant-loop-output : goal.invariant-loop-output
invariant-loop-output l =
    l.row ++ map (output_in (sides_seen l.sides) l.left l.right) (map output_of (drop l.output-index l.sides.outputs))
    ≡ map (output_in (sides_seen l.sides) l.left l.right) (map output_of l.sides.outputs)
