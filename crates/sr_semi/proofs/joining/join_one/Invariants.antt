use Rattle.std.proofs.Common.{◌≡◌, ◌++◌, drop, map}
use Rattle.sr_query.specs.Bound.{output_of}
use Rattle.sr_semi.specs.Going.{output_in}
use Rattle.sr_semi.specs.Seen.{sides_seen}
use Rattle.sr_semi.proofs.joining.join_one.Given as goal

abbrev pub invariant-loop-right : goal.invariant-loop-right
invariant-loop-right l =
    l.answer ++ map (λ r. map (output_in (sides_seen l.sides) l.left r) (map output_of l.sides.outputs)) (drop l.right-index l.rights)
    ≡ l.fn.answer ++ map (λ r. map (output_in (sides_seen l.sides) l.left r) (map output_of l.sides.outputs)) l.rights
