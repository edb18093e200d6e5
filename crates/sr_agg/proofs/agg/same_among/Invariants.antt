use Rattle.std.proofs.Common.{◌≡◌, map, drop}
use Rattle.sr_query.specs.Bound.{output_of}
use Rattle.sr_agg.specs.Starting.{same_among}
use Rattle.sr_agg.proofs.agg.same_among.Given as goal

abbrev pub invariant-loop-i : goal.invariant-loop-i
invariant-loop-i l = same_among 0 (output_of l.output) (map output_of l.outputs) ≡ same_among l.i (output_of l.output) (map output_of (drop l.i l.outputs))
