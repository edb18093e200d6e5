use Rattle.std.proofs.Common.{◌≡◌, drop}
use Rattle.std.specs.Prelude.{map}
use Rattle.sr_union.specs.Free.{span_at}
use Rattle.sr_union.specs.Centre.{high_of, greatest, greatest_high}
use Rattle.sr_union.proofs.centre.greatest_high.Given as goal

abbrev pub invariant-loop-rect : goal.invariant-loop-rect
invariant-loop-rect l = greatest l.greatest (map (λ q. high_of l.column.kind l.column.lo l.column.hi (span_at l.k q)) (drop l.rect-index l.others)) ≡ greatest_high l.column l.k l.first l.others
