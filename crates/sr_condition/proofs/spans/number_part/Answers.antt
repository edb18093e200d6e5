use Rattle.std.proofs.Common.{w64, FitsSigned, rules}
use Rattle.std.proofs.lemmas.Int.{to_z-of_z}
use Rattle.sr_condition.proofs.Parts.{inner-part}
use Rattle.sr_condition.proofs.spans.number_part.Goals as goal

pub returns-else-are_all : goal.returns-else-are_all
returns-else-are_all c =
    let low = to_z-of_z w64 c.args.low c.ranges.low in
    let high = to_z-of_z w64 c.args.high c.ranges.high in
    let lo = to_z-of_z w64 c.args.lo c.ranges.lo in
    let hi = to_z-of_z w64 c.args.hi c.ranges.hi in
    let all = rw (lo, low, high, hi) at c.are_all.ensures in
    let first = rw (lo, low) at c.max.ensures.value in
    let last = rw (hi, high) at c.min.ensures.value in
    let f : FitsSigned w64 c.max.result = search rules in
    let g : FitsSigned w64 c.min.result = search rules in
    let part = rw (to_z-of_z w64 c.max.result f, to_z-of_z w64 c.min.result g) at c.some_nums.ensures in
    inner-part c.args.nullable c.args.low c.args.high c.args.lo c.args.hi c.max.result c.min.result c.are_all.result c.some_nums.result all c.if-are_all.false first last part
