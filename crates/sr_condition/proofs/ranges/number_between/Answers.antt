use Rattle.std.proofs.Common.{w64, FitsSigned, rules}
use Rattle.std.proofs.lemmas.Int.{to_z-of_z}
use Rattle.sr_condition.proofs.Bounds.{between-numbers}
use Rattle.sr_condition.proofs.ranges.number_between.Goals as goal

pub returns : goal.returns
returns c =
    let f : FitsSigned w64 c.args.low = search rules in
    let g : FitsSigned w64 c.args.high = search rules in
    rw (to_z-of_z w64 c.args.low f, to_z-of_z w64 c.args.high g) (between-numbers c.args.column.now c.args.low c.args.high c.requires.kind c.requires.order)
