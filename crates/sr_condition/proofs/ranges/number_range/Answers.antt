use Rattle.std.proofs.Common.{w64, FitsSigned, rules, arith, inl, inr}
use Rattle.std.specs.Prelude.{pos, ◌+ℤ◌, ◌-ℤ◌}
use Rattle.std.proofs.lemmas.Int.{ints, to_z-of_z}
use Rattle.sr_condition.proofs.Bounds.{equal-number, below-number, at_most-number, above-number, at_least-number}
use Rattle.sr_condition.proofs.ranges.number_range.Goals as goal

pub returns-in-Eq : goal.returns-in-Eq
returns-in-Eq c =
    let equal = equal-number c.args.column.now c.args.number c.requires.kind in
    elim c.in-Eq.is [
      | inl is ↦ rw (to_z-of_z w64 c.args.number c.ranges.number, is) equal
      | inr is ↦ rw (to_z-of_z w64 c.args.number c.ranges.number, is) equal
    ]

pub returns-in-Lt : goal.returns-in-Lt
returns-in-Lt c =
    let f : FitsSigned w64 c.args.column.now.lo = search rules in
    let g : FitsSigned w64 (c.args.number -ℤ pos 1) = let i = c.requires.inside in grind (arith, ints, i) in
    rw (to_z-of_z w64 c.args.number c.ranges.number, to_z-of_z w64 c.args.column.now.lo f, to_z-of_z w64 (c.args.number -ℤ pos 1) g, c.in-Lt.is) (below-number c.args.column.now c.args.number c.requires.kind)

pub returns-in-Le : goal.returns-in-Le
returns-in-Le c =
    let f : FitsSigned w64 c.args.column.now.lo = search rules in
    rw (to_z-of_z w64 c.args.number c.ranges.number, to_z-of_z w64 c.args.column.now.lo f, c.in-Le.is) (at_most-number c.args.column.now c.args.number c.requires.kind)

pub returns-in-Gt : goal.returns-in-Gt
returns-in-Gt c =
    let f : FitsSigned w64 c.args.column.now.hi = search rules in
    let g : FitsSigned w64 (c.args.number +ℤ pos 1) = let i = c.requires.inside in grind (arith, ints, i) in
    rw (to_z-of_z w64 c.args.number c.ranges.number, to_z-of_z w64 c.args.column.now.hi f, to_z-of_z w64 (c.args.number +ℤ pos 1) g, c.in-Gt.is) (above-number c.args.column.now c.args.number c.requires.kind)

pub returns-in-Ge : goal.returns-in-Ge
returns-in-Ge c =
    let f : FitsSigned w64 c.args.column.now.hi = search rules in
    rw (to_z-of_z w64 c.args.number c.ranges.number, to_z-of_z w64 c.args.column.now.hi f, c.in-Ge.is) (at_least-number c.args.column.now c.args.number c.requires.kind)
