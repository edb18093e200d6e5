use Rattle.std.proofs.Common.{◌≡◌, ◌++◌, ◌∷◌, [], map}
use Rattle.std.specs.Vec.Iter.{into_iter_items}
use Rattle.sr_script.specs.declared.line.TraceLine.TheVariants as line
use Rattle.sr_world.proofs.lines.push_rows.Given as goal

abbrev pub invariant-loop-row : goal.invariant-loop-row
invariant-loop-row l = l.lines ++ map line.Row (into_iter_items l.row-iterator) ≡ (l.fn.lines ++ l.fn.first ∷ []) ++ map line.Row l.fn.rows
