use Rattle.std.proofs.Common.{◌≡◌, drop}
use Rattle.sr_image.specs.Reading.{takes_part}
use Rattle.sr_image.proofs.rows.takes_part.Given as goal

abbrev pub invariant-loop-i : goal.invariant-loop-i
invariant-loop-i l = takes_part 0 l.attrs l.columns l.row ≡ takes_part l.i l.attrs (drop l.i l.columns) l.cells
