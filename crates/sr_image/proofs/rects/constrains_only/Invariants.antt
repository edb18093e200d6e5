use Rattle.std.proofs.Common.{◌≡◌, drop}
use Rattle.sr_box.specs.Points.{constrains_only}
use Rattle.sr_image.proofs.rects.constrains_only.Given as goal

abbrev pub invariant-loop-i : goal.invariant-loop-i
invariant-loop-i l = constrains_only l.attrs 0 l.rect ≡ constrains_only l.attrs l.i (drop l.i l.spans)
