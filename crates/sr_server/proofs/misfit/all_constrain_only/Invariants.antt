use Rattle.std.proofs.Common.{◌≡◌, drop}
use Rattle.std.specs.List.{list_all}
use Rattle.sr_box.specs.Points.{constrains_only}
use Rattle.sr_server.proofs.misfit.all_constrain_only.Given as goal

abbrev pub invariant-loop-rect : goal.invariant-loop-rect
invariant-loop-rect l = list_all (constrains_only l.attrs 0) l.rects ≡ list_all (constrains_only l.attrs 0) (drop l.rect-index l.rects)
