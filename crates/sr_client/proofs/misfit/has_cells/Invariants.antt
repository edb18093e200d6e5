use Rattle.std.proofs.Common.{◌≡◌, drop}
use Rattle.sr_region.specs.Regions.{is_in}
use Rattle.sr_client.proofs.misfit.has_cells.Given as goal

abbrev pub invariant-loop-rect : goal.invariant-loop-rect
invariant-loop-rect l = is_in l.attrs (drop l.rect-index l.rect-items) l.cells ≡ is_in l.attrs l.rects l.cells
