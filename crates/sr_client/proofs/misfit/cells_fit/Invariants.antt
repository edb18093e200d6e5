use Rattle.std.proofs.Common.{◌≡◌, drop}
use Rattle.sr_session.specs.Misfits.{cells_fit}
use Rattle.sr_client.proofs.misfit.cells_fit.Given as goal

abbrev pub invariant-loop-i : goal.invariant-loop-i
invariant-loop-i l = cells_fit l.attrs l.i (drop l.i l.columns) l.rest ≡ cells_fit l.attrs 0 l.columns l.row
