use Rattle.std.proofs.Common.{◌≡◌, ◌++◌, drop}
use Rattle.sr_cell.specs.Attrs.{project, project_from}
use Rattle.sr_cell.proofs.attrs.Row.project.Given as goal

abbrev pub invariant-loop-i : goal.invariant-loop-i
invariant-loop-i l = l.cells ++ project_from l.i l.fn.attrs (drop l.i l.self) ≡ project l.fn.attrs l.self
