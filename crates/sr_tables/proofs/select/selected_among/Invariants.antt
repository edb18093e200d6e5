use Rattle.std.proofs.Common.{◌≡◌, ◌++◌, drop, map}
use Rattle.std.specs.Prelude.{filter}
use Rattle.sr_cell.specs.Attrs.{project}
use Rattle.sr_box.specs.Points.{in_any}
use Rattle.sr_tables.proofs.select.selected_among.Given as goal

abbrev pub invariant-loop-i : goal.invariant-loop-i
invariant-loop-i l =
    l.out ++ map (project l.attrs) (filter (in_any l.rects) (map (λ r. r.now) (drop l.i l.rows))) ≡ map (project l.attrs) (filter (in_any l.rects) (map (λ r. r.now) l.rows))
