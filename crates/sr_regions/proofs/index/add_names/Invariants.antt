use Rattle.std.proofs.Common.{◌≡◌, true, take}
use Rattle.std.specs.Prelude.{Some}
use Rattle.std.specs.List.{list_all}
use Rattle.sr_cell.specs.Cells.{cell_at}
use Rattle.sr_keyed.proofs.Order.{order}
use Rattle.sr_regions.specs.Named.{is_named, NamesMore}
use Rattle.sr_regions.proofs.index.add_names.Given as goal

abbrev pub invariant-loop-row : goal.invariant-loop-row
invariant-loop-row l = record {
  stays : NamesMore order (Some l.fn.index) (Some l.index);
  named : list_all (λ row. is_named order (Some l.index) (cell_at row l.place) l.number) (take l.row-index l.region.rows) ≡ true;
}
