use Rattle.std.proofs.Common.{◌≡◌, true}
use Rattle.std.specs.List.{list_all}
use Rattle.std.specs.Vec.Iter.{into_iter_items}
use Rattle.sr_tables.specs.Steps.{is_known, replaced_by}
use Rattle.sr_tables.proofs.update.replace_all.Given as goal

abbrev pub invariant-loop-row : goal.invariant-loop-row
invariant-loop-row l = record {
  same : replaced_by l.rows (into_iter_items l.row-iterator) ≡ replaced_by l.initial.rows l.fn.news;
  known : list_all (is_known l.rows) (into_iter_items l.row-iterator) ≡ true;
}
