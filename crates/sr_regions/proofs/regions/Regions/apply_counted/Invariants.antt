use Rattle.std.proofs.Common.{◌≡◌, ◌+◌, drop}
use Rattle.std.specs.Prelude.{List}
use Rattle.sr_cell.specs.declared.table.Table.{Table}
use Rattle.sr_regions.specs.Touched.{told_all, count_all, AreTellable}
use Rattle.sr_regions.proofs.regions.Regions.apply_counted.Given as goal

abbrev pub invariant-loop-tell : goal.invariant-loop-tell
invariant-loop-tell g l = record {
  told : told_all (drop l.tell-index l.told) l.self ≡ told_all l.told l.fn.self;
  counted : l.steps + count_all (drop l.tell-index l.told) l.self ≡ l.fn.steps + count_all l.told l.fn.self;
  tellable : (schema : List Table) × AreTellable schema (drop l.tell-index l.told) l.self;
}
