use Rattle.std.proofs.Common.{◌≡◌, ◌≤◌, ◌+◌, ◌-◌, ◌^◌, drop}
use Rattle.std.specs.Prelude.{min}
use Rattle.sr_store.specs.Fitted.{count_rows}
use Rattle.sr_store.proofs.fit.count_rows.Given as goal

abbrev pub invariant-loop-region : goal.invariant-loop-region
invariant-loop-region l = record {
  whole : min (l.count + count_rows (drop l.region-index l.regions)) (2 ^ 64 - 1) ≡ min (count_rows l.regions) (2 ^ 64 - 1);
  within : l.count ≤ 2 ^ 64 - 1;
}
