use Rattle.std.proofs.Common.{◌≡◌, ◌++◌, map}
use Rattle.std.specs.Range.Bound.{bound_map}
use Rattle.std.specs.Map.{values_of}
use Rattle.std.specs.BTreeMap.Range.{entries_between}
use Rattle.sr_keyed.proofs.Order.{order}
use Rattle.sr_keyed.proofs.keyed.rows_between.Given as goal

abbrev pub invariant-loop-row : goal.invariant-loop-row
invariant-loop-row l =
    map (λ r. r.now) l.found.items ++ values_of l.row-iterator
    ≡ values_of (entries_between order (bound_map (λ x. x.now) l.fn.low) (bound_map (λ x. x.now) l.fn.high) l.rows.entries)
