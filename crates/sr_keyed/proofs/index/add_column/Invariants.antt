use Rattle.std.proofs.Common.{◌≡◌, ◌++◌, true, map}
use Rattle.std.specs.BTreeMap.{values}
use Rattle.std.specs.BTreeSet.{contains}
use Rattle.std.specs.List.{list_all}
use Rattle.sr_keyed.specs.declared.index.Place.{Place}
use Rattle.sr_keyed.specs.Places.{place_of}
use Rattle.sr_keyed.proofs.PlaceOrder.{place_order}
use Rattle.sr_keyed.proofs.index.add_column.Given as goal

abbrev pub invariant-loop-row : goal.invariant-loop-row
invariant-loop-row l = record {
  parts : map (λ r. r.now) l.yielded ++ l.row-iterator ≡ values l.rows;
  stays : (p : Place) → contains place_order l.fn.places p ≡ true → contains place_order l.places p ≡ true;
  added : list_all (λ row. contains place_order l.places (place_of l.key l.column row)) (map (λ r. r.now) l.yielded) ≡ true;
}
