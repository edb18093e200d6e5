use Rattle.std.proofs.Common.{◌≡◌, true, take}
use Rattle.std.specs.BTreeSet.{contains}
use Rattle.sr_keyed.specs.declared.index.Place.{Place}
use Rattle.sr_keyed.specs.Places.{has_places}
use Rattle.sr_keyed.proofs.PlaceOrder.{place_order}
use Rattle.sr_keyed.proofs.index.add_places.Given as goal

abbrev pub invariant-loop-i : goal.invariant-loop-i
invariant-loop-i l = record {
  stays : (p : Place) → contains place_order l.fn.places p ≡ true → contains place_order l.places p ≡ true;
  added : has_places place_order l.places l.key (take l.i l.columns) l.row ≡ true;
}
