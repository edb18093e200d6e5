use Rattle.std.proofs.Common.{◌≡◌, ◌++◌, true, map}
use Rattle.std.specs.BTreeSet.{keys_between}
use Rattle.std.specs.List.{list_all}
use Rattle.std.specs.declared.ops.Bound.TheVariants.{Included}
use Rattle.sr_keyed.specs.Places.{has_spot}
use Rattle.sr_keyed.proofs.Order.{order}
use Rattle.sr_keyed.proofs.PlaceOrder.{place_order}
use Rattle.sr_keyed.proofs.index.keys_between.Given as goal

abbrev pub invariant-loop-place : goal.invariant-loop-place
invariant-loop-place l = record {
  parts : map (λ p. p.now) l.yielded ++ l.place-iterator ≡ keys_between place_order (Included l.first) (Included l.last) l.places;
  had : list_all (λ p. has_spot order l.keys p.key) (map (λ p. p.now) l.yielded) ≡ true;
}
