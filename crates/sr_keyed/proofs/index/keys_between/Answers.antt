use Rattle.std.proofs.Common.{map, Bor}
use Rattle.std.specs.BTreeSet.{keys_between}
use Rattle.std.specs.declared.ops.Bound.TheVariants.{Included}
use Rattle.sr_keyed.specs.declared.index.Place.{Place}
use Rattle.sr_keyed.specs.Places.{has_spot}
use Rattle.sr_keyed.proofs.Order.{order}
use Rattle.sr_keyed.proofs.PlaceOrder.{place_order, spot-stays}
use Rattle.sr_keyed.proofs.Values.{list_all-weaker, all-came, came-next}
use Rattle.sr_keyed.proofs.index.keys_between.Goals as goal

pub loop-place-preserved : goal.loop-place-preserved
loop-place-preserved c =
    let lent : Bor Place → Place = λ p. p.now in record {
      parts = came-next lent c.loop-place.yielded c.in-Some.place c.loop-place.place-iterator c.next.new.self
          (keys_between place_order (Included c.args.first.now) (Included c.args.last.now) c.args.places.now) c.loop-place.invariant.parts c.in-Some.ensures.steps;
      had = all-came lent (λ p. has_spot order c.push_key.new.keys p.key) c.loop-place.yielded c.in-Some.place
          (list_all-weaker (λ p. has_spot order c.loop-place.keys p.key) (λ p. has_spot order c.push_key.new.keys p.key)
          (λ p. spot-stays c.loop-place.keys c.push_key.new.keys c.push_key.ensures.stays p.key) (map lent c.loop-place.yielded) c.loop-place.invariant.had)
          c.in_ok-push_key.ensures.added;
    }
