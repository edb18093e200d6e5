use Rattle.std.proofs.Common.{◌≡◌, true, rules, subst, take}
use Rattle.std.specs.BTreeSet.{contains}
use Rattle.sr_keyed.specs.Places.{place_of}
use Rattle.sr_keyed.proofs.PlaceOrder.{place_order}
use Rattle.sr_keyed.proofs.Values.{list_all-weaker, all-more}
use Rattle.sr_keyed.proofs.index.add_places.Goals as goal

pub loop-i-preserved : goal.loop-i-preserved
loop-i-preserved c =
    let key = c.args.key in
    let row = c.args.row.now in
    let columns = c.args.columns.now in record {
      stays = λ p h. c.put_place.ensures.stays p (c.loop-i.invariant.stays p h);
      added = all-more (λ col. contains place_order c.put_place.new.places (place_of key col row)) columns c.loop-i.i 0 (search rules)
          (list_all-weaker (λ col. contains place_order c.loop-i.places (place_of key col row)) (λ col. contains place_order c.put_place.new.places (place_of key col row))
          (λ col. c.put_place.ensures.stays (place_of key col row)) (take c.loop-i.i columns) c.loop-i.invariant.added)
          (subst (λ p. contains place_order c.put_place.new.places p ≡ true) c.in_ok-place_of.ensures c.in_ok-put_place.ensures.put);
    }
