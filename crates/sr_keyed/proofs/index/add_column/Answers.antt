use Rattle.std.proofs.Common.{◌≡◌, true, subst, map, Bor}
use Rattle.std.specs.BTreeMap.{values}
use Rattle.std.specs.BTreeSet.{contains}
use Rattle.sr_cell.specs.Cells.{Row}
use Rattle.sr_keyed.specs.Places.{place_of}
use Rattle.sr_keyed.proofs.PlaceOrder.{place_order}
use Rattle.sr_keyed.proofs.Values.{list_all-weaker, all-came, came-next}
use Rattle.sr_keyed.proofs.index.add_column.Goals as goal

pub loop-row-preserved : goal.loop-row-preserved
loop-row-preserved c =
    let lent : Bor Row → Row = λ r. r.now in
    let key = c.args.key in
    let column = c.args.column in record {
      parts = came-next lent c.loop-row.yielded c.in-Some.row c.loop-row.row-iterator c.next.new.self (values c.args.rows.now) c.loop-row.invariant.parts c.in-Some.ensures.steps;
      stays = λ p h. c.put_place.ensures.stays p (c.loop-row.invariant.stays p h);
      added = all-came lent (λ row. contains place_order c.put_place.new.places (place_of key column row)) c.loop-row.yielded c.in-Some.row
          (list_all-weaker (λ row. contains place_order c.loop-row.places (place_of key column row)) (λ row. contains place_order c.put_place.new.places (place_of key column row))
          (λ row. c.put_place.ensures.stays (place_of key column row)) (map lent c.loop-row.yielded) c.loop-row.invariant.added)
          (subst (λ p. contains place_order c.put_place.new.places p ≡ true) c.in_ok-place_of.ensures c.in_ok-put_place.ensures.put);
    }
