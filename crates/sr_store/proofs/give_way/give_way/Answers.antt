use Rattle.std.proofs.lemmas.List.{drop_all}
use Rattle.sr_store.proofs.Removing.{ways-next, ways-last, ways-by-key, ways-lie}
use Rattle.sr_store.proofs.give_way.give_way.Goals as goal

pub loop-arrival-preserved : goal.loop-arrival-preserved
loop-arrival-preserved c =
    let i = c.loop-arrival.arrival-index in
    let arrival = c.arrival-item.result in
    let next = c.give_way_to.new.region in
    record {
      left = ways-next c.args.arrivals.now i arrival c.loop-arrival.region next _ c.loop-arrival-test.true c.arrival-item.is c.give_way_to.ensures c.loop-arrival.invariant.left;
      ascending = ways-by-key arrival c.loop-arrival.region next c.give_way_to.ensures c.loop-arrival.invariant.ascending;
      lie = ways-lie c.args.arrivals.now arrival c.loop-arrival.region next c.give_way_to.ensures c.loop-arrival.invariant.lie;
    }

pub returns : goal.returns
returns c = ways-last _ c.loop-arrival.region _ (drop_all c.loop-arrival.arrival-index c.args.arrivals.now c.loop-arrival-test.false) c.loop-arrival.invariant.left
