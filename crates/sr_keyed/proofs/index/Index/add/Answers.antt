use Rattle.std.specs.BTreeSet.{contains}
use Rattle.sr_keyed.specs.Places.{place_of}
use Rattle.sr_keyed.proofs.PlaceOrder.{place_order}
use Rattle.sr_keyed.proofs.Values.{list_all-weaker}
use Rattle.sr_keyed.proofs.index.Index.add.Goals as goal

pub returns-in-Ok-clause-stays : goal.returns-in-Ok-clause-stays
returns-in-Ok-clause-stays c other h =
    let key = c.args.key in
    list_all-weaker (λ col. contains place_order c.args.self.now.places (place_of key col other)) (λ col. contains place_order c.add_places.new.places (place_of key col other))
    (λ col. c.add_places.ensures.stays (place_of key col other)) c.args.self.now.columns.items h
