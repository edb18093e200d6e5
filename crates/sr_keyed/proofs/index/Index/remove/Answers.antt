use Rattle.std.specs.BTreeSet.{contains}
use Rattle.sr_keyed.specs.Places.{place_of}
use Rattle.sr_keyed.proofs.PlaceOrder.{place_order}
use Rattle.sr_keyed.proofs.Values.{list_all-weaker}
use Rattle.sr_keyed.proofs.index.Index.remove.Goals as goal

pub returns-in-Ok : goal.returns-in-Ok
returns-in-Ok c other apart h =
    let key = c.args.key in
    list_all-weaker (λ col. contains place_order c.args.self.now.places (place_of key col other)) (λ col. contains place_order c.take_places.new.places (place_of key col other))
    (λ col. c.take_places.ensures.others col other apart) c.args.self.now.columns.items h
