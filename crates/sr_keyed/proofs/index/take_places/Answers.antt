use Rattle.std.proofs.Common.{◌≡◌, false, sym, subst, get_or}
use Rattle.std.specs.BTreeMap.{is_at}
use Rattle.sr_keyed.specs.Places.{place_of}
use Rattle.sr_keyed.proofs.PlaceOrder.{place_order, apart-places}
use Rattle.sr_keyed.proofs.index.take_places.Goals as goal

pub loop-i-preserved : goal.loop-i-preserved
loop-i-preserved c col other apart h =
    let key = c.args.key in
    c.take_place.ensures (place_of key col other)
    (subst (λ p. is_at (place_order p) (place_of key col other) ≡ false) (sym c.in_ok-place.ensures) (apart-places key (get_or c.args.columns.now c.loop-i.i 0) col c.args.row.now other apart))
    (c.loop-i.invariant col other apart h)
