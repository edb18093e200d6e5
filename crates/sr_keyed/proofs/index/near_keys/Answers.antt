use Rattle.std.proofs.Common.{◌≡◌, false, sym, subst}
use Rattle.std.specs.Option.{option_copied}
use Rattle.std.specs.Ordering.{is_gt}
use Rattle.sr_keyed.specs.Places.{first_place}
use Rattle.sr_keyed.proofs.PlaceOrder.{place_order, places-forward}
use Rattle.sr_keyed.proofs.index.near_keys.Goals as goal

pub are_few-requires : goal.are_few-requires
are_few-requires c =
    subst (λ p. is_gt (place_order p c.in_ok-last.last) ≡ false) (sym c.in_ok-first.ensures)
    (subst (λ p. is_gt (place_order (first_place c.args.column (option_copied c.args.low)) p) ≡ false) (sym c.in_ok-last.ensures)
    (places-forward c.args.column (option_copied c.args.low) (option_copied c.args.high) c.requires))

pub keys_between-requires : goal.keys_between-requires
keys_between-requires c =
    subst (λ p. is_gt (place_order p c.in_ok-last.last) ≡ false) (sym c.in_ok-first.ensures)
    (subst (λ p. is_gt (place_order (first_place c.args.column (option_copied c.args.low)) p) ≡ false) (sym c.in_ok-last.ensures)
    (places-forward c.args.column (option_copied c.args.low) (option_copied c.args.high) c.requires))
