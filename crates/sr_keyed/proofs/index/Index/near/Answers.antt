use Rattle.std.proofs.Common.{◌≡◌, true, false, sym, subst, ◌∙◌, ◌==◌, arith}
use Rattle.std.specs.Option.{option_copied}
use Rattle.std.specs.List.{list_any}
use Rattle.std.specs.BTreeSet.{contains}
use Rattle.std.specs.BTreeMap.Range.{range_contains}
use Rattle.std.specs.declared.ops.Bound.TheVariants.{Included}
use Rattle.std.proofs.lemmas.Option.{IfSome_then}
use Rattle.sr_keyed.specs.Places.{place_of, first_place, last_place, are_in_order}
use Rattle.sr_keyed.proofs.PlaceOrder.{place_order, none-between, place-inside, column-of, spot-of}
use Rattle.sr_keyed.proofs.index.Index.near.Goals as goal

pub returns-then-not-are_in_order : goal.returns-then-not-are_in_order
returns-then-not-are_in_order c key row indexed inside =
    let other : are_in_order (option_copied c.args.low) (option_copied c.args.high) ≡ false = grind (arith, c.if-not-are_in_order.true, c.are_in_order.ensures) in
    let no = none-between c.args.column (option_copied c.args.low) (option_copied c.args.high) row other inside in
    absurd (cc)

pub returns-in-Ok : goal.returns-in-Ok
returns-in-Ok c =
    let column = c.args.column in
    let low = option_copied c.args.low in
    let high = option_copied c.args.high in
    let index = c.args.self.now in
    let is : c.contains.result ≡ true = grind (arith, c.if-not-contains.false) in
    let among : list_any (λ x. x == column) index.columns.items ≡ true =
    subst (λ cs. list_any (λ x. x == column) cs ≡ true) c.as_slice.ensures.value (sym c.contains.ensures.value ∙ is) in
    IfSome_then c.in-Ok.near c.in-Ok.ensures (λ keys had key row indexed inside.
    spot-of keys (range_contains place_order (Included (first_place column low)) (Included (last_place column high))) index.places.keys (place_of key column row) had
    (place-inside key column low high row inside)
    (column-of (λ col. contains place_order index.places (place_of key col row)) index.columns.items column among indexed))
