use Rattle.std.proofs.Common.{◌∙◌, drop, sym, ap}
use Rattle.std.proofs.lemmas.Result.{on_ok_weaker}
use Rattle.sr_store.specs.Making.{place_in, is_same_first}
use Rattle.sr_store.proofs.Joining.{joins, added_joined, added_new}
use Rattle.sr_store.proofs.add.add.Goals as goal

pub join-requires : goal.join-requires
join-requires c =
    let same = sym (ap (λ gs. is_same_first (drop c.place_of-place.result gs) c.args.region) c.as_slice-2.ensures) ∙ sym c.is_same_at.ensures ∙ c.if-is_same_at.true in
    joins c.args.regions.now c.args.region c.remove-own.result c.place_of-place.result c.requires.join same c.remove-own.ensures.taken

pub returns-in_ok-join : goal.returns-in_ok-join
returns-in_ok-join c =
    let same = sym (ap (λ gs. is_same_first (drop c.place_of-place.result gs) c.args.region) c.as_slice-2.ensures) ∙ sym c.is_same_at.ensures ∙ c.if-is_same_at.true in
    let place = c.place_of-place.ensures.place ∙ ap (λ gs. place_in gs c.args.region) c.as_slice.ensures in
    on_ok_weaker c.insert.result
    (added_joined c.args.regions.now c.remove-own.new.self c.insert.new.self c.args.region c.remove-own.result c.in_ok-join.field-0 c.place_of-place.result place same
    c.remove-own.ensures.taken c.remove-own.ensures.removed c.in_ok-join.ensures.joined)
    c.insert.ensures.inserted

pub returns-else-is_same_at : goal.returns-else-is_same_at
returns-else-is_same_at c =
    let same = sym (ap (λ gs. is_same_first (drop c.place_of-place.result gs) c.args.region) c.as_slice-2.ensures) ∙ sym c.is_same_at.ensures ∙ c.if-is_same_at.false in
    let place = c.place_of-place.ensures.place ∙ ap (λ gs. place_in gs c.args.region) c.as_slice.ensures in
    let put = c.insert-else-is_same_at in
    on_ok_weaker put.result (added_new c.args.regions.now put.new.self c.args.region c.place_of-place.result place same) put.ensures.inserted
