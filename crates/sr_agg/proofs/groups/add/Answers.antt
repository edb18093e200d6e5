use Rattle.std.proofs.Common.{rules, ◌≡◌, ◌∙◌, ◌+◌, ◌<◌, ◌^◌, ◌∷◌, [], ◌++◌, Some, sym, ap, map, take, length, get_or, arith}
use Rattle.std.specs.Prelude.{None}
use Rattle.std.specs.Map.{lookup}
use Rattle.std.specs.Option.{option_copied_mut}
use Rattle.std.specs.BTreeMap.{insert_entry}
use Rattle.std.specs.Vec.{with_items}
use Rattle.std.proofs.lemmas.List.{take_more, length-map, length-take-le, with_items_is}
use Rattle.sr_agg.specs.Kept.{entries_seen}
use Rattle.sr_agg.specs.Tallies.{grouped, with_row, first_tally}
use Rattle.sr_agg.proofs.Fewness.{first-few, kept-few}
use Rattle.sr_agg.proofs.Keeping.{finds, group-added-at, on-ok, row-added-at, vec_order}
use Rattle.sr_agg.proofs.groups.add.Goals as goal

pub add_row-requires : goal.add_row-requires
add_row-requires c =
    let found : lookup (finds c.as_slice.result.now) c.args.groups.now.entries ≡ Some c.in-Some.tallies.now = sym c.in-Some.ensures.value in
    let within = c.requires.within in
    let all : length c.args.rows.now < 2 ^ 63 = search rules in
    let few : length (take c.args.number c.args.rows.now) < 2 ^ 63 = let len = length-take-le c.args.number c.args.rows.now (omega (arith, within)) in omega (arith, len, within, all) in
    let same : c.deref_mut.result.now ≡ c.in-Some.tallies.now.items = search rules in
    rw same (kept-few c.args.count c.args.items.now (take c.args.number c.args.rows.now) c.as_slice.result.now c.args.groups.now.entries c.in-Some.tallies.now c.requires.so_far few found)

pub returns-in-Some : goal.returns-in-Some
returns-in-Some c =
    let w = with_items c.in-Some.tallies.now c.add_row.new.tallies in
    let row = c.index-rows-number.result in
    let found : lookup (finds c.as_slice.result.now) c.args.groups.now.entries ≡ Some c.in-Some.tallies.now = sym c.in-Some.ensures.value in
    let same : c.deref_mut.result.now ≡ c.in-Some.tallies.now.items = search rules in
    let here : row ≡ get_or c.args.rows.now c.args.number row = search rules in
    let more : take (c.args.number + 1) c.args.rows.now ≡ take c.args.number c.args.rows.now ++ row ∷ [] =
    take_more c.args.rows.now c.args.number row c.requires.within ∙ ap (λ z. take c.args.number c.args.rows.now ++ z ∷ []) (sym here) in
    on-ok c.add_row.result c.add_row.ensures
    (λ grown.
    let all = grown ∙ ap (map (λ tally. with_row tally row)) same in
    let len : length c.add_row.new.tallies ≡ c.in-Some.tallies.now.len = ap length all ∙ (length-map c.in-Some.tallies.now.items (λ tally. with_row tally row) ∙ sym c.in-Some.tallies.now.ok.0) in
    ap entries_seen (c.get_mut.follows.holds w).0
    ∙ (row-added-at c.args.count c.args.items.now (take c.args.number c.args.rows.now) row c.as_slice.result.now c.args.groups.now.entries c.in-Some.tallies.now w (c.as_slice.ensures.value ∙ c.in_ok-key.ensures) c.requires.so_far
    c.in-Some.ensures.ordered found (with_items_is c.in-Some.tallies.now c.add_row.new.tallies len ∙ all)
    ∙ ap (grouped c.args.count c.args.items.now) (sym more)))

pub add_row-requires-2 : goal.add_row-requires-2
add_row-requires-2 c =
    let same : c.deref_mut-2.result.now ≡ map first_tally c.args.items.now = search rules in
    rw same (first-few c.args.items.now)

pub returns : goal.returns
returns c =
    let w = with_items c.in_ok-tallies.tallies c.add_row-2.new.tallies in
    let row = c.index-rows-number.result in
    let none : lookup (finds c.as_slice.result.now) c.args.groups.now.entries ≡ None = sym c.get_mut.ensures.value ∙ ap option_copied_mut c.in_default.is in
    let same : c.deref_mut-2.result.now ≡ map first_tally c.args.items.now = search rules in
    let here : row ≡ get_or c.args.rows.now c.args.number row = search rules in
    let more : take (c.args.number + 1) c.args.rows.now ≡ take c.args.number c.args.rows.now ++ row ∷ [] =
    take_more c.args.rows.now c.args.number row c.requires.within ∙ ap (λ z. take c.args.number c.args.rows.now ++ z ∷ []) (sym here) in
    let all = c.in_ok-add_row.ensures ∙ ap (map (λ tally. with_row tally row)) same in
    let items : c.in_ok-tallies.tallies.items ≡ map first_tally c.args.items.now = c.in_ok-tallies.ensures in
    let len : length c.add_row-2.new.tallies ≡ c.in_ok-tallies.tallies.len =
    ap length all ∙ (length-map (map first_tally c.args.items.now) (λ tally. with_row tally row) ∙ (sym (ap length items) ∙ sym c.in_ok-tallies.tallies.ok.0)) in
    ap entries_seen c.in_ok-insert.ensures.entries
    ∙ (ap (λ m. entries_seen (insert_entry vec_order m.entries c.in_ok-key.key w)) c.get_mut.follows.holds-at-none
    ∙ (group-added-at c.args.count c.args.items.now (take c.args.number c.args.rows.now) row c.as_slice.result.now c.args.groups.now.entries c.in_ok-key.key w (c.as_slice.ensures.value ∙ c.in_ok-key.ensures) c.requires.so_far
    (sym c.as_slice.ensures.value) none (with_items_is c.in_ok-tallies.tallies c.add_row-2.new.tallies len ∙ all)
    ∙ ap (grouped c.args.count c.args.items.now) (sym more)))
