use Rattle.std.proofs.Common.{◌∙◌, sym, arith}
use Rattle.sr_rows.proofs.Places.{without-none}
use Rattle.sr_region.proofs.Places.{without-at, place-there}
use Rattle.sr_store.proofs.give_way.remove_key.Goals as goal

pub overflow_sub-behind : goal.overflow_sub-behind
overflow_sub-behind c =
    let there = place-there c.args.place c.args.key.now c.args.rows.now c.requires (sym c.has_key_of.ensures ∙ c.if-has_key_of.true) in
    omega (arith, there, c.place_of-behind.ensures.place)

pub returns-then-has_key_of : goal.returns-then-has_key_of
returns-then-has_key_of c =
    c.remove.ensures.removed
    ∙ sym (without-at c.args.place c.args.key.now c.args.rows.now c.place_of-behind.result c.requires (sym c.has_key_of.ensures ∙ c.if-has_key_of.true) c.place_of-behind.ensures.place)

pub returns-else-has_key_of : goal.returns-else-has_key_of
returns-else-has_key_of c = sym (without-none c.args.place c.args.key.now c.args.rows.now (sym c.has_key_of.ensures ∙ c.if-has_key_of.false))
