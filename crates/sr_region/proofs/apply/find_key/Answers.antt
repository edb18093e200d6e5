use Rattle.std.proofs.Common.{sym, ◌∙◌, arith}
use Rattle.sr_rows.proofs.Places.{without-none}
use Rattle.sr_region.proofs.Places.{without-at, place-there}
use Rattle.sr_region.proofs.apply.find_key.Goals as goal

pub overflow_sub-result : goal.overflow_sub-result
overflow_sub-result c =
    let there = place-there c.args.column c.args.key.now c.args.rows.now c.requires (sym c.has_key_of.ensures ∙ c.if-has_key_of.true) in
    omega (arith, c.place_of.ensures.place)

pub returns-then-has_key_of-clause-without : goal.returns-then-has_key_of-clause-without
returns-then-has_key_of-clause-without c =
    without-at c.args.column c.args.key.now c.args.rows.now c.place_of.result c.requires (sym c.has_key_of.ensures ∙ c.if-has_key_of.true) c.place_of.ensures.place

pub returns-else-has_key_of-clause-none : goal.returns-else-has_key_of-clause-none
returns-else-has_key_of-clause-none c = without-none c.args.column c.args.key.now c.args.rows.now (sym c.has_key_of.ensures ∙ c.if-has_key_of.false)
