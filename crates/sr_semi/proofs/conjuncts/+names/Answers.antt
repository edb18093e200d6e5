use Rattle.std.proofs.Common.{drop, ◌+◌, map, sym, ap, ◌∙◌}
use Rattle.std.specs.Prelude.{slice_get}
use Rattle.sr_grammar.specs.Seen.{cond_seen}
use Rattle.sr_grammar.specs.Trees.{conds_of}
use Rattle.sr_semi.specs.Texts.{all_names, names_in}
use Rattle.sr_semi.proofs.Looking.{names-more, seen-some, seen-none}
use Rattle.sr_semi.proofs.conjuncts.+names.Goals as goal

pub first_name_in-returns-then-is_some : goal.first_name_in-returns-then-is_some
first_name_in-returns-then-is_some t c =
    let rest = all_names (conds_of (map cond_seen (drop (c.loop-cond.cond-index + 1) c.args.conds.now))) in
    let more = names-more c.args.conds.now c.loop-cond.cond-index c.cond-item.result c.loop-cond-test.true c.cond-item.is in
    seen-some (λ x. x.now) c.first_name-name.result (names_in (cond_seen c.cond-item.result)) rest c.first_name-name.ensures (sym c.is_some.ensures ∙ c.if-is_some.true)
    ∙ (ap (λ ns. slice_get ns 0) (sym more) ∙ sym c.loop-cond.invariant)

pub first_name_in-loop-cond-preserved : goal.first_name_in-loop-cond-preserved
first_name_in-loop-cond-preserved t c =
    let rest = all_names (conds_of (map cond_seen (drop (c.loop-cond.cond-index + 1) c.args.conds.now))) in
    let more = names-more c.args.conds.now c.loop-cond.cond-index c.cond-item.result c.loop-cond-test.true c.cond-item.is in
    c.loop-cond.invariant ∙ (ap (λ ns. slice_get ns 0) more
    ∙ seen-none (λ x. x.now) c.first_name-name.result (names_in (cond_seen c.cond-item.result)) rest c.first_name-name.ensures (sym c.is_some.ensures ∙ c.if-is_some.false))
