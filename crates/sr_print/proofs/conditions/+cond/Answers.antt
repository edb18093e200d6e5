use Rattle.std.proofs.Common.{List, ◌∷◌, map, codes, refl, ap, ◌∙◌}
use Rattle.sr_grammar.specs.declared.statement.Cond.{Cond}
use Rattle.sr_grammar.specs.Trees.{conds_of}
use Rattle.sr_grammar.specs.Printed.{key, unit, member, conjunction, disjunction, and_others, or_others}
use Rattle.sr_grammar.specs.Seen.{cond_seen}
use Rattle.sr_print.specs.Writes.{Page, written}
use Rattle.sr_print.proofs.WritingLists.{one_more, first_of_list}
use Rattle.sr_print.proofs.conditions.+cond.Goals as goal

pub conjunction-loop-one-init : goal.conjunction-loop-one-init
conjunction-loop-one-init t c =
    first_of_list (λ (all : List Cond). conjunction (conds_of (map cond_seen all))) (λ (all : List Cond). and_others (conds_of (map cond_seen all))) (λ (d : Cond). unit (cond_seen d)) (λ x xs. refl)
    c.args.all.now c.first-item.result c.args.printer.now _ c.in-len1-up.len_at_least c.first-item.is c.in_ok-unit.ensures

pub conjunction-loop-one-preserved : goal.conjunction-loop-one-preserved
conjunction-loop-one-preserved t c =
    one_more (λ (all : List Cond). and_others (conds_of (map cond_seen all))) (λ (all : List Cond). and_others (conds_of (map cond_seen all))) (λ (d : Cond). key (codes "AND") ∷ unit (cond_seen d)) (λ x xs. refl)
    _ _ c.one-item.result c.loop-one.printer _ c.loop-one-test.true c.one-item.is
    (c.in_ok-unit-2.ensures ∙ ap (λ (p : Page). written p (unit (cond_seen c.one-item.result))) c.in_ok-key.ensures)
    ∙ c.loop-one.invariant

pub disjunction-loop-one-init : goal.disjunction-loop-one-init
disjunction-loop-one-init t c =
    first_of_list (λ (all : List Cond). disjunction (conds_of (map cond_seen all))) (λ (all : List Cond). or_others (conds_of (map cond_seen all))) (λ (d : Cond). member (cond_seen d)) (λ x xs. refl)
    c.args.all.now c.first-item.result c.args.printer.now _ c.in-len1-up.len_at_least c.first-item.is c.in_ok-member.ensures

pub disjunction-loop-one-preserved : goal.disjunction-loop-one-preserved
disjunction-loop-one-preserved t c =
    one_more (λ (all : List Cond). or_others (conds_of (map cond_seen all))) (λ (all : List Cond). or_others (conds_of (map cond_seen all))) (λ (d : Cond). key (codes "OR") ∷ member (cond_seen d)) (λ x xs. refl)
    _ _ c.one-item.result c.loop-one.printer _ c.loop-one-test.true c.one-item.is
    (c.in_ok-member-2.ensures ∙ ap (λ (p : Page). written p (member (cond_seen c.one-item.result))) c.in_ok-key.ensures)
    ∙ c.loop-one.invariant
