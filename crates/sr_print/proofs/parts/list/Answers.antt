use Rattle.std.proofs.Common.{◌∷◌, flat_map, codes, refl, ap, ◌∙◌}
use Rattle.sr_grammar.specs.Printed.{mark, commas}
use Rattle.sr_print.specs.Writes.{Page, written}
use Rattle.sr_print.proofs.WritingLists.{one_more, first_of_list}
use Rattle.sr_print.proofs.parts.list.Goals as goal

pub loop-item-init : goal.loop-item-init
loop-item-init g c =
    first_of_list (commas g.T.Print.tokens_of) (flat_map (λ b. mark (codes ",") ∷ g.T.Print.tokens_of b)) g.T.Print.tokens_of (λ x xs. refl)
    c.args.items.now c.first-item.result c.args.printer.now _ c.in-len1-up.len_at_least c.first-item.is c.in_ok-print.ensures

pub loop-item-preserved : goal.loop-item-preserved
loop-item-preserved g c =
    one_more (flat_map (λ b. mark (codes ",") ∷ g.T.Print.tokens_of b)) (flat_map (λ b. mark (codes ",") ∷ g.T.Print.tokens_of b)) (λ b. mark (codes ",") ∷ g.T.Print.tokens_of b) (λ x xs. refl)
    _ _ c.item-item.result c.loop-item.printer _ c.loop-item-test.true c.item-item.is
    (c.in_ok-print-2.ensures ∙ ap (λ (p : Page). written p (g.T.Print.tokens_of c.item-item.result)) c.in_ok-mark.ensures)
    ∙ c.loop-item.invariant
