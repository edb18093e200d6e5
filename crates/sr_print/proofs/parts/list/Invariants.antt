use Rattle.std.proofs.Common.{◌≡◌, ◌∷◌, drop, flat_map, codes}
use Rattle.sr_grammar.specs.Printed.{mark, commas}
use Rattle.sr_print.specs.Writes.{written}
use Rattle.sr_print.proofs.parts.list.Given as goal

abbrev pub invariant-loop-item : goal.invariant-loop-item
invariant-loop-item g l =
    written l.printer (flat_map (λ b. mark (codes ",") ∷ g.T.Print.tokens_of b) (drop l.item-index l.others)) ≡ written l.fn.printer (commas g.T.Print.tokens_of l.items)
