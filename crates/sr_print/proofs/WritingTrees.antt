-- The tokens of conditions with members.
use Rattle.std.proofs.Common.{◌≡◌, [], ◌∷◌, ◌++◌, map, ap, Vec, Global}
use Rattle.std.specs.Prelude.{codes}
use Rattle.sr_grammar.specs.declared.statement.Cond.{Cond}
use Rattle.sr_grammar.specs.declared.statement.Cond.TheViews.{And, Or, roll-Cond}
use Rattle.sr_grammar.specs.declared.statement.Cond.TheOpen as open_layer
use Rattle.sr_grammar.specs.declared.statement.Cond.TheFolds.{fold-roll-Cond}
use Rattle.sr_grammar.specs.Trees as tree
use Rattle.sr_grammar.specs.Trees.{conds_of}
use Rattle.sr_grammar.specs.Printed.{mark, unit, conjunction, disjunction}
use Rattle.sr_grammar.specs.Seen.{cond_seen, layer}

seen_and : (all : Vec Cond Global) → cond_seen (And all) ≡ tree.And (conds_of (map cond_seen all.items))
unfolding roll-Cond denote.Hole.Carrier.roll
seen_and all = fold-roll-Cond tree.Cond layer (open_layer.And all)

seen_or : (all : Vec Cond Global) → cond_seen (Or all) ≡ tree.Or (conds_of (map cond_seen all.items))
unfolding roll-Cond denote.Hole.Carrier.roll
seen_or all = fold-roll-Cond tree.Cond layer (open_layer.Or all)

pub unit_and : (all : Vec Cond Global) → unit (cond_seen (And all)) ≡ mark (codes "(") ∷ (conjunction (conds_of (map cond_seen all.items)) ++ mark (codes ")") ∷ [])
unit_and all = ap unit (seen_and all)

pub unit_or : (all : Vec Cond Global) → unit (cond_seen (Or all)) ≡ mark (codes "(") ∷ (disjunction (conds_of (map cond_seen all.items)) ++ mark (codes ")") ∷ [])
unit_or all = ap unit (seen_or all)
