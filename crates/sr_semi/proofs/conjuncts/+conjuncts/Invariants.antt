use Rattle.std.proofs.Common.{◌≡◌, ◌++◌, drop, map}
use Rattle.std.specs.Prelude.{filter}
use Rattle.sr_grammar.specs.Seen.{cond_seen}
use Rattle.sr_grammar.specs.Trees.{conds_of}
use Rattle.sr_semi.specs.Texts.{all_conjuncts, is_about}
use Rattle.sr_semi.proofs.conjuncts.+conjuncts.Given as goal

abbrev pub invariant-all_conjuncts_in-loop-cond : goal.invariant-all_conjuncts_in-loop-cond
invariant-all_conjuncts_in-loop-cond l =
    map cond_seen l.found ++ filter (is_about l.schema l.tables l.part) (all_conjuncts (conds_of (map cond_seen (drop l.cond-index l.conds))))
    ≡ filter (is_about l.schema l.tables l.part) (all_conjuncts (conds_of (map cond_seen l.conds)))
