use Rattle.std.proofs.Common.{◌≡◌, drop, map}
use Rattle.std.specs.Prelude.{slice_get}
use Rattle.sr_grammar.specs.Seen.{cond_seen}
use Rattle.sr_grammar.specs.Trees.{conds_of}
use Rattle.sr_semi.specs.Texts.{all_names}
use Rattle.sr_semi.proofs.conjuncts.+names.Given as goal

abbrev pub invariant-first_name_in-loop-cond : goal.invariant-first_name_in-loop-cond
invariant-first_name_in-loop-cond l =
    slice_get (all_names (conds_of (map cond_seen l.conds))) 0 ≡ slice_get (all_names (conds_of (map cond_seen (drop l.cond-index l.conds)))) 0
