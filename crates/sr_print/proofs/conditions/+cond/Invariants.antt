use Rattle.std.proofs.Common.{◌≡◌, drop, map}
use Rattle.sr_grammar.specs.Trees.{conds_of}
use Rattle.sr_grammar.specs.Printed.{conjunction, disjunction, and_others, or_others}
use Rattle.sr_grammar.specs.Seen.{cond_seen}
use Rattle.sr_print.specs.Writes.{written}
use Rattle.sr_print.proofs.conditions.+cond.Given as goal

abbrev pub invariant-conjunction-loop-one : goal.invariant-conjunction-loop-one
invariant-conjunction-loop-one l =
    written l.printer (and_others (conds_of (map cond_seen (drop l.one-index l.others)))) ≡ written l.fn.printer (conjunction (conds_of (map cond_seen l.all)))

abbrev pub invariant-disjunction-loop-one : goal.invariant-disjunction-loop-one
invariant-disjunction-loop-one l =
    written l.printer (or_others (conds_of (map cond_seen (drop l.one-index l.others)))) ≡ written l.fn.printer (disjunction (conds_of (map cond_seen l.all)))
