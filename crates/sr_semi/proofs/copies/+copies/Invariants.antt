use Rattle.std.proofs.Common.{◌≡◌, ◌++◌, drop, map}
use Rattle.sr_grammar.specs.Seen.{cond_seen}
use Rattle.sr_semi.proofs.copies.+copies.Given as goal

abbrev pub invariant-copy_all-loop-cond : goal.invariant-copy_all-loop-cond
invariant-copy_all-loop-cond l = map cond_seen l.all ++ map cond_seen (drop l.cond-index l.conds) ≡ map cond_seen l.conds
