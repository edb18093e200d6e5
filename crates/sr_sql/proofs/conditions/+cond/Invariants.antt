use Rattle.std.proofs.Common.{◌≡◌, ◌+◌, ◌*◌, ◌≤◌, map, length, true}
use Rattle.std.specs.Prelude.{codes}
use Rattle.sr_grammar.specs.Tokens.{Key, is}
use Rattle.sr_grammar_laws.specs.Reading.{next_is}
use Rattle.sr_grammar_laws.specs.Readers.{unit, conj_of, list}
use Rattle.sr_grammar_laws.proofs.Loops.{Going}
use Rattle.sr_grammar.specs.Seen.{cond_seen}
use Rattle.sr_sql.proofs.conditions.+cond.Given as goal

abbrev pub decreases-cond : goal.decreases-cond
decreases-cond l = 4 * l.levels + 2

abbrev pub decreases-conj : goal.decreases-conj
decreases-conj l = 4 * l.levels + 1

abbrev pub decreases-unit : goal.decreases-unit
decreases-unit l = 4 * l.levels

-- the levels inside
abbrev pub decreases-negated : goal.decreases-negated
decreases-negated l = 4 * l.levels + 1

abbrev pub decreases-enclosed : goal.decreases-enclosed
decreases-enclosed l = 4 * l.levels + 3

abbrev pub invariant-cond-more : goal.invariant-cond-more
invariant-cond-more l = record {
  going : Going Key (codes "OR") (conj_of (unit l.levels)) (map cond_seen l.all.items) l.cursor (list Key (codes "OR") (conj_of (unit l.levels)) l.fn.cursor);
  some : 1 ≤ length l.all.items;
  first : length l.all.items ≡ 1 → next_is (is Key (codes "OR")) l.cursor ≡ true;
}

abbrev pub decreases-cond-more : goal.decreases-cond-more
decreases-cond-more l = length l.cursor

abbrev pub invariant-conj-more : goal.invariant-conj-more
invariant-conj-more l = record {
  going : Going Key (codes "AND") (unit l.levels) (map cond_seen l.all.items) l.cursor (list Key (codes "AND") (unit l.levels) l.fn.cursor);
  some : 1 ≤ length l.all.items;
  first : length l.all.items ≡ 1 → next_is (is Key (codes "AND")) l.cursor ≡ true;
}

abbrev pub decreases-conj-more : goal.decreases-conj-more
decreases-conj-more l = length l.cursor
