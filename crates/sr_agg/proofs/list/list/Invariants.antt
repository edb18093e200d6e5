use Rattle.std.proofs.Common.{length}
use Rattle.std.specs.Prelude.{codes}
use Rattle.sr_grammar.specs.Tokens.{Mark}
use Rattle.sr_grammar_laws.specs.Readers.{list}
use Rattle.sr_grammar_laws.proofs.Loops.{Going}
use Rattle.sr_agg.proofs.list.list.Given as goal

abbrev pub invariant-more : goal.invariant-more
invariant-more g l = Going Mark (codes ",") g.T.Member.reader l.all l.cursor (list Mark (codes ",") g.T.Member.reader l.fn.cursor)

abbrev pub decreases-more : goal.decreases-more
decreases-more g l = length l.cursor
