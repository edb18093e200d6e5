use Rattle.std.proofs.Common.{length}
use Rattle.std.specs.Prelude.{codes}
use Rattle.sr_grammar.specs.Tokens.{Mark}
use Rattle.sr_grammar_laws.specs.Readers.{list}
use Rattle.sr_sql.proofs.Lists.{Listing}
use Rattle.sr_sql.proofs.items.list.Given as goal

abbrev pub invariant-more : goal.invariant-more
invariant-more g l = Listing Mark (codes ",") g.T.Item.reader l.all l.cursor (list Mark (codes ",") g.T.Item.reader l.fn.cursor)

abbrev pub decreases-more : goal.decreases-more
decreases-more g l = length l.cursor
