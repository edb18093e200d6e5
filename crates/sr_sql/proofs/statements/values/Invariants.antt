use Rattle.std.proofs.Common.{length}
use Rattle.std.specs.Prelude.{codes}
use Rattle.sr_grammar.specs.Tokens.{Mark}
use Rattle.sr_grammar_laws.specs.Readers.{value, list}
use Rattle.sr_sql.proofs.Lists.{Listing}
use Rattle.sr_sql.proofs.statements.values.Given as goal

abbrev pub invariant-more : goal.invariant-more
invariant-more l = Listing Mark (codes ",") value l.all l.cursor (list Mark (codes ",") value l.fn.cursor)

abbrev pub decreases-more : goal.decreases-more
decreases-more l = length l.cursor
