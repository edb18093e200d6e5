use Rattle.std.proofs.Common.{length}
use Rattle.sr_grammar_laws.specs.Reading.{many}
use Rattle.sr_grammar_laws.specs.Readers.{begins_join, join}
use Rattle.sr_grammar_laws.proofs.Loops.{While}
use Rattle.sr_sql.proofs.statements.joins.Given as goal

abbrev pub invariant-more : goal.invariant-more
invariant-more l = While begins_join join l.all l.cursor (many begins_join join l.fn.cursor)

abbrev pub decreases-more : goal.decreases-more
decreases-more l = length l.cursor
