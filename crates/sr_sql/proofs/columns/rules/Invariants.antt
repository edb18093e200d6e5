use Rattle.sr_grammar.specs.Columns.{all_left}
use Rattle.sr_grammar_laws.specs.Readers.{rules}
use Rattle.sr_sql.specs.Rules.{left_seen}
use Rattle.sr_sql.proofs.Ruling.{how_many, Ruling}
use Rattle.sr_sql.proofs.columns.rules.Given as goal

abbrev pub invariant-more : goal.invariant-more
invariant-more l = Ruling l.all (left_seen l.left) l.cursor (rules 3 all_left l.fn.cursor)

abbrev pub decreases-more : goal.decreases-more
decreases-more l = how_many (left_seen l.left)
