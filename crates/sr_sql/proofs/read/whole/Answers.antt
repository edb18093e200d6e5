use Rattle.std.proofs.Common.{rules}
use Rattle.sr_grammar.specs.Says.{most_levels}
use Rattle.sr_grammar_laws.specs.Readers.{whole}
use Rattle.sr_sql.specs.Seen.{tree_seen}
use Rattle.sr_sql.proofs.Spelled.{statement_got}
use Rattle.sr_sql.proofs.read.whole.Goals as goal

pub returns : goal.returns
unfolding whole
returns c =
    let read = statement_got most_levels c.args.cursor.now c.tree.new.cursor c.maybe_mark.new.self (tree_seen c.in_ok-tree.tree) c.maybe_mark.result c.in_ok-tree.ensures c.maybe_mark.ensures in
    search rules
