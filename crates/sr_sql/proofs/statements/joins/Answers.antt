use Rattle.std.proofs.Common.{rules}
use Rattle.sr_grammar_laws.specs.Reading.{many}
use Rattle.sr_grammar_laws.specs.Readers.{begins_join, join}
use Rattle.sr_grammar_laws.proofs.Loops.{while_on}
use Rattle.sr_sql.proofs.Shrinking.{join_takes}
use Rattle.sr_sql.proofs.statements.joins.Goals as goal

pub more-preserved : goal.more-preserved
more-preserved c =
    rw c.in_ok-push.ensures.pushed
    (while_on begins_join join join_takes c.more.all c.more.cursor c.in_ok-join.field-0 c.join.new.cursor (many begins_join join c.args.cursor.now) (search rules) c.in_ok-join.ensures c.more.invariant)

pub more-smaller : goal.more-smaller
more-smaller c = join_takes c.more.cursor c.in_ok-join.field-0 c.join.new.cursor c.in_ok-join.ensures
