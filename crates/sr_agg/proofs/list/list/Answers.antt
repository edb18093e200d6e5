use Rattle.std.specs.Prelude.{codes}
use Rattle.sr_grammar.specs.Tokens.{Mark}
use Rattle.sr_grammar_laws.specs.Readers.{list}
use Rattle.sr_grammar_laws.proofs.Loops.{goes_on}
use Rattle.sr_agg.proofs.list.list.Goals as goal

pub more-preserved : goal.more-preserved
more-preserved g c =
    let comma = rw c.in-Some.is at c.maybe_mark.ensures in
    rw c.in_ok-push-2.ensures.pushed
    (goes_on Mark (codes ",") g.T.Member.reader c.requires c.more.all c.more.cursor c.maybe_mark.new.self c.in-Some.field-0 c.in_ok-read-2.field-0 c.read-in-Some.new.cursor (list Mark (codes ",") g.T.Member.reader c.args.cursor.now)
    comma.0 comma.1 c.in_ok-read-2.ensures c.more.invariant)
