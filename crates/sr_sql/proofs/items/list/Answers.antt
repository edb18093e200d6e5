use Rattle.std.proofs.Common.{arith}
use Rattle.std.specs.Prelude.{codes}
use Rattle.sr_grammar.specs.Tokens.{Mark}
use Rattle.sr_grammar.specs.Words.{place_of}
use Rattle.sr_grammar_laws.specs.Readers.{list}
use Rattle.sr_grammar_laws.proofs.Loops.{one_shrinks}
use Rattle.sr_sql.proofs.Lists.{listing_first, listing_on}
use Rattle.sr_sql.proofs.items.list.Goals as goal

pub more-init : goal.more-init
more-init g c = rw c.new-all.ensures (listing_first Mark (codes ",") g.T.Item.reader c.args.cursor.now)

pub more-preserved : goal.more-preserved
more-preserved g c =
    let comma = rw c.in-Some.is at c.maybe_mark.ensures in
    rw c.in_ok-push.ensures.pushed
    (listing_on Mark (codes ",") g.T.Item.reader g.met.T.Item.less c.more.all c.more.cursor c.read.new.cursor c.maybe_mark.new.self c.in-Some.field-0 c.in_ok-read.field-0 (list Mark (codes ",") g.T.Item.reader c.args.cursor.now) c.in_ok-read.ensures
    comma.0 comma.1 c.more.invariant)

pub more-smaller : goal.more-smaller
more-smaller g c =
    let comma = rw c.in-Some.is at c.maybe_mark.ensures in
    let one = g.met.T.Item.less c.more.cursor c.in_ok-read.field-0 c.read.new.cursor c.in_ok-read.ensures in
    let two = one_shrinks (place_of Mark (codes ",")) c.read.new.cursor c.in-Some.field-0 c.maybe_mark.new.self comma.1 in
    omega (arith, one, two)
