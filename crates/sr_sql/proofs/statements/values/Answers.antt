use Rattle.std.proofs.Common.{arith}
use Rattle.std.specs.Prelude.{codes}
use Rattle.sr_grammar.specs.Tokens.{Mark}
use Rattle.sr_grammar.specs.Words.{place_of}
use Rattle.sr_grammar_laws.specs.Readers.{value, list}
use Rattle.sr_grammar_laws.proofs.Loops.{one_shrinks}
use Rattle.sr_sql.proofs.Lists.{listing_first, listing_on}
use Rattle.sr_sql.proofs.Shrinking.{value_less}
use Rattle.sr_sql.proofs.statements.values.Goals as goal

pub more-init : goal.more-init
more-init c = rw c.new-all.ensures (listing_first Mark (codes ",") value c.args.cursor.now)

pub more-preserved : goal.more-preserved
more-preserved c =
    let comma = rw c.in-Some.is at c.maybe_mark.ensures in
    rw c.in_ok-push.ensures.pushed
    (listing_on Mark (codes ",") value value_less c.more.all c.more.cursor c.value.new.cursor c.maybe_mark.new.self c.in-Some.field-0 c.in_ok-value.field-0 (list Mark (codes ",") value c.args.cursor.now) c.in_ok-value.ensures
    comma.0 comma.1 c.more.invariant)

pub more-smaller : goal.more-smaller
more-smaller c =
    let comma = rw c.in-Some.is at c.maybe_mark.ensures in
    let one = value_less c.more.cursor c.in_ok-value.field-0 c.value.new.cursor c.in_ok-value.ensures in
    let two = one_shrinks (place_of Mark (codes ",")) c.value.new.cursor c.in-Some.field-0 c.maybe_mark.new.self comma.1 in
    omega (arith, one, two)
