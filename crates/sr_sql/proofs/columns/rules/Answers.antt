use Rattle.std.proofs.lemmas.Result.{err_from_is_err_and}
use Rattle.sr_grammar.specs.Columns.{all_left}
use Rattle.sr_grammar_laws.specs.Readers.{rules}
use Rattle.sr_sql.specs.Rules.{left_seen}
use Rattle.sr_sql.proofs.Ruling.{ruling_first, ruling_on, ruling_done, ruling_stops, rules_less}
use Rattle.sr_sql.proofs.columns.rules.Goals as goal

pub more-init : goal.more-init
more-init c = rw c.new-all.ensures (ruling_first c.args.cursor.now)

pub returns-in_err-found : goal.returns-in_err-found
returns-in_err-found c =
    let same = err_from_is_err_and c.from_residual.result c.from_residual.ensures.1 in
    rw (same.1, same.2) (ruling_stops c.more.all (left_seen c.more.left) c.args.cursor.now c.more.cursor c.rule.new.cursor c.in_err-found.field-0.0 c.in_err-found.ensures c.more.invariant)

pub more-smaller : goal.more-smaller
more-smaller c =
    let found = rw c.in-Some.is at c.in_ok-found.ensures in
    rw c.without-left.ensures (rules_less (left_seen c.more.left) c.more.cursor c.in-Some.found c.rule.new.cursor found)

pub more-preserved : goal.more-preserved
more-preserved c =
    let found = rw c.in-Some.is at c.in_ok-found.ensures in
    rw (c.in_ok-push.ensures.pushed, c.without-left.ensures)
    (ruling_on c.more.all (left_seen c.more.left) c.more.cursor c.in-Some.found c.rule.new.cursor (rules 3 all_left c.args.cursor.now) found c.more.invariant)

pub returns : goal.returns
returns c =
    let none = rw c.in_default.is at c.in_ok-found.ensures in
    ruling_done c.more.all (left_seen c.more.left) c.more.cursor c.rule.new.cursor (rules 3 all_left c.args.cursor.now) none c.more.invariant
