use Rattle.std.proofs.Common.{◌≡◌, ◌≤◌, length, drop, sym, ap, arith, ◌∙◌}
use Rattle.sr_log.specs.declared.entry.Entry.{Entry}
use Rattle.sr_log.specs.Held.{changes_of}
use Rattle.sr_log.specs.Kept.{total, floor}
use Rattle.sr_log.proofs.Least.{floor-none}
use Rattle.sr_log.proofs.Leaving.{left_next}
use Rattle.sr_log.proofs.log.surplus.Goals as goal

pub overflow_sub-left : goal.overflow_sub-left
overflow_sub-left c =
    let next = left_next c.args.limit c.loop-left.left c.loop-left.dropped c.args.entries.now c.index-entries-dropped.result c.loop-left.invariant.0 c.loop-left.invariant.1 c.loop-left-test.true c.index-entries-dropped.is in
    omega (arith, next.enough, c.len-left.ensures ∙ ap (λ (e : Entry). length e.changes) (sym c.index-entries-dropped.is))

pub loop-left-preserved : goal.loop-left-preserved
loop-left-preserved c =
    let next = left_next c.args.limit c.loop-left.left c.loop-left.dropped c.args.entries.now c.index-entries-dropped.result c.loop-left.invariant.0 c.loop-left.invariant.1 c.loop-left-test.true c.index-entries-dropped.is in
    (rw (c.len-left.ensures ∙ ap (λ (e : Entry). length e.changes) (sym c.index-entries-dropped.is)) next.left_then, next.dropped_then)

pub returns-clause-dropped : goal.returns-clause-dropped
returns-clause-dropped c =
    let few : total (drop c.loop-left.dropped (changes_of c.args.entries.now)) ≤ c.args.limit = omega (arith, c.loop-left.invariant.0, c.loop-left-test.false) in
    omega (arith, c.loop-left.invariant.1, floor-none c.args.limit (drop c.loop-left.dropped (changes_of c.args.entries.now)) few)

pub returns-clause-left : goal.returns-clause-left
returns-clause-left c =
    let few : total (drop c.loop-left.dropped (changes_of c.args.entries.now)) ≤ c.args.limit = omega (arith, c.loop-left.invariant.0, c.loop-left-test.false) in
    let all : c.loop-left.dropped ≡ floor c.args.limit (changes_of c.args.entries.now) =
    omega (arith, c.loop-left.invariant.1, floor-none c.args.limit (drop c.loop-left.dropped (changes_of c.args.entries.now)) few) in
    c.loop-left.invariant.0 ∙ ap (λ n. total (drop n (changes_of c.args.entries.now))) all
