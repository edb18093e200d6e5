use Rattle.std.proofs.Common.{refl, ap, map, length, arith}
use Rattle.sr_keyset.specs.Follows.{line_seen}
use Rattle.sr_keyset.proofs.Handing.{given-line, given-none}
use Rattle.sr_keyset.proofs.key_sets.KeySets.hand_line.Goals as goal

pub returns-in_ok-job-in-Some-clause-gives : goal.returns-in_ok-job-in-Some-clause-gives
returns-in_ok-job-in-Some-clause-gives c =
    given-line c.args.self.now (record { tables = c.args.self.now.tables; lines = c.next_of.new.lines; going = c.in_ok-job-in-Some.field-0.going }) c.in-Some.line c.in_ok-job-in-Some.field-0 c.in_ok-job-in-Some.ensures.hands refl
    (ap (map line_seen) c.in-Some.ensures.first) refl

pub returns-in_ok-job-in-Some-clause-falls : goal.returns-in_ok-job-in-Some-clause-falls
returns-in_ok-job-in-Some-clause-falls c =
    let few = c.in_ok-job-in-Some.ensures.few in
    let lines = ap (λ xs. length (map line_seen xs)) c.in-Some.ensures.first in
    omega (arith, few, lines)

pub returns-in-None-clause-gives : goal.returns-in-None-clause-gives
returns-in-None-clause-gives c = given-none c.args.self.now c.args.self.now (ap (map line_seen) c.in-None.ensures.none)
