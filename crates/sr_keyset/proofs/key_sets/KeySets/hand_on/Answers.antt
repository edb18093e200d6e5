use Rattle.std.proofs.Common.{refl, arith}
use Rattle.sr_keyset.proofs.Handing.{given-on}
use Rattle.sr_keyset.proofs.key_sets.KeySets.hand_on.Goals as goal

pub returns-clause-gives : goal.returns-clause-gives
returns-clause-gives c =
    given-on c.args.self.now (record { tables = c.args.self.now.tables; lines = c.args.self.now.lines; going = c.in_ok-job.field-0.going }) c.args.going c.args.answer.now c.in_ok-job.field-0 c.in_ok-job.ensures.hands refl refl refl

pub returns-clause-falls : goal.returns-clause-falls
returns-clause-falls c = let fewer = c.in_ok-job.ensures.fewer in omega (arith, fewer)
