use Rattle.std.proofs.Common.{sym, arith}
use Rattle.sr_subs.proofs.Lengths.{same-length}
use Rattle.sr_subs.proofs.subs.are_same.Goals as goal

pub returns-then-before-after : goal.returns-then-before-after
returns-then-before-after c = sym (same-length 0 c.args.attrs c.args.before.now c.args.after.now (λ same. omega (arith, same, c.if-before-after.true)))
