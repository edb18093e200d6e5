use Rattle.std.proofs.Common.{◌-◌, length, drop, ap, ◌∙◌}
use Rattle.std.specs.Prelude.{min}
use Rattle.sr_log.proofs.Numbers.{tail_above}
use Rattle.sr_log.proofs.Pushing.{slice_rest}
use Rattle.sr_log.proofs.log.Log.since.Goals as goal

pub returns-clause-above : goal.returns-clause-above
returns-clause-above c =
    let slice = slice_rest c.self.inside.gone c.self.inside.entries.items c.deref.result.now c.deref.ensures.value in
    rw (← c.self.view_is, slice)
    (tail_above c.args.version c.self.inside.floor c.min-first.result (drop c.self.inside.gone c.self.inside.entries.items) c.if-version-self.false
    (c.min-first.ensures ∙ ap (λ es. min (c.args.version - c.self.inside.floor) (length es)) slice) c.self.invariant.1)
