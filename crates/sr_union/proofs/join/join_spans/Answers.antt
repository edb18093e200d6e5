use Rattle.std.proofs.Common.{subst}
use Rattle.std.specs.Prelude.{IfSome}
use Rattle.sr_union.specs.Joined.{AreBeside}
use Rattle.sr_union.proofs.Joined.{both-up, both-down}
use Rattle.sr_union.proofs.join.join_spans.Goals as goal

pub returns-in-Some : goal.returns-in-Some
returns-in-Some c =
    both-up c.args.column.now c.args.one.now c.args.other.now c.in-Some.both c.fitted.result c.requires.fits c.requires.other_fits
    (subst (λ some. IfSome some (AreBeside c.args.one.now c.args.other.now)) c.in-Some.is c.in_ok-both.ensures) c.fitted.ensures

pub returns-in-Some-2 : goal.returns-in-Some-2
returns-in-Some-2 c =
    both-down c.args.column.now c.args.one.now c.args.other.now c.in-Some-2.both c.fitted-in-Some-2.result c.requires.fits c.requires.other_fits
    (subst (λ some. IfSome some (AreBeside c.args.other.now c.args.one.now)) c.in-Some-2.is c.in_ok-both-in-None.ensures) c.fitted-in-Some-2.ensures
