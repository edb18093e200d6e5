use Rattle.std.proofs.Common.{◌∙◌, drop, sym}
use Rattle.sr_image.proofs.Alike.{alike-end}
use Rattle.sr_image.proofs.read.are_alike.Goals as goal

pub returns-in_default : goal.returns-in_default
returns-in_default c = sym (c.loop-own.invariant ∙ alike-end (drop c.loop-own.own-index c.args.front.now) c.loop-own.left.now c.in_default.len_below)
