use Rattle.std.proofs.Common.{sym, ◌∙◌, arith}
use Rattle.sr_union.proofs.Hulls.{near_none}
use Rattle.sr_union.proofs.rects.Rects.near.Goals as goal

pub returns-then-not-meets : goal.returns-then-not-meets
returns-then-not-meets c = c.new.ensures ∙ sym (near_none c.args.others.now c.args.self.now (grind (arith, c.if-not-meets.true, c.meets.ensures.is)))
