use Rattle.std.proofs.Common.{◌∙◌}
use Rattle.sr_image.proofs.Covering.{meets-in}
use Rattle.sr_image.proofs.index.Index.meets_before.Goals as goal

pub returns : goal.returns
returns c = c.has.ensures ∙ meets-in c.args.rect c.args.before c.args.rects.now c.args.self.now.order.items c.requires.same
