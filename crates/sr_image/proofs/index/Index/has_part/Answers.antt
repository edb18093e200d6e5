use Rattle.std.proofs.Common.{◌∙◌}
use Rattle.sr_image.proofs.Covering.{has-in}
use Rattle.sr_image.proofs.index.Index.has_part.Goals as goal

pub returns : goal.returns
returns c = c.has.ensures ∙ has-in c.args.attrs c.args.row c.args.rects.now c.args.self.now.order.items c.requires.same
