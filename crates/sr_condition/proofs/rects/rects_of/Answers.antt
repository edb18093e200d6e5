use Rattle.sr_query.specs.Binding.{cond_of}
use Rattle.sr_query.specs.Meant.{meant}
use Rattle.sr_condition.proofs.Rooms.{rects-of}
use Rattle.sr_condition.proofs.rects.rects_of.Goals as goal

pub returns : goal.returns
returns c = rects-of c.args.table.now.columns (cond_of (meant c.args.condition.now)) c.in_ok-rects.rects c.requires.narrow c.in_ok-rects.ensures
