use Rattle.sr_lines.proofs.Constrained.{rects_constrain_needed}
use Rattle.sr_lines.proofs.laws.rects_constrain_needed_columns.Goals as goal

pub returns : goal.returns
returns c = rects_constrain_needed
