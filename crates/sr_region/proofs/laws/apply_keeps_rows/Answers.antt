use Rattle.sr_region.proofs.Kept.{keeps}
use Rattle.sr_region.proofs.laws.apply_keeps_rows.Goals as goal

pub returns : goal.returns
returns c = keeps
