use Rattle.std.proofs.Common.{◌∙◌}
use Rattle.sr_condition.proofs.Starts.{same_start}
use Rattle.sr_condition.proofs.passes.is_start.Goals as goal

pub returns : goal.returns
returns c = c.starts_with.ensures.value ∙ same_start c.args.start.now c.args.text.now
