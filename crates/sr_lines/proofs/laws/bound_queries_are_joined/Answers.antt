use Rattle.sr_lines.proofs.Joined.{bound_are_joined}
use Rattle.sr_lines.proofs.laws.bound_queries_are_joined.Goals as goal

pub returns : goal.returns
returns c = bound_are_joined
