use Rattle.sr_lines.proofs.Joined.{bound_have_few_parts}
use Rattle.sr_lines.proofs.laws.bound_queries_have_few_parts.Goals as goal

pub returns : goal.returns
returns c = bound_have_few_parts
