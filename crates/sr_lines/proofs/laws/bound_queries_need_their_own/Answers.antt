use Rattle.sr_lines.proofs.Own.{bound_need_own}
use Rattle.sr_lines.proofs.laws.bound_queries_need_their_own.Goals as goal

pub returns : goal.returns
returns c = bound_need_own
