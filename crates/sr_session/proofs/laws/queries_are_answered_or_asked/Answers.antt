use Rattle.sr_session.proofs.ProgressLemmas.{queries-are-answered-or-asked}
use Rattle.sr_session.proofs.laws.queries_are_answered_or_asked.Goals as goal

pub returns : goal.returns
returns c = queries-are-answered-or-asked
