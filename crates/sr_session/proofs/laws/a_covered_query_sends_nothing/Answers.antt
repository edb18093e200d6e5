use Rattle.sr_session.proofs.PointLemmas.{a-covered-query-sends-nothing, a-covered-query-is-answered}
use Rattle.sr_session.proofs.laws.a_covered_query_sends_nothing.Goals as goal

pub returns-clause-silent : goal.returns-clause-silent
returns-clause-silent c = a-covered-query-sends-nothing

pub returns-clause-answered : goal.returns-clause-answered
returns-clause-answered c = a-covered-query-is-answered
