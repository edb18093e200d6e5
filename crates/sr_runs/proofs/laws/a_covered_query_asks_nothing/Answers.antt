use Rattle.sr_runs.proofs.CoveredLemmas.{a-covered-query-asks-nothing}
use Rattle.sr_runs.proofs.laws.a_covered_query_asks_nothing.Goals as goal

pub returns : goal.returns
returns c = record { answered = a-covered-query-asks-nothing }
