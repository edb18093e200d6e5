use Rattle.sr_session.proofs.BudgetLemmas.{caches-keep-to-their-budgets}
use Rattle.sr_session.proofs.laws.caches_keep_to_their_budgets.Goals as goal

pub returns : goal.returns
returns c = record { budgets = caches-keep-to-their-budgets }
