use Rattle.sr_client.proofs.BudgetLemmas.{clients-keep-to-budgets}
use Rattle.sr_client.proofs.laws.clients_keep_to_budgets.Goals as goal

pub returns : goal.returns
returns c = clients-keep-to-budgets
