use Rattle.sr_store.proofs.Meeting as lemmas
use Rattle.sr_store.proofs.laws.fitted_meets_told_budgets.Goals as goal

pub returns : goal.returns
returns c = lemmas.fitted_meets_told_budgets
