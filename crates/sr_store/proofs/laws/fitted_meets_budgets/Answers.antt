use Rattle.sr_store.proofs.Meeting as meeting
use Rattle.sr_store.proofs.laws.fitted_meets_budgets.Goals as goal

pub returns : goal.returns
returns c = meeting.fitted_meets_budgets
