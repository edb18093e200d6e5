use Rattle.sr_report.proofs.Right.{reports-ask-few}
use Rattle.sr_report.proofs.laws.reports_ask_few.Goals as goal

pub returns : goal.returns
returns c = reports-ask-few
