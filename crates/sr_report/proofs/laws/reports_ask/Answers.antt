use Rattle.sr_report.proofs.Right.{reports-ask}
use Rattle.sr_report.proofs.laws.reports_ask.Goals as goal

pub returns : goal.returns
returns c = reports-ask
