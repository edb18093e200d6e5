use Rattle.sr_report.proofs.Telling.{reports-are-right}
use Rattle.sr_report.proofs.laws.reports_are_right.Goals as goal

pub returns : goal.returns
returns g c = reports-are-right
