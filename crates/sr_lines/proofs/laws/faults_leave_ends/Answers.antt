use Rattle.sr_lines.proofs.Parts.{faults_leave_ends}
use Rattle.sr_lines.proofs.laws.faults_leave_ends.Goals as goal

pub returns : goal.returns
returns c = faults_leave_ends
