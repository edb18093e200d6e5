use Rattle.sr_lines.proofs.Parts.{events_name_clients}
use Rattle.sr_lines.proofs.laws.events_name_clients.Goals as goal

pub returns : goal.returns
returns c = events_name_clients
