use Rattle.std.proofs.Common.{refl}
use Rattle.sr_lines.specs.Lines.{lines_of}
use Rattle.sr_lines.specs.Script.{start_phase}
use Rattle.sr_world.proofs.Named.{named-lines}
use Rattle.sr_world.proofs.laws.replays_name_their_tables.Goals as goal

pub returns : goal.returns
returns c = λ options script loads left trace last traced.
    named-lines options.clients 1 start_phase traced.end (lines_of script) traced.all traced.reads (refl, refl)
