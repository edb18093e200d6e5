use Rattle.sr_plan.proofs.Going.{does-beginning}
use Rattle.sr_dial.specs.Calls.{all_done}
use Rattle.sr_dial.specs.Following.{dids_of}
use Rattle.std.proofs.Common.{[], ◌∷◌, ◌++◌}
use Rattle.sr_dial_laws.proofs.laws.lists_are_done_in_order.Goals as goal

pub returns : goal.returns
returns g c k client address tasks ended old new before after run = does-beginning tasks (dids_of k.keeps (all_done (run.earlier ++ run.last ∷ []))) run.goes
