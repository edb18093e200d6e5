use Rattle.sr_links.proofs.BroughtLemmas.{steps-go-by-told}
use Rattle.sr_links.proofs.laws.steps_go_by_told.Goals as goal

pub returns : goal.returns
returns g c = steps-go-by-told g.C.Hearer.has_told
