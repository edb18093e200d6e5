use Rattle.sr_regions.proofs.Telling.{named-all}
use Rattle.sr_regions.proofs.index.index_of.Goals as goal

pub returns-in-Err : goal.returns-in-Err
returns-in-Err c = λ n g there. named-all n g
