use Rattle.sr_semi.proofs.Telling.{few-texts}
use Rattle.sr_semi.proofs.laws.few_texts.Goals as goal

pub returns : goal.returns
returns c = few-texts
