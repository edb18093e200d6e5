use Rattle.sr_semi.proofs.Telling.{texts-go-down}
use Rattle.sr_semi.proofs.laws.texts_go_down.Goals as goal

pub returns : goal.returns
returns c = texts-go-down
