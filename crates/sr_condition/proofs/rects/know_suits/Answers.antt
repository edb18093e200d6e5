use Rattle.sr_condition.proofs.Members.{suits_at}
use Rattle.sr_condition.proofs.rects.know_suits.Goals as goal

pub returns : goal.returns
returns c = λ is. suits_at c.args.table.now c.args.all.now c.args.i c.args.member.now c.requires.suit c.requires.inside is
