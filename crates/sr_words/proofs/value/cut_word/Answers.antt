use Rattle.std.proofs.Common.{sym}
use Rattle.sr_words.proofs.Cuts.{uncut}
use Rattle.sr_words.proofs.value.cut_word.Goals as goal

pub returns-in-None : goal.returns-in-None
returns-in-None c = sym (uncut c.args.word.now c.in-None.ensures.cases)
