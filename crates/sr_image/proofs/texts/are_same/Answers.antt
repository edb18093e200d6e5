use Rattle.std.proofs.Common.{sym, arith}
use Rattle.sr_image.proofs.Alike.{same_texts-length}
use Rattle.sr_image.proofs.texts.are_same.Goals as goal

pub returns-then-found-texts : goal.returns-then-found-texts
returns-then-found-texts c = sym (same_texts-length c.args.found.now c.args.texts.now (λ same. omega (arith, same, c.if-found-texts.true)))
