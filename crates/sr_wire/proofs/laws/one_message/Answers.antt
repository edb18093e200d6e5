use Rattle.std.proofs.Common.{[], sym, ◌∙◌}
use Rattle.std.proofs.lemmas.List.{append-nil}
use Rattle.sr_wire.specs.Spelling.{spelling}
use Rattle.sr_wire.proofs.Frames.{one_spelling}
use Rattle.sr_wire.proofs.laws.one_message.Goals as goal

pub returns : goal.returns
returns c m k h g e = (one_spelling m k [] [] h g (append-nil (spelling m) ∙ e ∙ sym (append-nil (spelling k)))).0
