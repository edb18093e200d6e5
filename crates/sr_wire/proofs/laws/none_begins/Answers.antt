use Rattle.std.proofs.Common.{[], sym, ◌∙◌}
use Rattle.std.proofs.lemmas.List.{append-nil}
use Rattle.sr_wire.specs.Spelling.{spelling}
use Rattle.sr_wire.proofs.Frames.{one_spelling}
use Rattle.sr_wire.proofs.laws.none_begins.Goals as goal

pub returns : goal.returns
returns c m k rest h g e = let same = one_spelling m k [] rest h g (append-nil (spelling m) ∙ e) in (same.0, sym same.1)
