use Rattle.std.proofs.Common.{◌≡◌, drop}
use Rattle.sr_image.specs.Reading.{same_texts}
use Rattle.sr_image.proofs.texts.are_same.Given as goal

abbrev pub invariant-loop-i : goal.invariant-loop-i
invariant-loop-i l = same_texts l.found l.texts ≡ same_texts (drop l.i l.found) (drop l.i l.texts)
