use Rattle.std.proofs.Common.{◌≡◌, ◌∷◌, ◌++◌, length, take}
use Rattle.std.specs.List.{flat_map}
use Rattle.sr_image.specs.Spelling.{long_text_bytes}
use Rattle.sr_image.proofs.write.push_texts.Given as goal

abbrev pub invariant-loop-text : goal.invariant-loop-text
invariant-loop-text l = l.out ≡ l.fn.out ++ length l.texts ∷ flat_map long_text_bytes (take l.text-index l.texts)
