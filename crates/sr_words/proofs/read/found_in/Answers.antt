use Rattle.std.proofs.Common.{inl, inr, arith}
use Rattle.std.proofs.lemmas.Bool.{and_parts}
use Rattle.sr_words.proofs.Forms.{taken, refused}
use Rattle.sr_words.proofs.read.found_in.Goals as goal

pub returns-in-Ok-clause-found : goal.returns-in-Ok-clause-found
returns-in-Ok-clause-found c =
    taken _ _ _ (c.in-Ok.ensures.kinds c.requires) (c.in-Ok.ensures.matches (and_parts _ _ c.requires).0).0

pub returns-clause-refused : goal.returns-clause-refused
returns-clause-refused c = λ _. elim (c.in-Err.ensures.kinds c.requires) [
  | inl memory ↦ absurd (grind arith)
  | inr among ↦ refused _ _ _ among
]
