use Rattle.std.proofs.Common.{◌≡◌, drop}
use Rattle.sr_image.specs.Index.{covers}
use Rattle.sr_image.proofs.index.covers.Given as goal

abbrev pub invariant-loop-i : goal.invariant-loop-i
invariant-loop-i l = covers l.hull l.rect ≡ covers (drop l.i l.wide) (drop l.i l.spans)
