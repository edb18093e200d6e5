use Rattle.std.proofs.Common.{take}
use Rattle.sr_union.specs.Pieces.{IsWithin}
use Rattle.sr_union.proofs.search.all_inside.Given as goal

abbrev pub invariant-loop-rect : goal.invariant-loop-rect
invariant-loop-rect l = IsWithin l.columns (take l.rect-index l.rect-items) l.others
