use Rattle.std.proofs.Common.{◌≡◌, take}
use Rattle.sr_box.proofs.rect.copy_spans.Given as goal

abbrev pub invariant-loop-span : goal.invariant-loop-span
invariant-loop-span l = l.same ≡ take l.span-index l.spans
