use Rattle.std.proofs.Common.{◌≡◌, true, take}
use Rattle.std.specs.List.{list_all}
use Rattle.sr_bytes.specs.Spelling.{has_span_bytes}
use Rattle.sr_image.proofs.known.know_rect.Given as goal

abbrev pub invariant-loop-span : goal.invariant-loop-span
invariant-loop-span l = list_all has_span_bytes (take l.span-index l.rect) ≡ true
