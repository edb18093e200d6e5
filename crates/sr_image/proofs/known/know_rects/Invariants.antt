use Rattle.std.proofs.Common.{◌≡◌, true, take}
use Rattle.std.specs.List.{list_all}
use Rattle.sr_bytes.specs.Spelling.{has_rect_bytes}
use Rattle.sr_image.proofs.known.know_rects.Given as goal

abbrev pub invariant-loop-rect : goal.invariant-loop-rect
invariant-loop-rect l = list_all has_rect_bytes (take l.rect-index l.rects) ≡ true
