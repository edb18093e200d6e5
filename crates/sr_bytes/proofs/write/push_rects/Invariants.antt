use Rattle.std.proofs.Common.{◌≡◌, ◌++◌, length, take, true}
use Rattle.std.specs.List.{flat_map, list_all}
use Rattle.sr_bytes.specs.Spelling.{count_bytes, rect_bytes, has_rect_bytes}
use Rattle.sr_bytes.proofs.write.push_rects.Given as goal

abbrev pub invariant-loop-rect : goal.invariant-loop-rect
invariant-loop-rect l = (l.out ≡ l.fn.out ++ (count_bytes (length l.rects) ++ flat_map rect_bytes (take l.rect-index l.rects))) × (list_all has_rect_bytes (take l.rect-index l.rects) ≡ true)
