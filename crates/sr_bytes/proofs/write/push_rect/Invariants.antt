use Rattle.std.proofs.Common.{◌≡◌, ◌∷◌, ◌++◌, length, take, true}
use Rattle.std.specs.List.{flat_map, list_all}
use Rattle.sr_bytes.specs.Spelling.{span_bytes, has_span_bytes}
use Rattle.sr_bytes.proofs.write.push_rect.Given as goal

abbrev pub invariant-loop-span : goal.invariant-loop-span
invariant-loop-span l = (l.out ≡ l.fn.out ++ length l.rect ∷ flat_map span_bytes (take l.span-index l.rect)) × (list_all has_span_bytes (take l.span-index l.rect) ≡ true)
