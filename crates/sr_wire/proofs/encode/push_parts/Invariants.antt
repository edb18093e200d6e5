use Rattle.std.proofs.Common.{◌≡◌, ◌∷◌, ◌++◌, length, take, true}
use Rattle.std.specs.List.{flat_map, list_all}
use Rattle.sr_wire.specs.Spelling.{part_bytes, has_part_bytes}
use Rattle.sr_wire.proofs.encode.push_parts.Given as goal

abbrev pub invariant-loop-part : goal.invariant-loop-part
invariant-loop-part l = (l.out ≡ l.fn.out ++ length l.parts ∷ flat_map part_bytes (take l.part-index l.parts)) × (list_all has_part_bytes (take l.part-index l.parts) ≡ true)
