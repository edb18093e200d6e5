use Rattle.std.proofs.Common.{◌≡◌, ◌++◌, length, take, true}
use Rattle.std.specs.List.{flat_map, list_all}
use Rattle.sr_bytes.specs.Spelling.{count_bytes}
use Rattle.sr_wire.specs.Spelling.{tell_bytes, has_tell_bytes}
use Rattle.sr_wire.proofs.encode.push_told.Given as goal

abbrev pub invariant-loop-tell : goal.invariant-loop-tell
invariant-loop-tell l = (l.out ≡ l.fn.out ++ (count_bytes (length l.told) ++ flat_map tell_bytes (take l.tell-index l.told))) × (list_all has_tell_bytes (take l.tell-index l.told) ≡ true)
