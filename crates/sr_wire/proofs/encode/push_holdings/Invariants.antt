use Rattle.std.proofs.Common.{◌≡◌, ◌++◌, length, take, true}
use Rattle.std.specs.List.{flat_map, list_all}
use Rattle.sr_bytes.specs.Spelling.{count_bytes}
use Rattle.sr_wire.specs.Spelling.{holding_bytes, has_holding_bytes}
use Rattle.sr_wire.proofs.encode.push_holdings.Given as goal

abbrev pub invariant-loop-holding : goal.invariant-loop-holding
invariant-loop-holding l = (l.out ≡ l.fn.out ++ (count_bytes (length l.holdings) ++ flat_map (holding_bytes l.wire) (take l.holding-index l.holdings))) × (list_all (has_holding_bytes l.wire) (take l.holding-index l.holdings) ≡ true)
