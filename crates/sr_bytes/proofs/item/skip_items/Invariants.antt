use Rattle.std.proofs.Common.{◌≡◌, ◌-◌}
use Rattle.sr_bytes.proofs.Skipping.{skipped}
use Rattle.sr_bytes.proofs.item.skip_items.Given as goal

abbrev pub invariant-loop : goal.invariant-loop
invariant-loop g l = skipped g.T.Item.reader (l.count - l.counter) l.bytes ≡ skipped g.T.Item.reader l.count l.initial.bytes
