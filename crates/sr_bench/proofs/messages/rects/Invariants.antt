use Rattle.std.proofs.Common.{◌≡◌, true, length}
use Rattle.std.specs.List.{list_all}
use Rattle.sr_bytes.specs.Writing.{may_write_rect}
use Rattle.sr_bench.proofs.messages.rects.Given as goal

abbrev pub invariant-loop : goal.invariant-loop
invariant-loop l = (length l.rects ≡ l.counter) × (list_all may_write_rect l.rects ≡ true)
