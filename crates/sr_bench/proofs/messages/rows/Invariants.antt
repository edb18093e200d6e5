use Rattle.std.proofs.Common.{◌≡◌, true, length}
use Rattle.std.specs.List.{list_all}
use Rattle.sr_bytes.specs.Writing.{may_write_row}
use Rattle.sr_bench.proofs.messages.rows.Given as goal

abbrev pub invariant-loop : goal.invariant-loop
invariant-loop l = (length l.rows ≡ l.counter) × (list_all may_write_row l.rows ≡ true)
