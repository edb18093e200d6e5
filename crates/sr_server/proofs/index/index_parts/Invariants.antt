use Rattle.std.proofs.Common.{◌≡◌}
use Rattle.sr_server.proofs.index.index_parts.Given as goal

abbrev pub invariant-loop-part : goal.invariant-loop-part
invariant-loop-part l = l.tables ≡ l.fn.tables
