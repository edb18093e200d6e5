use Rattle.std.proofs.Common.{◌≡◌, ◌++◌, map}
use Rattle.std.specs.Option.{option_copied}
use Rattle.sr_keyed.specs.Keyed.{is_between}
use Rattle.sr_keyed.specs.Places.{rows_at}
use Rattle.sr_keyed.proofs.Order.{order}
use Rattle.sr_keyed.proofs.keyed.rows_at.Given as goal

abbrev pub invariant-loop-key : goal.invariant-loop-key
invariant-loop-key l =
    map (λ r. r.now) l.found.items ++ rows_at order (is_between l.column (option_copied l.fn.low) (option_copied l.fn.high)) l.rows.entries l.key-iterator
    ≡ rows_at order (is_between l.column (option_copied l.fn.low) (option_copied l.fn.high)) l.rows.entries l.keys.keys
