use Rattle.std.proofs.Common.{◌≡◌, drop}
use Rattle.sr_query.specs.Binding.{is_among}
use Rattle.sr_bind.specs.Written.{columns_of}
use Rattle.sr_bind.proofs.updates.is_set.Given as goal

abbrev pub invariant-loop-place : goal.invariant-loop-place
invariant-loop-place l = is_among (columns_of (drop l.place-index l.earlier)) l.column ≡ is_among (columns_of l.earlier) l.column
