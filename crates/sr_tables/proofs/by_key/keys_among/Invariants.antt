use Rattle.std.proofs.Common.{◌≡◌, ◌++◌, drop, map}
use Rattle.std.specs.Prelude.{filter}
use Rattle.sr_box.specs.Points.{in_any}
use Rattle.sr_tables.specs.ByKey.{keys_of}
use Rattle.sr_tables.proofs.by_key.keys_among.Given as goal

abbrev pub invariant-loop-i : goal.invariant-loop-i
invariant-loop-i l = l.keys ++ keys_of l.key (filter (in_any l.rects) (map (λ r. r.now) (drop l.i l.rows))) ≡ keys_of l.key (filter (in_any l.rects) (map (λ r. r.now) l.rows))
