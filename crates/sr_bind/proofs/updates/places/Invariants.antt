use Rattle.std.proofs.Common.{◌≡◌, ◌++◌, drop, [], map}
use Rattle.std.specs.Prelude.{Ok}
use Rattle.sr_query.specs.Binding.{◌>>=◌}
use Rattle.sr_query.specs.Writes.{places_from}
use Rattle.sr_query.specs.Written.{place_of}
use Rattle.sr_bind.specs.Written.{columns_of}
use Rattle.sr_bind.proofs.updates.places.Given as goal

abbrev pub invariant-loop-set : goal.invariant-loop-set
invariant-loop-set l =
    places_from l.table [] l.sets ≡ (places_from l.table (columns_of l.places) (drop l.set-index l.sets) >>= λ more. Ok (map place_of l.places ++ more))
