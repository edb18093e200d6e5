use Rattle.std.proofs.Common.{◌≡◌, drop, map}
use Rattle.sr_query.specs.Written.{place_of}
use Rattle.sr_model.specs.Statements.{places_fault}
use Rattle.sr_tables.proofs.places.places_fault.Given as goal

abbrev pub invariant-loop-i : goal.invariant-loop-i
invariant-loop-i l = places_fault l.table (map place_of l.sets) ≡ places_fault l.table (map place_of (drop l.i l.sets))
