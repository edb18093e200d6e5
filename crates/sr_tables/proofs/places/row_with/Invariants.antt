use Rattle.std.proofs.Common.{◌≡◌, drop, map}
use Rattle.sr_query.specs.Written.{place_of}
use Rattle.sr_model.specs.Statements.{with_places}
use Rattle.sr_tables.proofs.places.row_with.Given as goal

abbrev pub invariant-loop-i : goal.invariant-loop-i
invariant-loop-i l = with_places (map place_of l.sets) l.row ≡ with_places (map place_of (drop l.i l.sets)) l.new
