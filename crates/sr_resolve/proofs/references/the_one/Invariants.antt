use Rattle.std.proofs.Common.{◌≡◌, ◌++◌, drop, map, IsTrue}
use Rattle.std.specs.Prelude.{IfSome, option_to_list}
use Rattle.sr_query.specs.Binding.{the_one, outputs_named}
use Rattle.sr_query.specs.Bound.{output_of}
use Rattle.sr_resolve.specs.Known.{is_within}
use Rattle.sr_resolve.proofs.references.the_one.Given as goal

abbrev pub invariant-loop-part : goal.invariant-loop-part
invariant-loop-part l =
    (the_one l.place (map output_of (option_to_list l.found) ++ outputs_named l.schema l.part (drop l.part l.tables) l.name) ≡ the_one l.place (outputs_named l.schema 0 l.tables l.name))
    × IfSome l.found (λ o. IsTrue (is_within l.schema l.tables (output_of o)))
