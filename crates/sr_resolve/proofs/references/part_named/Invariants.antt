use Rattle.std.proofs.Common.{◌≡◌, drop}
use Rattle.sr_query.specs.Binding.{part_named}
use Rattle.sr_resolve.proofs.references.part_named.Given as goal

abbrev pub invariant-loop-part : goal.invariant-loop-part
invariant-loop-part l = part_named l.schema l.part (drop l.part l.tables) l.name ≡ part_named l.schema 0 l.tables l.name
