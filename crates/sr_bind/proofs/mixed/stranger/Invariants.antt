use Rattle.std.proofs.Common.{◌≡◌, drop, map}
use Rattle.sr_query.specs.Binding.{stranger}
use Rattle.sr_bind.specs.Referred.{reference_of}
use Rattle.sr_bind.proofs.mixed.stranger.Given as goal

abbrev pub invariant-loop-reference : goal.invariant-loop-reference
invariant-loop-reference l = stranger l.part (map reference_of l.named) ≡ stranger l.part (map reference_of (drop l.reference-index l.named))
