use Rattle.std.proofs.Common.{◌≡◌, drop}
use Rattle.std.specs.List.{list_all}
use Rattle.sr_session.specs.Refusals.{part_suits}
use Rattle.sr_server.proofs.misfit.all_parts_suit.Given as goal

abbrev pub invariant-loop-part : goal.invariant-loop-part
invariant-loop-part l = list_all (part_suits l.schema) l.parts ≡ list_all (part_suits l.schema) (drop l.part-index l.parts)
