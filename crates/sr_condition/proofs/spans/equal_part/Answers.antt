use Rattle.sr_model.specs.Conditions.{passes, Eq}
use Rattle.sr_model.specs.Ends.{places_of}
use Rattle.sr_condition.proofs.Parts.{part-spans}
use Rattle.sr_condition.proofs.spans.equal_part.Goals as goal

pub returns : goal.returns
returns c = rw c.part_of.ensures (part-spans c.args.column.now (passes (Eq c.args.value.now)) (places_of (Eq c.args.value.now)) c.in_ok-bounds.bounds c.in_ok-bounds.ensures)
