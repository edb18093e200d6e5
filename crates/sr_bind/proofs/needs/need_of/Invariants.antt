use Rattle.std.proofs.Common.{◌≡◌, ◌^◌, drop, map}
use Rattle.std.specs.Prelude.{IsTrue}
use Rattle.std.specs.List.{list_all}
use Rattle.sr_query.specs.Binding.{needed}
use Rattle.sr_query.specs.Bound.{output_of}
use Rattle.sr_bind.specs.Needs.{is_low}
use Rattle.sr_bind.proofs.needs.need_of.Given as goal

abbrev pub invariant-loop-output : goal.invariant-loop-output
invariant-loop-output l = record {
  need : needed l.part (map output_of l.named) (2 ^ l.key) ≡ needed l.part (map output_of (drop l.output-index l.named)) l.bits;
  low : IsTrue (list_all is_low (map output_of (drop l.output-index l.named)));
}
