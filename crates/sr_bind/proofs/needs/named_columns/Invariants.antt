use Rattle.std.proofs.Common.{◌≡◌, ◌++◌, drop, length, map, flat_map}
use Rattle.std.specs.Prelude.{IsTrue}
use Rattle.std.specs.List.{list_all}
use Rattle.sr_query.specs.Binding.{join_columns}
use Rattle.sr_query.specs.Bound.{output_of}
use Rattle.sr_resolve.specs.Joined.{join_of}
use Rattle.sr_bind.specs.Needs.{is_joined}
use Rattle.sr_bind.proofs.needs.named_columns.Given as goal

abbrev pub invariant-loop-join : goal.invariant-loop-join
invariant-loop-join l = record {
  columns :
      map output_of l.named ++ flat_map join_columns (map (join_of l.schema l.tables) (drop l.join-index l.joins))
      ≡ map output_of l.outputs ++ flat_map join_columns (map (join_of l.schema l.tables) l.joins);
  joined : IsTrue (list_all (is_joined (length l.tables)) (map (join_of l.schema l.tables) (drop l.join-index l.joins)));
}
