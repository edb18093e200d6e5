use Rattle.std.proofs.Common.{◌≡◌, drop}
use Rattle.std.specs.Prelude.{◌++◌, IsTrue, Ok}
use Rattle.std.specs.List.{list_all}
use Rattle.sr_query.specs.Binding.{value_of, each, ◌>>=◌}
use Rattle.sr_condition.specs.Suits.{cell_suits}
use Rattle.sr_bind.proofs.values.values_of.Given as goal

abbrev pub invariant-loop-literal : goal.invariant-loop-literal
invariant-loop-literal l = record {
  decided : each (value_of l.kind) l.literals ≡ (each (value_of l.kind) (drop l.literal-index l.literals) >>= λ more. Ok (l.values ++ more));
  suits : IsTrue (list_all (cell_suits l.kind) l.values);
}
