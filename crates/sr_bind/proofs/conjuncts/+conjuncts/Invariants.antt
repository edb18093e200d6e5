use Rattle.std.proofs.Common.{◌≡◌, ◌++◌, drop, map}
use Rattle.std.specs.Prelude.{IsTrue, Ok}
use Rattle.std.specs.List.{list_all}
use Rattle.sr_query.specs.Binding.{◌>>=◌}
use Rattle.sr_query.specs.Meant.{meant}
use Rattle.sr_bind.specs.AreBound.{are_bound}
use Rattle.sr_bind.specs.Conjuncts.{all_conjuncts_in}
use Rattle.sr_bind.proofs.conjuncts.+conjuncts.Given as goal

abbrev pub invariant-all_conjuncts_in-loop-cond : goal.invariant-all_conjuncts_in-loop-cond
invariant-all_conjuncts_in-loop-cond l = record {
  decided : all_conjuncts_in l.schema l.tables l.conds
      ≡ (all_conjuncts_in l.schema l.tables (drop l.cond-index l.conds) >>= λ more. Ok (map meant l.found ++ more));
  suits : IsTrue (list_all (are_bound l.schema l.tables) (map meant l.found));
}
