use Rattle.std.proofs.Common.{◌≡◌, drop, map}
use Rattle.std.specs.Prelude.{IsTrue, Ok}
use Rattle.std.specs.List.{list_all}
use Rattle.sr_grammar.specs.Seen.{cond_seen}
use Rattle.sr_grammar.specs.Trees.{conds_of}
use Rattle.sr_query.specs.Binding.{◌>>=◌, bound_all}
use Rattle.sr_query.specs.Meant.{meant}
use Rattle.sr_bind.specs.AreBound.{are_bound}
use Rattle.sr_bind.proofs.Members.{behind}
use Rattle.sr_bind.proofs.conditions.+cond.Given as goal

abbrev pub invariant-bind_all-loop-cond : goal.invariant-bind_all-loop-cond
invariant-bind_all-loop-cond l = record {
  decided : bound_all l.schema l.tables (conds_of (map cond_seen l.conds))
      ≡ (bound_all l.schema l.tables (conds_of (map cond_seen (drop l.cond-index l.conds))) >>= λ more. Ok (behind (map meant l.members) more));
  suits : IsTrue (list_all (are_bound l.schema l.tables) (map meant l.members));
}
