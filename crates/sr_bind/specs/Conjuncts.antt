-- The conjuncts of conditions.
use Rattle.std.specs.Prelude.{ℕ, List, [], ◌∷◌, map, Result, Ok}
use Rattle.sr_cell.specs.declared.fault.Fault.{Fault}
use Rattle.sr_cell.specs.declared.table.Table.{Table}
use Rattle.sr_grammar.specs.declared.statement.Cond.{Cond}
use Rattle.sr_grammar.specs.Seen.{cond_seen}
use Rattle.sr_grammar.specs.Trees as tree
use Rattle.sr_query.specs.Binding.{◌>>=◌, Bound, bound, bound_all, conjuncts, all_conjuncts}

abbrev pub conjuncts_in : List Table → List ℕ → tree.Cond → Result (List Bound) Fault
conjuncts_in schema tables c = bound schema tables c >>= λ b. Ok (conjuncts b)

abbrev pub all_conjuncts_in : List Table → List ℕ → List Cond → Result (List Bound) Fault
all_conjuncts_in schema tables cs = bound_all schema tables (tree.conds_of (map cond_seen cs)) >>= λ bs. Ok (all_conjuncts bs)

-- the condition itself
abbrev pub alone : List Table → List ℕ → tree.Cond → Result (List Bound) Fault
alone schema tables c = bound schema tables c >>= λ b. Ok (b ∷ [])
