use Rattle.std.proofs.Common.{◌≡◌, ◌++◌, drop, map}
use Rattle.std.specs.Prelude.{filter}
use Rattle.sr_query.specs.Written.{condition_of}
use Rattle.sr_model.specs.Statements.{meets}
use Rattle.sr_tables.specs.Steps.{delete_change}
use Rattle.sr_tables.proofs.delete.changes_among.Given as goal

abbrev pub invariant-loop-i : goal.invariant-loop-i
invariant-loop-i l =
    l.changes ++ map (delete_change l.number l.key) (filter (meets (condition_of l.wanted.condition)) (map (λ r. r.now) (drop l.i l.rows)))
    ≡ map (delete_change l.number l.key) (filter (meets (condition_of l.wanted.condition)) (map (λ r. r.now) l.rows))
