use Rattle.std.proofs.Common.{◌≡◌, ◌++◌, drop, map}
use Rattle.std.specs.Prelude.{filter}
use Rattle.sr_query.specs.Written.{place_of, condition_of}
use Rattle.sr_model.specs.Statements.{is_changed}
use Rattle.sr_tables.specs.Steps.{update_change}
use Rattle.sr_tables.proofs.update.changes_among.Given as goal

abbrev pub invariant-loop-i : goal.invariant-loop-i
invariant-loop-i l =
    l.changes
    ++ map (update_change l.number l.key (map place_of l.sets) (condition_of l.wanted.condition)) (filter (is_changed (map place_of l.sets) (condition_of l.wanted.condition)) (map (λ r. r.now) (drop l.i l.rows)))
    ≡ map (update_change l.number l.key (map place_of l.sets) (condition_of l.wanted.condition)) (filter (is_changed (map place_of l.sets) (condition_of l.wanted.condition)) (map (λ r. r.now) l.rows))
