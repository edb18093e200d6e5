use Rattle.std.proofs.Common.{List, length}
use Rattle.std.specs.List.{AllZip}
use Rattle.sr_cell.specs.declared.cause.Cause.TheVariants.{Rows}
use Rattle.sr_cell.specs.declared.table.Table.{Table}
use Rattle.sr_store.specs.Fitted.{count_rows, IsViewOf}
use Rattle.sr_store.proofs.Views.{DropsSoFar}
use Rattle.sr_store.proofs.fit.Fitting.drop_for_rows.Given as goal

abbrev pub invariant-loop-limits : goal.invariant-loop-limits
invariant-loop-limits l = (schema : List Table) → AllZip (IsViewOf schema) l.initial.self.regions l.initial.self.views
    → DropsSoFar schema l.limits.policy l.last Rows count_rows l.limits.rows l.initial.self l.self

abbrev pub decreases-loop-limits : goal.decreases-loop-limits
decreases-loop-limits l = length l.self.regions
