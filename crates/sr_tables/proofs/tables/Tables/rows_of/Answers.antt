use Rattle.std.proofs.Common.{subst}
use Rattle.std.specs.Slice.{IsItemAt}
use Rattle.sr_tables.proofs.ByTable.{read-at}
use Rattle.sr_tables.proofs.tables.Tables.rows_of.Goals as goal

pub returns-clause-key : goal.returns-clause-key
returns-clause-key c =
    rw (← c.self.view_is)
    (read-at c.self.inside.schema c.self.inside.rows.items c.args.table c.get.result c.self.invariant.1
    (subst (λ all. IsItemAt all c.args.table c.get.result) c.deref.ensures.value c.get.ensures.lookup)).0

pub returns-clause-rows : goal.returns-clause-rows
returns-clause-rows c =
    rw (← c.self.view_is)
    (read-at c.self.inside.schema c.self.inside.rows.items c.args.table c.get.result c.self.invariant.1
    (subst (λ all. IsItemAt all c.args.table c.get.result) c.deref.ensures.value c.get.ensures.lookup)).1

pub returns-clause-none : goal.returns-clause-none
returns-clause-none c =
    rw (← c.self.view_is)
    (read-at c.self.inside.schema c.self.inside.rows.items c.args.table c.get.result c.self.invariant.1
    (subst (λ all. IsItemAt all c.args.table c.get.result) c.deref.ensures.value c.get.ensures.lookup)).2
