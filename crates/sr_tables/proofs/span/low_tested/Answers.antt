use Rattle.sr_tables.proofs.Ends.{between-from}
use Rattle.sr_tables.proofs.span.low_tested.Goals as goal

pub returns-in-Between : goal.returns-in-Between
returns-in-Between c v kind passes = between-from v _ _ (rw c.in-Between.is at passes)
