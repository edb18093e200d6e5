use Rattle.sr_tables.proofs.Ends.{between-up_to}
use Rattle.sr_tables.proofs.span.high_tested.Goals as goal

pub returns-in-Between : goal.returns-in-Between
returns-in-Between c v kind passes = between-up_to v _ _ (rw c.in-Between.is at passes)
