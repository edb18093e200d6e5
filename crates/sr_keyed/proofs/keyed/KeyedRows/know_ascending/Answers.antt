use Rattle.sr_keyed.proofs.Entries.{sorted-ascend}
use Rattle.sr_keyed.proofs.keyed.KeyedRows.know_ascending.Goals as goal

pub returns : goal.returns
returns c = rw (← c.self.view_is) (sorted-ascend c.self.inside.key c.self.inside.kind c.self.inside.rows.entries c.self.invariant.0 c.self.invariant.1)
