use Rattle.std.proofs.Common.{◌∙◌}
use Rattle.sr_keyed.proofs.Entries.{lookup-row}
use Rattle.sr_keyed.proofs.keyed.KeyedRows.get.Goals as goal

pub returns : goal.returns
returns c = rw (← c.self.view_is) (c.get.ensures.value ∙ lookup-row c.self.inside.key c.self.inside.kind c.args.key.now c.self.inside.rows.entries c.self.invariant.0)
